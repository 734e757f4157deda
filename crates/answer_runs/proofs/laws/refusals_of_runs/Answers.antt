use Rattle.answer_runs.proofs.Refusals.{answered_not_served, not_served_answered}
use Rattle.answer_runs.proofs.laws.refusals_of_runs.Goals as goal

pub returns-clause-only : goal.returns-clause-only
returns-clause-only c = answered_not_served

pub returns-clause-always : goal.returns-clause-always
returns-clause-always c = not_served_answered
