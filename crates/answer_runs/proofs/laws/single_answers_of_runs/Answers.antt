use Rattle.answer_runs.proofs.Once.{once_answered}
use Rattle.answer_runs.proofs.laws.single_answers_of_runs.Goals as goal

pub returns : goal.returns
returns c = once_answered
