use Rattle.path_runs.proofs.BranchStarts.{starts_from, starts_answered}
use Rattle.path_runs.proofs.laws.starts_have_answered_points.Goals as goal

pub returns-clause-from : goal.returns-clause-from
returns-clause-from c = starts_from

pub returns-clause-answered : goal.returns-clause-answered
returns-clause-answered c = starts_answered
