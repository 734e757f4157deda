use Rattle.decided_runs.proofs.DonePoints.{done_decided}
use Rattle.decided_runs.proofs.laws.done_points_are_decided.Goals as goal

pub returns : goal.returns
returns c = done_decided
