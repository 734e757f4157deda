use Rattle.branch_history.proofs.PathLaws.{on_forward}
use Rattle.branch_history.proofs.laws.paths_grow.Goals as goal

pub returns : goal.returns
returns c = on_forward
