use Rattle.branch_history.proofs.Grown.{paths_stay, points_stay, ancestors_stay}
use Rattle.branch_history.proofs.laws.paths_stay.Goals as goal

pub returns : goal.returns
returns c = record { path = paths_stay; points = points_stay; ancestor = ancestors_stay }
