use Rattle.branch_history.proofs.Births.{none_on, unknown_on, outside_birth, inside_birth}
use Rattle.branch_history.proofs.laws.paths_follow_births.Goals as goal

pub returns : goal.returns
returns c = record { none = none_on; unknown = unknown_on; outside = outside_birth; inside = inside_birth }
