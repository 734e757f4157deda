use Rattle.branch_history.proofs.PathLaws.{zero_on, on_self, on_trans, on_linear, on_antisym}
use Rattle.branch_history.proofs.Times.{times_tell}
use Rattle.branch_history.proofs.laws.paths_are_ordered.Goals as goal

pub returns : goal.returns
returns c = record { zero = zero_on; itself = on_self; transitive = on_trans; linear = on_linear; antisymmetric = on_antisym; timestamps = times_tell }
