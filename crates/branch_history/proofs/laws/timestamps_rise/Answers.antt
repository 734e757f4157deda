use Rattle.branch_history.proofs.Times.{times_fall, times_fall_within}
use Rattle.branch_history.proofs.laws.timestamps_rise.Goals as goal

pub returns : goal.returns
returns c = record { never_fall = times_fall; rise = times_fall_within }
