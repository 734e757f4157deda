use Rattle.std.proofs.Common.{refl}
use Rattle.table_log.proofs.Acting.{nothing_left, no_results_left}
use Rattle.table_log.proofs.laws.catching_up_ends.Goals as goal

pub returns : goal.returns
returns c = record { table = λ s. refl; nothing = nothing_left; results = no_results_left }
