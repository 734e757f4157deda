use Rattle.table_apply.proofs.Tables.{some_current, registered}
use Rattle.table_apply.proofs.laws.each_pair_has_a_current_branch.Goals as goal

pub returns : goal.returns
returns c = record { some = some_current; registered = registered }
