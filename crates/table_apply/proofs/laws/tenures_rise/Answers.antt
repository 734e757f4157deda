use Rattle.table_apply.proofs.Tables.{rise}
use Rattle.table_apply.proofs.laws.tenures_rise.Goals as goal

pub returns : goal.returns
returns c = rise
