use Rattle.table_apply.proofs.Tables.{last}
use Rattle.table_apply.proofs.laws.tenures_last.Goals as goal

pub returns : goal.returns
returns c = last
