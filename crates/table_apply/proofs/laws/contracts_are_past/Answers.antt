use Rattle.table_apply.proofs.Tables.{past}
use Rattle.table_apply.proofs.laws.contracts_are_past.Goals as goal

pub returns : goal.returns
returns c = past
