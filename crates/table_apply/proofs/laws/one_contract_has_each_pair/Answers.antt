use Rattle.table_apply.proofs.Tables.{count, some}
use Rattle.table_apply.proofs.laws.one_contract_has_each_pair.Goals as goal

pub returns : goal.returns
returns c = record { count = count; some = some }
