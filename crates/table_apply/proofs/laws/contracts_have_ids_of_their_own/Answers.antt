use Rattle.table_apply.proofs.Tables.{ids}
use Rattle.table_apply.proofs.laws.contracts_have_ids_of_their_own.Goals as goal

pub returns : goal.returns
returns c = ids
