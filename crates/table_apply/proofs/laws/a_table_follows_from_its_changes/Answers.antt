use Rattle.table_apply.proofs.Tables.{depends}
use Rattle.table_apply.proofs.laws.a_table_follows_from_its_changes.Goals as goal

pub returns : goal.returns
returns c = depends
