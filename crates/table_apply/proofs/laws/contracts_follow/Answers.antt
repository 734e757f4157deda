use Rattle.table_apply.proofs.Tables.{follows}
use Rattle.table_apply.proofs.laws.contracts_follow.Goals as goal

pub returns : goal.returns
returns c = follows
