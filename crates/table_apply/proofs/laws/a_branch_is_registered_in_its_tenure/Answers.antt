use Rattle.table_apply.proofs.Registering.{registers}
use Rattle.table_apply.proofs.laws.a_branch_is_registered_in_its_tenure.Goals as goal

pub returns : goal.returns
returns c = registers
