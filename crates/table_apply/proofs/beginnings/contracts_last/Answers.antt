use Rattle.table_apply.proofs.InForce.{in_force}
use Rattle.table_apply.proofs.beginnings.contracts_last.Goals as goal

pub returns : goal.returns
returns c = in_force
