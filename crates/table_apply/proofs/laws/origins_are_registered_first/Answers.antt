use Rattle.table_apply.proofs.Tables.{founded, histories}
use Rattle.table_apply.proofs.laws.origins_are_registered_first.Goals as goal

pub returns : goal.returns
returns c = record { founded = founded; history = histories }
