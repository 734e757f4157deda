use Rattle.step_laws.proofs.Origins.{begins_at_greatest}
use Rattle.step_laws.proofs.tables.branches_begin_at_their_greatest_origin.Goals as goal

pub returns : goal.returns
returns c = begins_at_greatest
