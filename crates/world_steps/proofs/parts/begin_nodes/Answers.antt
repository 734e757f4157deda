-- One node more is that of the next number.
use Rattle.world_steps.proofs.States.{begun_next}
use Rattle.world_steps.proofs.parts.begin_nodes.Goals as goal

pub loop-n-preserved : goal.loop-n-preserved
loop-n-preserved c = begun_next _ c.loop-n.n _ _ _ c.loop-n.invariant c.in_ok-node.ensures c.in_ok-push.ensures.items
