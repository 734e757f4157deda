use Rattle.std.proofs.Common.{arith}
use Rattle.raft_laws.proofs.Nets.{reached_begins}
use Rattle.raft_laws.proofs.world.RaftWorld.begin.Goals as goal

pub invariant_of-result : goal.invariant_of-result
invariant_of-result g c =
    reached_begins g.E.RaftEntry.noop_entry c.args.nodes _ _ _ (omega arith) (c.in_ok-up.ensures.items_if_clones_equal (λ y e. e)) c.new.ensures.items c.requires c.loop-n.invariant.each
