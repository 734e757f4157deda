use Rattle.raft_laws.proofs.Nets.{committed_agrees}
use Rattle.raft_laws.proofs.world.RaftWorld.committed.Goals as goal

pub returns-clause-agree : goal.returns-clause-agree
returns-clause-agree g c other =
    committed_agrees g.E.RaftEntry.noop_entry _ _ _ _ c.self.invariant c.args.self.now c.self.view_is c.args.node.0 c.acted_on.result.now c.acted_on.ensures other
