use Rattle.raft_laws.proofs.Moments.{nodes_agree}
use Rattle.raft_laws.proofs.laws.nodes_agree.Goals as goal

pub returns : goal.returns
returns g c nodes = nodes_agree nodes g.E.RaftEntry.noop_entry
