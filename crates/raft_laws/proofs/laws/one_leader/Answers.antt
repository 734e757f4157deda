use Rattle.raft_laws.proofs.Moments.{one_leader}
use Rattle.raft_laws.proofs.laws.one_leader.Goals as goal

pub returns : goal.returns
returns g c nodes = one_leader nodes g.E.RaftEntry.noop_entry
