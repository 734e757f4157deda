use Rattle.raft_laws.proofs.Moments.{votes_last}
use Rattle.raft_laws.proofs.laws.votes_last.Goals as goal

pub returns : goal.returns
returns g c nodes = votes_last nodes g.E.RaftEntry.noop_entry
