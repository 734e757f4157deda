use Rattle.raft_laws.proofs.Moments.{leaders_complete}
use Rattle.raft_laws.proofs.laws.leaders_complete.Goals as goal

pub returns : goal.returns
returns g c nodes = leaders_complete nodes g.E.RaftEntry.noop_entry
