use Rattle.raft_laws.proofs.Committing.{leaders_commit}
use Rattle.raft_laws.proofs.laws.leaders_commit.Goals as goal

pub returns : goal.returns
returns g c nodes = leaders_commit nodes g.E.RaftEntry.noop_entry
