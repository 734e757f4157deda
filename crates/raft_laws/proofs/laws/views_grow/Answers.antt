use Rattle.raft_laws.proofs.Moments.{views_grow}
use Rattle.raft_laws.proofs.laws.views_grow.Goals as goal

pub returns : goal.returns
returns g c nodes = views_grow nodes g.E.RaftEntry.noop_entry
