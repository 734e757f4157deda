use Rattle.raft_laws.proofs.Moments.{deliveries_fit}
use Rattle.raft_laws.proofs.laws.deliveries_fit.Goals as goal

pub returns : goal.returns
returns g c nodes = deliveries_fit nodes g.E.RaftEntry.noop_entry
