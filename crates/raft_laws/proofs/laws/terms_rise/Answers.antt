use Rattle.raft_laws.proofs.Moments.{terms_rise}
use Rattle.raft_laws.proofs.laws.terms_rise.Goals as goal

pub returns : goal.returns
returns g c nodes = terms_rise nodes g.E.RaftEntry.noop_entry
