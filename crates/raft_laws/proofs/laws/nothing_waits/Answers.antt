use Rattle.raft_laws.proofs.Still.{nothing_waits}
use Rattle.raft_laws.proofs.laws.nothing_waits.Goals as goal

pub returns : goal.returns
returns g c nodes = nothing_waits nodes g.E.RaftEntry.noop_entry
