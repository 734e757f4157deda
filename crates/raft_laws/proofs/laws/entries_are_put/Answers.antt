use Rattle.raft_laws.proofs.Sources.{are_put}
use Rattle.raft_laws.proofs.laws.entries_are_put.Goals as goal

pub returns : goal.returns
returns g c nodes events i = are_put nodes g.E.RaftEntry.noop_entry events i
