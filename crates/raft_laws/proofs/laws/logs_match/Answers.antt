use Rattle.raft_laws.proofs.Moments.{logs_match}
use Rattle.raft_laws.proofs.laws.logs_match.Goals as goal

pub returns : goal.returns
returns g c nodes = logs_match nodes g.E.RaftEntry.noop_entry
