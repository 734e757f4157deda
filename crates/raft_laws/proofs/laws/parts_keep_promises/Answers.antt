use Rattle.raft_laws.proofs.Parts.{in_run_fits, keeps_promises}
use Rattle.raft_laws.proofs.laws.parts_keep_promises.Goals as goal

pub returns-clause-fits : goal.returns-clause-fits
returns-clause-fits g c nodes w = in_run_fits nodes g.E.RaftEntry.noop_entry w

pub returns-clause-promises : goal.returns-clause-promises
returns-clause-promises g c nodes part = keeps_promises nodes g.E.RaftEntry.noop_entry part
