use Rattle.seen_runs.proofs.Seats.{closed}
use Rattle.seen_runs.proofs.laws.runs_of_seen_lists.Goals as goal

pub returns : goal.returns
returns c = closed
