use Rattle.seen_runs.proofs.Seats.{appended}
use Rattle.seen_runs.proofs.laws.appends_keep_own_steps.Goals as goal

pub returns : goal.returns
returns c = appended
