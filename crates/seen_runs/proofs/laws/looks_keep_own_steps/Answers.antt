use Rattle.seen_runs.proofs.Seats.{looked}
use Rattle.seen_runs.proofs.laws.looks_keep_own_steps.Goals as goal

pub returns : goal.returns
returns c = looked
