use Rattle.key_runs.proofs.KeyedLaws.{answered_requested}
use Rattle.key_runs.proofs.laws.answers_of_runs.Goals as goal

pub returns : goal.returns
returns c = answered_requested
