use Rattle.log_runs.proofs.LogWorldLaws.{views_are}
use Rattle.log_runs.proofs.laws.views_of_runs.Goals as goal

pub returns : goal.returns
returns c = λ setup valid past h n. views_are setup past h n
