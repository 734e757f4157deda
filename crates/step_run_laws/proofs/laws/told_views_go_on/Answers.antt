use Rattle.step_run_laws.proofs.Going.{views_go_on}
use Rattle.step_run_laws.proofs.laws.told_views_go_on.Goals as goal

pub returns : goal.returns
returns c = λ setup ok past e run. views_go_on setup past e run
