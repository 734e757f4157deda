use Rattle.schedule_laws.proofs.Runs.{run-push}
use Rattle.schedule_laws.proofs.runs_go_on.Goals as goal

pub returns : goal.returns
returns g c happens events e w = run-push happens events e w
