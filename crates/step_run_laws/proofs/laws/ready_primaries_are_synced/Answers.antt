use Rattle.step_run_laws.proofs.Readies.{says_rightly}
use Rattle.step_run_laws.proofs.laws.ready_primaries_are_synced.Goals as goal

pub returns : goal.returns
returns c = λ setup ok past e run. says_rightly setup past e run
