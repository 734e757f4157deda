use Rattle.step_run_laws.proofs.Planning.{asked_is_appended}
use Rattle.step_run_laws.proofs.laws.leaders_append_what_is_asked.Goals as goal

pub returns : goal.returns
returns c = asked_is_appended
