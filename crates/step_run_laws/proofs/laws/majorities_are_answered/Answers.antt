use Rattle.step_run_laws.proofs.Taking.{none_waits, answered}
use Rattle.step_run_laws.proofs.laws.majorities_are_answered.Goals as goal

pub returns-clause-none_is_left : goal.returns-clause-none_is_left
returns-clause-none_is_left c = λ setup ok past run n. none_waits setup past run n

pub returns-clause-done : goal.returns-clause-done
returns-clause-done c = λ setup ok past e run. answered setup past e run
