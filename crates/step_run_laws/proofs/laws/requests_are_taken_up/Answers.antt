use Rattle.step_run_laws.proofs.Taking.{taken_dispatched, taken_refused}
use Rattle.step_run_laws.proofs.laws.requests_are_taken_up.Goals as goal

pub returns-clause-dispatched : goal.returns-clause-dispatched
returns-clause-dispatched c = λ setup ok past e run op key what is. taken_dispatched setup ok past e run op key what is

pub returns-clause-refused : goal.returns-clause-refused
returns-clause-refused c = λ setup ok past e run op key what is. taken_refused setup ok past e run op key what is
