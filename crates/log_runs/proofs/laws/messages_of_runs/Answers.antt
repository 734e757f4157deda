use Rattle.log_runs.proofs.Table.{message_within}
use Rattle.log_runs.proofs.laws.messages_of_runs.Goals as goal

pub returns-clause-from : goal.returns-clause-from
returns-clause-from c = λ setup valid past h number m e. (message_within setup valid past h number m e).0

pub returns-clause-to : goal.returns-clause-to
returns-clause-to c = λ setup valid past h number m e. (message_within setup valid past h number m e).1
