use Rattle.log_runs.proofs.LogWorldLaws.{message_taken}
use Rattle.log_runs.proofs.laws.log_messages_of_runs.Goals as goal

pub returns : goal.returns
returns c = λ setup valid past h number e m at is. message_taken setup past h number e m at is
