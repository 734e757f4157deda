use Rattle.answer_runs.proofs.ServedLaws.{serves_exactly}
use Rattle.answer_runs.proofs.laws.serving_of_runs.Goals as goal

pub returns : goal.returns
returns c = serves_exactly
