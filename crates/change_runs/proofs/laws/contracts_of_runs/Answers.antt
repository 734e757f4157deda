use Rattle.change_runs.proofs.AskedRuns.{contracts_stay}
use Rattle.change_runs.proofs.laws.contracts_of_runs.Goals as goal

pub returns : goal.returns
returns c = contracts_stay
