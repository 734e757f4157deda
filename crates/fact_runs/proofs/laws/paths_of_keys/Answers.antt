use Rattle.fact_runs.proofs.Branches.{paths_told}
use Rattle.fact_runs.proofs.laws.paths_of_keys.Goals as goal

pub returns : goal.returns
returns c = paths_told
