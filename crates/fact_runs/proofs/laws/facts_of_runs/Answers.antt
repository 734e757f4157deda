use Rattle.fact_runs.proofs.Versions.{facts}
use Rattle.fact_runs.proofs.laws.facts_of_runs.Goals as goal

pub returns : goal.returns
returns c = facts
