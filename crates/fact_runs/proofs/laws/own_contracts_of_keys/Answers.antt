use Rattle.fact_runs.proofs.Contracts.{own_contracts}
use Rattle.fact_runs.proofs.laws.own_contracts_of_keys.Goals as goal

pub returns : goal.returns
returns c = own_contracts
