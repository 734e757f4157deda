use Rattle.id_runs.proofs.Makers.{made_at, made_in}
use Rattle.id_runs.proofs.laws.makers_of_runs.Goals as goal

pub returns-clause-node : goal.returns-clause-node
returns-clause-node c = made_at

pub returns-clause-life : goal.returns-clause-life
returns-clause-life c = made_in
