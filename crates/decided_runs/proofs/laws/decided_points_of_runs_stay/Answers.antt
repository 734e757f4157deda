use Rattle.decided_runs.proofs.Staying.{decided_goes_on, decided_ordered}
use Rattle.decided_runs.proofs.laws.decided_points_of_runs_stay.Goals as goal

pub returns-clause-told : goal.returns-clause-told
returns-clause-told c = decided_goes_on

pub returns-clause-one_path : goal.returns-clause-one_path
returns-clause-one_path c = decided_ordered
