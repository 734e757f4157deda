use Rattle.step_runs.proofs.PointRuns.{rise, lives}
use Rattle.step_runs.proofs.laws.points_of_runs.Goals as goal

pub returns-clause-rise : goal.returns-clause-rise
returns-clause-rise c = rise

pub returns-clause-lives : goal.returns-clause-lives
returns-clause-lives c = lives
