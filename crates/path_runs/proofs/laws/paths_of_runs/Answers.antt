use Rattle.path_runs.proofs.PathOrder.{taken_before}
use Rattle.path_runs.proofs.Stays.{before_on}
use Rattle.path_runs.proofs.laws.paths_of_runs.Goals as goal

pub returns-clause-on_path : goal.returns-clause-on_path
returns-clause-on_path c = before_on

pub returns-clause-earlier : goal.returns-clause-earlier
returns-clause-earlier c = λ setup ok past run first later q is p i same apart on. taken_before setup ok past run first later q is p same on i apart
