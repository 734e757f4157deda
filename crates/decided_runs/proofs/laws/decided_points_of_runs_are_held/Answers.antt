use Rattle.path_facts.proofs.Held.{all_held, lasts}
use Rattle.fact_runs.specs.KeyRuns.{key_run}
use Rattle.fact_runs.proofs.Versions.{facts}
use Rattle.decided_runs.proofs.laws.decided_points_of_runs_are_held.Goals as goal

pub returns-clause-majority : goal.returns-clause-majority
returns-clause-majority c setup ok past run key d ds = all_held (key_run setup past key) (facts setup ok past run key) d ds

pub returns-clause-lasts : goal.returns-clause-lasts
returns-clause-lasts c setup ok past run key d = lasts (key_run setup past key) (facts setup ok past run key) d.birth d.timestamp d.is_in d.decided
