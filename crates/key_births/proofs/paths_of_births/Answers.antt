use Rattle.key_births.proofs.Births.{names, paths_at}
use Rattle.key_births.proofs.paths_of_births.Goals as goal

pub returns-clause-names : goal.returns-clause-names
returns-clause-names c = names

pub returns-clause-paths : goal.returns-clause-paths
returns-clause-paths c index bs h k v x i = paths_at index bs h k v x i
