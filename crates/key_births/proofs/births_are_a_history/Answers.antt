use Rattle.key_births.proofs.Births.{history_at, timed_at, known_at}
use Rattle.key_births.proofs.births_are_a_history.Goals as goal

pub returns-clause-history : goal.returns-clause-history
returns-clause-history c = history_at

pub returns-clause-timed : goal.returns-clause-timed
returns-clause-timed c = timed_at

pub returns-clause-known : goal.returns-clause-known
returns-clause-known c = known_at
