use Rattle.log_runs.proofs.LogWorldRuns.{run_facts}
use Rattle.log_runs.proofs.LogWorldLaws.{logs_agree, logs_longer}
use Rattle.log_runs.proofs.laws.committed_logs_of_runs.Goals as goal

pub returns-clause-agree : goal.returns-clause-agree
returns-clause-agree c = λ setup valid past h p q early later a b. logs_agree setup past h p q early later a b

pub returns-clause-longer : goal.returns-clause-longer
returns-clause-longer c = λ setup valid past h p early n. logs_longer setup past h p early n

pub returns-clause-still : goal.returns-clause-still
returns-clause-still c = λ setup valid past h n. (run_facts setup past h).caught n
