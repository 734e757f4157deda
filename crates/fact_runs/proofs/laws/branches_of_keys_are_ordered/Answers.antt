use Rattle.path_facts.proofs.Contracts.{branches_rise, one_maker}
use Rattle.path_facts.proofs.Lives.{made_later, registered_later}
use Rattle.fact_runs.specs.KeyRuns.{key_run}
use Rattle.fact_runs.proofs.Makers.{log_facts}
use Rattle.fact_runs.proofs.laws.branches_of_keys_are_ordered.Goals as goal

pub returns-clause-tenures : goal.returns-clause-tenures
returns-clause-tenures c setup ok past run key = branches_rise (key_run setup past key) (log_facts setup ok past run key)

pub returns-clause-makers : goal.returns-clause-makers
returns-clause-makers c setup ok past run key = one_maker (key_run setup past key) (log_facts setup ok past run key)

pub returns-clause-lives : goal.returns-clause-lives
returns-clause-lives c setup ok past run key y z i j e =
    let r = key_run setup past key in
    let f = log_facts setup ok past run key in
    (λ l. made_later r f y z i j l e, λ l. registered_later r f y z i j e l)
