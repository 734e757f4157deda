use Rattle.path_facts.proofs.Contracts.{branches_rise, one_maker}
use Rattle.path_facts.proofs.Lives.{made_later, registered_later}
use Rattle.path_facts.proofs.branches_are_ordered.Goals as goal

pub returns-clause-tenures : goal.returns-clause-tenures
returns-clause-tenures g c r f = branches_rise r f

pub returns-clause-makers : goal.returns-clause-makers
returns-clause-makers g c r f = one_maker r f

pub returns-clause-lives : goal.returns-clause-lives
returns-clause-lives g c r f y z i j e = (λ l. made_later r f y z i j l e, λ l. registered_later r f y z i j e l)
