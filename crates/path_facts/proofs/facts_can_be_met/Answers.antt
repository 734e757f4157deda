use Rattle.path_facts.proofs.Example.{facts, write_decided, goes_over, elected, asked}
use Rattle.path_facts.proofs.facts_can_be_met.Goals as goal

pub returns-clause-facts : goal.returns-clause-facts
returns-clause-facts c = facts

pub returns-clause-decided : goal.returns-clause-decided
returns-clause-decided c = write_decided

pub returns-clause-goes_over : goal.returns-clause-goes_over
returns-clause-goes_over c = goes_over

pub returns-clause-elected : goal.returns-clause-elected
returns-clause-elected c = elected

pub returns-clause-asked : goal.returns-clause-asked
returns-clause-asked c = asked
