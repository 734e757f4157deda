use Rattle.node_moves.proofs.Steps.{says_each, says_whole}
use Rattle.node_moves.proofs.laws.says_of_steps.Goals as goal

pub returns-clause-each : goal.returns-clause-each
returns-clause-each c = says_each

pub returns-clause-whole : goal.returns-clause-whole
returns-clause-whole c = says_whole
