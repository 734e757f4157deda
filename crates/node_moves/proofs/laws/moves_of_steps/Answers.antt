use Rattle.node_moves.proofs.Steps.{moves_each, moves_parts}
use Rattle.node_moves.proofs.laws.moves_of_steps.Goals as goal

pub returns-clause-parts : goal.returns-clause-parts
returns-clause-parts c = moves_parts

pub returns-clause-keys : goal.returns-clause-keys
returns-clause-keys c = moves_each
