use Rattle.node_moves.proofs.Steps.{sends_each, sends_logs}
use Rattle.node_moves.proofs.laws.sends_of_steps.Goals as goal

pub returns-clause-each : goal.returns-clause-each
returns-clause-each c = sends_each

pub returns-clause-logs : goal.returns-clause-logs
returns-clause-logs c = sends_logs
