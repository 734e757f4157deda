use Rattle.std.proofs.Common.{◌≡◌, drop}
use Rattle.node_core.specs.Saying.{execution_ack}
use Rattle.node_core.proofs.saying.execution_ack.Given as goal

abbrev pub invariant-loop-execution : goal.invariant-loop-execution
invariant-loop-execution l = execution_ack l.contract (drop l.execution-index l.executions) ≡ execution_ack l.contract l.executions
