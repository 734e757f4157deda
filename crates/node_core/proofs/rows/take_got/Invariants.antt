use Rattle.std.proofs.Common.{◌≡◌, ◌++◌, map, take, drop}
use Rattle.primary_exec.specs.Execution.{got_row}
use Rattle.node_core.proofs.rows.take_got.Given as goal

abbrev pub invariant-loop-execution : goal.invariant-loop-execution
invariant-loop-execution l = l.executions ≡ map (λ x. got_row x l.from l.got) (take l.execution-index l.initial.executions) ++ drop l.execution-index l.initial.executions
