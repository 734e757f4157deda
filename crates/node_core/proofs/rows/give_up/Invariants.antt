use Rattle.std.proofs.Common.{◌≡◌, ◌++◌, map, take, drop}
use Rattle.std.specs.List.{flat_map}
use Rattle.primary_exec.specs.Execution.{give_up_row, give_up_outs}
use Rattle.node_core.proofs.rows.give_up.Given as goal

abbrev pub invariant-loop-execution : goal.invariant-loop-execution
invariant-loop-execution l = record {
  executions : l.executions ≡ map (λ x. give_up_row x l.op) (take l.execution-index l.initial.executions) ++ drop l.execution-index l.initial.executions;
  outs : l.out ≡ l.initial.out ++ flat_map (λ x. give_up_outs x l.op) (take l.execution-index l.initial.executions);
}
