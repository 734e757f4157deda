use Rattle.std.proofs.Common.{◌≡◌, ◌++◌, map, take, drop}
use Rattle.std.specs.List.{flat_map}
use Rattle.primary_exec.specs.Execution.{decided, decide_outs}
use Rattle.node_core.proofs.rows.decide.Given as goal

abbrev pub invariant-loop-execution : goal.invariant-loop-execution
invariant-loop-execution l = record {
  executions : l.executions ≡ map decided (take l.execution-index l.initial.executions) ++ drop l.execution-index l.initial.executions;
  outs : l.out ≡ l.initial.out ++ flat_map decide_outs (take l.execution-index l.initial.executions);
}
