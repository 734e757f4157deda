use Rattle.std.proofs.Common.{◌≡◌, ◌++◌, drop}
use Rattle.node_core.specs.Step.{executions_from}
use Rattle.node_core.proofs.beginning.begin_executions.Given as goal

abbrev pub invariant-loop-place : goal.invariant-loop-place
invariant-loop-place l = l.executions.items ++ executions_from l.me.0 l.place (drop l.place l.shards) ≡ executions_from l.me.0 0 l.shards
