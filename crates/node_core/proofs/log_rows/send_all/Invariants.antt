use Rattle.std.proofs.Common.{◌≡◌, ◌++◌}
use Rattle.node_core.specs.Step.{raft_outs}
use Rattle.node_core.proofs.log_rows.send_all.Given as goal

abbrev pub invariant-loop-to : goal.invariant-loop-to
invariant-loop-to l = l.out ++ raft_outs l.to-iterator.rest.items ≡ l.initial.out ++ raft_outs l.initial.to-iterator.rest.items
