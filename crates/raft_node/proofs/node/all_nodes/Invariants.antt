use Rattle.std.proofs.Common.{◌≡◌}
use Rattle.raft_vote.specs.Rows.{all_nodes}
use Rattle.raft_node.proofs.node.all_nodes.Given as goal

abbrev pub invariant-loop-n : goal.invariant-loop-n
invariant-loop-n l = l.nodes ≡ all_nodes l.n
