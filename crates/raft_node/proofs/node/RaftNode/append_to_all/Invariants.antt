use Rattle.std.proofs.Common.{◌≡◌, map, take}
use Rattle.raft_node.specs.Rows.{append_to}
use Rattle.raft_node.proofs.node.RaftNode.append_to_all.Given as goal

abbrev pub invariant-loop-n : goal.invariant-loop-n
invariant-loop-n g l = l.sent.items ≡ map (λ n. (n, append_to l.self n)) (take l.n-index l.n-items)
