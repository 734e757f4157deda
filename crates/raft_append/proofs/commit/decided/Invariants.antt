use Rattle.std.proofs.Common.{◌≡◌, ◌≤◌, length}
use Rattle.raft_append.specs.Commit.{greatest, is_decided, decided}
use Rattle.raft_append.proofs.commit.decided.Given as goal

abbrev pub invariant-loop-index : goal.invariant-loop-index
invariant-loop-index g l = record { within : l.index ≤ length l.log; found : greatest (is_decided l.votes l.log l.peers) l.index ≡ decided l.votes l.log l.peers }

abbrev pub decreases-loop-index : goal.decreases-loop-index
decreases-loop-index g l = l.index
