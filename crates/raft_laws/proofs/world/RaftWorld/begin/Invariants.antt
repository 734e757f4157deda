use Rattle.std.proofs.Common.{◌≡◌, ℕ, [], length}
use Rattle.raft_laws.specs.Net.{node_in}
use Rattle.raft_laws.proofs.world.RaftWorld.begin.Given as goal

abbrev pub invariant-loop-n : goal.invariant-loop-n
invariant-loop-n g l =
    record {
      count : length l.items.items ≡ l.n;
      each : (k : ℕ) → node_in l.nodes l.items.items k ≡ node_in l.nodes [] k;
    }
