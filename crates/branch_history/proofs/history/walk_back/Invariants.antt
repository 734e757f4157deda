use Rattle.std.proofs.Common.{◌≡◌, ℕ, List, drop}
use Rattle.region_map.specs.Maps.{value_at}
use Rattle.branch_history.specs.Histories.{HasHashes}
use Rattle.branch_history.specs.Walks.{walked_at}
use Rattle.branch_history.proofs.history.walk_back.Given as goal

abbrev pub invariant-loop-branch : goal.invariant-loop-branch
invariant-loop-branch l = record {
  hashes : l.walks.hashes ≡ l.initial.walks.hashes;
  rest : HasHashes (drop l.branch-index l.branches) l.walks.hashes;
  at : (h : ℕ) (k : List ℕ) → walked_at (drop l.branch-index l.branches) h k (value_at l.walks.pieces h k)
      ≡ walked_at l.branches h k (value_at l.initial.walks.pieces h k);
}
