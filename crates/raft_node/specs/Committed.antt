-- What a node acts on stays.
use Rattle.std.specs.Prelude.{◌≡◌, ◌≤◌, take}
use Rattle.raft_node.specs.State.{RaftState}

-- the second state acts on all that the first one does, and maybe on more
pub record KeepsCommitted {E : Type 0} (s t : RaftState E) : Type 0 where
  pub rises : s.view ≤ t.view
  pub same : take s.view t.log ≡ take s.view s.log
