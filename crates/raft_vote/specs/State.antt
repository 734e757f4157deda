-- What clients see of a node that votes.
use Rattle.std.specs.Prelude.{ℕ, List, Option}
use Rattle.region_map.specs.declared.id.NodeId.{NodeId}
use Rattle.raft_vote.specs.declared.votes.Role.{Role}

pub record VoteState : Type 0 where
  pub me : NodeId
  pub nodes : List ℕ  -- all nodes
  pub term : ℕ
  pub vote : Option NodeId  -- in this term
  pub role : Role
  pub leader : Option NodeId  -- whom it knows to lead this term
