-- Who acted first on what a node acts on.
use Rattle.std.specs.Prelude.{◌≡◌, ◌≤◌, ◌<◌, ◌⊎◌, ℕ, List, IsTrue}
use Rattle.std.specs.List.{AllByRecursion}
use Rattle.region_map.specs.declared.id.NodeId.{NodeId}
use Rattle.raft_vote.specs.declared.message.RaftMessage.{RaftMessage}
use Rattle.raft_vote.specs.declared.message.RaftMessage.TheVariants.{VoteAsk, VoteSay, Append, AppendSay}
use Rattle.raft_laws.specs.declared.event.RaftEvent.{RaftEvent}
use Rattle.raft_laws.specs.World.{Sent, World, moment, leads, term_of_node, log_of, committed}
use Rattle.raft_laws.specs.Laws.{IsFrontOf}

-- at a moment up to this one a leader acted on as much, in a term up to this one
pub record WasLed {E : Type 0} (nodes : ℕ) (noop : E) (events : List (NodeId × RaftEvent E)) (upto term view : ℕ) : Type 0 where
  pub at : ℕ
  pub earlier : at ≤ upto
  pub leader : ℕ
  pub leading : IsTrue (leads (moment nodes noop events at) leader)
  pub low : term_of_node (moment nodes noop events at) leader ≤ term
  pub reach : view ≤ ((moment nodes noop events at).node leader).view

abbrev pub IsLed : {E : Type 0} → ℕ → E → List (NodeId × RaftEvent E) → ℕ → ℕ → ℕ → Type 0
IsLed nodes noop events upto term view = (view ≡ 0) ⊎ WasLed nodes noop events upto term view

-- what a message lets a node act on, as the relation of terms and views wants it
abbrev pub ShowsFrom : {E : Type 0} → (ℕ → ℕ → Type 0) → RaftMessage E → Type 0
ShowsFrom from (VoteAsk term last_term last_index) = Unit {0}
ShowsFrom from (VoteSay term granted) = Unit {0}
ShowsFrom from (Append term prev prev_term entries commit) = from term commit
ShowsFrom from (AppendSay term ok upto) = Unit {0}

-- so the view of each node of a world, and every message that was ever sent there
pub record HasViews {E : Type 0} (from : ℕ → ℕ → Type 0) (w : World E) : Type 0 where
  pub views : (n : ℕ) → from (term_of_node w n) (w.node n).view
  pub sent : AllByRecursion (λ (m : Sent E). ShowsFrom from m.message) w.sent

-- what a node acts on at a moment, a leader acted on then or before, in a term up to the node's; and each leader of a later
-- term than that one's, at whatever moment, has it in its log, as has each later one of that same term
pub record IsCommitted {E : Type 0} (nodes : ℕ) (noop : E) (events : List (NodeId × RaftEvent E)) (i n : ℕ) : Type 0 where
  pub at : ℕ
  pub earlier : at ≤ i
  pub leader : ℕ
  pub leading : IsTrue (leads (moment nodes noop events at) leader)
  pub low : term_of_node (moment nodes noop events at) leader ≤ term_of_node (moment nodes noop events i) n
  pub acted : IsFrontOf (committed (moment nodes noop events i) n) (committed (moment nodes noop events at) leader)
  pub later_term : (j b : ℕ) → IsTrue (leads (moment nodes noop events j) b) → term_of_node (moment nodes noop events at) leader < term_of_node (moment nodes noop events j) b
      → IsFrontOf (committed (moment nodes noop events i) n) (log_of (moment nodes noop events j) b)
  pub later_moment : (j b : ℕ) → at ≤ j → IsTrue (leads (moment nodes noop events j) b) → term_of_node (moment nodes noop events at) leader ≤ term_of_node (moment nodes noop events j) b
      → IsFrontOf (committed (moment nodes noop events i) n) (log_of (moment nodes noop events j) b)

-- so at each moment of every run whatever a node acts on
abbrev pub LeadersCommit : {E : Type 0} → ℕ → E → Type 0
LeadersCommit {E} nodes noop = (events : List (NodeId × RaftEvent E)) (i n : ℕ) → 0 < ((moment nodes noop events i).node n).view → IsCommitted nodes noop events i n
