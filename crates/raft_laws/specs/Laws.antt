-- What holds at all moments of every run of these nodes, for every list of events.
use Rattle.std.specs.Prelude.{◌≡◌, ◌≤◌, ◌<◌, ◌⊎◌, ℕ, List, ◌++◌, length, take, IsTrue, Some}
use Rattle.region_map.specs.declared.id.NodeId.{NodeId}
use Rattle.raft_vote.specs.Log.{term_at}
use Rattle.raft_node.specs.declared.input.RaftInput.TheVariants.{Deliver}
use Rattle.raft_node.specs.Rows.{advanced, is_well_formed}
use Rattle.raft_laws.specs.declared.event.RaftEvent.{RaftEvent}
use Rattle.raft_laws.specs.World.{Sent, moment, leads, term_of_node, log_of, committed, message_to}

-- the second list is the first one, and more behind it or not
pub record IsFrontOf {X : Type 0} (xs ys : List X) : Type 0 where
  pub rest : List X
  pub is : ys ≡ xs ++ rest

-- a node's term never falls, its vote of a term stays, and it has at most one in a term
pub record VotesLast {E : Type 0} (nodes : ℕ) (noop : E) : Type 0 where
  pub term : (events : List (NodeId × RaftEvent E)) (early late n : ℕ) → early ≤ late
      → term_of_node (moment nodes noop events early) n ≤ term_of_node (moment nodes noop events late) n
  pub vote : (events : List (NodeId × RaftEvent E)) (early late n : ℕ) (c : NodeId) → early ≤ late
      → term_of_node (moment nodes noop events late) n ≡ term_of_node (moment nodes noop events early) n
      → ((moment nodes noop events early).node n).votes.vote ≡ Some c → ((moment nodes noop events late).node n).votes.vote ≡ Some c
  pub one : (events : List (NodeId × RaftEvent E)) (i j n : ℕ) (c d : NodeId)
      → term_of_node (moment nodes noop events i) n ≡ term_of_node (moment nodes noop events j) n
      → ((moment nodes noop events i).node n).votes.vote ≡ Some c → ((moment nodes noop events j).node n).votes.vote ≡ Some d → c ≡ d

-- two nodes that lead in one term, at whatever moments, are one
abbrev pub OneLeader : {E : Type 0} → ℕ → E → Type 0
OneLeader {E} nodes noop =
    (events : List (NodeId × RaftEvent E)) (i j a b : ℕ) → IsTrue (leads (moment nodes noop events i) a) → IsTrue (leads (moment nodes noop events j) b)
    → term_of_node (moment nodes noop events i) a ≡ term_of_node (moment nodes noop events j) b → a ≡ b

-- where two logs, at whatever moments, have an entry of one term at an index, they are the same up to it
abbrev pub LogsMatch : {E : Type 0} → ℕ → E → Type 0
LogsMatch {E} nodes noop =
    (events : List (NodeId × RaftEvent E)) (i j a b index : ℕ) → let x = log_of (moment nodes noop events i) a in let y = log_of (moment nodes noop events j) b in
    index ≤ length x → index ≤ length y → term_at x index ≡ term_at y index → take index x ≡ take index y

-- what a node acts on is in the log of each node that leads in a later term, and of each that later leads in the same
pub record LeadersComplete {E : Type 0} (nodes : ℕ) (noop : E) : Type 0 where
  pub later_term : (events : List (NodeId × RaftEvent E)) (i j a b : ℕ) → IsTrue (leads (moment nodes noop events j) b)
      → term_of_node (moment nodes noop events i) a < term_of_node (moment nodes noop events j) b
      → IsFrontOf (committed (moment nodes noop events i) a) (log_of (moment nodes noop events j) b)
  pub later_moment : (events : List (NodeId × RaftEvent E)) (i j a b : ℕ) → i ≤ j → IsTrue (leads (moment nodes noop events j) b)
      → term_of_node (moment nodes noop events i) a ≤ term_of_node (moment nodes noop events j) b
      → IsFrontOf (committed (moment nodes noop events i) a) (log_of (moment nodes noop events j) b)

-- between steps a leader already acts on all that it may: the rule by which it goes on changes nothing
abbrev pub NothingWaits : {E : Type 0} → ℕ → E → Type 0
NothingWaits {E} nodes noop = (events : List (NodeId × RaftEvent E)) (i n : ℕ) → advanced ((moment nodes noop events i).node n) ≡ (moment nodes noop events i).node n

-- the terms of a log's entries never fall from one to the next, and none is above its node's
pub record TermsRise {E : Type 0} (nodes : ℕ) (noop : E) : Type 0 where
  pub order : (events : List (NodeId × RaftEvent E)) (i n low high : ℕ) → low ≤ high → high ≤ length (log_of (moment nodes noop events i) n)
      → term_at (log_of (moment nodes noop events i) n) low ≤ term_at (log_of (moment nodes noop events i) n) high
  pub upto : (events : List (NodeId × RaftEvent E)) (i n index : ℕ) → index ≤ length (log_of (moment nodes noop events i) n)
      → term_at (log_of (moment nodes noop events i) n) index ≤ term_of_node (moment nodes noop events i) n

-- of what two nodes act on, at whatever moments, one is a front of the other
abbrev pub NodesAgree : {E : Type 0} → ℕ → E → Type 0
NodesAgree {E} nodes noop =
    (events : List (NodeId × RaftEvent E)) (i j a b : ℕ) → let x = committed (moment nodes noop events i) a in let y = committed (moment nodes noop events j) b in
    IsFrontOf x y ⊎ IsFrontOf y x

-- a node's view never goes back, and what it acts on only becomes longer
pub record ViewsGrow {E : Type 0} (nodes : ℕ) (noop : E) : Type 0 where
  pub view : (events : List (NodeId × RaftEvent E)) (early late n : ℕ) → early ≤ late
      → ((moment nodes noop events early).node n).view ≤ ((moment nodes noop events late).node n).view
  pub within : (events : List (NodeId × RaftEvent E)) (i n : ℕ)
      → ((moment nodes noop events i).node n).view ≤ length (log_of (moment nodes noop events i) n)
  pub committed : (events : List (NodeId × RaftEvent E)) (early late n : ℕ) → early ≤ late
      → IsFrontOf (committed (moment nodes noop events early) n) (committed (moment nodes noop events late) n)

-- each message that may come is one that a step may be given: the sender is a node, and an Append of the node's term
-- or a greater one agrees with the node's log as far as it acts on it
abbrev pub DeliveriesFit : {E : Type 0} → ℕ → E → Type 0
DeliveriesFit {E} nodes noop =
    (events : List (NodeId × RaftEvent E)) (i n number : ℕ) (m : Sent E) → message_to (moment nodes noop events i).sent n number ≡ Some m
    → IsTrue (is_well_formed ((moment nodes noop events i).node n) (Deliver m.from m.message))
