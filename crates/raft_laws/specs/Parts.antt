-- Runs of more than the log: of worlds whose nodes have the log as a part, and other parts beside it.
use Rattle.std.specs.Prelude.{◌≡◌, ◌≤◌, ◌<◌, ◌⊎◌, ℕ, suc, List, length, take, IsTrue, Some}
use Rattle.region_map.specs.declared.id.NodeId.{NodeId}
use Rattle.raft_vote.specs.Log.{term_at}
use Rattle.raft_node.specs.declared.input.RaftInput.TheVariants.{Deliver}
use Rattle.raft_node.specs.Rows.{advanced, is_well_formed}
use Rattle.schedule_laws.specs.Schedules.{run}
use Rattle.raft_laws.specs.declared.event.RaftEvent.{RaftEvent}
use Rattle.raft_laws.specs.World.{Sent, World, start, happens, after, leads, term_of_node, log_of, committed, message_to}
use Rattle.raft_laws.specs.Laws.{IsFrontOf}

-- a run of the log leads to this world
pub record InRun {E : Type 0} (nodes : ℕ) (noop : E) (w : World E) : Type 0 where
  pub events : List (NodeId × RaftEvent E)
  pub is : w ≡ after nodes noop events

-- the first world becomes the second one by events of the log, or by none
pub record Becomes {E : Type 0} (nodes : ℕ) (noop : E) (v w : World E) : Type 0 where
  pub events : List (NodeId × RaftEvent E)
  pub is : w ≡ run (happens nodes noop) events v

-- what the log is at the moments of a run of more than the log: from each moment to the next it goes on by events of the
-- log, or stays. That it does may rest on what holds of each world that a run of the log leads to
pub record IsLogPart {E : Type 0} (nodes : ℕ) (noop : E) (part : ℕ → World E) : Type 0 where
  pub first : part 0 ≡ start nodes
  pub next : (k : ℕ) → InRun nodes noop (part k) → Becomes nodes noop (part k) (part (suc k))

-- a node may be given each message that was sent to it
abbrev pub Fits : {E : Type 0} → World E → Type 0
Fits {E} w = (n number : ℕ) (m : Sent E) → message_to w.sent n number ≡ Some m → IsTrue (is_well_formed (w.node n) (Deliver m.from m.message))

-- what the log promises over a run, of the part of the log in a run of more
pub record KeepsPromises {E : Type 0} (part : ℕ → World E) : Type 0 where
  -- one leader in a term
  pub leader : (i j a b : ℕ) → IsTrue (leads (part i) a) → IsTrue (leads (part j) b) → term_of_node (part i) a ≡ term_of_node (part j) b → a ≡ b
  -- two logs with an entry of one term at an index are the same up to it
  pub match : (i j a b index : ℕ) → index ≤ length (log_of (part i) a) → index ≤ length (log_of (part j) b)
      → term_at (log_of (part i) a) index ≡ term_at (log_of (part j) b) index → take index (log_of (part i) a) ≡ take index (log_of (part j) b)
  -- what a node acts on is in the log of each later leader
  pub later_term : (i j a b : ℕ) → IsTrue (leads (part j) b) → term_of_node (part i) a < term_of_node (part j) b → IsFrontOf (committed (part i) a) (log_of (part j) b)
  pub later_moment : (i j a b : ℕ) → i ≤ j → IsTrue (leads (part j) b) → term_of_node (part i) a ≤ term_of_node (part j) b
      → IsFrontOf (committed (part i) a) (log_of (part j) b)
  -- of what two nodes act on, one is a front of the other
  pub agree : (i j a b : ℕ) → IsFrontOf (committed (part i) a) (committed (part j) b) ⊎ IsFrontOf (committed (part j) b) (committed (part i) a)
  -- between steps a leader already acts on all that it may: the rule by which it goes on changes nothing
  pub still : (i n : ℕ) → advanced ((part i).node n) ≡ (part i).node n
  -- the terms of a log's entries never fall from one to the next, and none is above its node's
  pub order : (i n low high : ℕ) → low ≤ high → high ≤ length (log_of (part i) n) → term_at (log_of (part i) n) low ≤ term_at (log_of (part i) n) high
  pub upto : (i n index : ℕ) → index ≤ length (log_of (part i) n) → term_at (log_of (part i) n) index ≤ term_of_node (part i) n
  -- a node's term and view never go back, and what it acts on only becomes longer
  pub term : (early late n : ℕ) → early ≤ late → term_of_node (part early) n ≤ term_of_node (part late) n
  pub view : (early late n : ℕ) → early ≤ late → ((part early).node n).view ≤ ((part late).node n).view
  pub within : (i n : ℕ) → ((part i).node n).view ≤ length (log_of (part i) n)
  pub longer : (early late n : ℕ) → early ≤ late → IsFrontOf (committed (part early) n) (committed (part late) n)
  -- each message may come; an Append of the node's term or a greater one agrees with its log as far as it acts on it
  pub fits : (i : ℕ) → Fits (part i)
