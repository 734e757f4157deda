-- What clients see of a world in code.
use Rattle.std.specs.Prelude.{◌≡◌, ◌≤◌, ℕ, Bool, true, false, not, ◌&&◌, if◌then◌else◌, List, [], ◌++◌, length, slice_index_or, slice_set, Option, Some, None}
use Rattle.region_map.specs.declared.id.NodeId.{NodeId}
use Rattle.region_map.specs.Nodes.{node_id}
use Rattle.raft_node.specs.declared.input.RaftInput.TheVariants.{Tick as InputTick, Deliver as InputDeliver}
use Rattle.raft_node.specs.State.{RaftState, begun}
use Rattle.raft_vote.specs.Rows.{is_leader}
use Rattle.raft_node.specs.Rows.{ends_numbers, is_full, proposed, raft_step}
use Rattle.raft_laws.specs.declared.event.RaftEvent.{RaftEvent}
use Rattle.raft_laws.specs.declared.event.RaftEvent.TheVariants.{Tick, Propose, Deliver, Crash, Restart}
use Rattle.raft_laws.specs.declared.event.Sent.{Sent}
use Rattle.raft_laws.specs.World.{World, start, happens, after, message_to, posted}

-- all nodes, by their numbers, and every message that was ever sent
pub record RaftNet (E : Type 0) : Type 0 where
  pub nodes : ℕ  -- how many there are
  pub states : List (RaftState E)
  pub ups : List Bool
  pub sent : List (Sent E)

abbrev pub node_in : {E : Type 0} → ℕ → List (RaftState E) → ℕ → RaftState E
node_in nodes states n = slice_index_or states n (begun (node_id n) nodes (record { term = 0; vote = None; log = []; view = 0 }))

abbrev pub up_in : List Bool → ℕ → Bool
up_in ups n = slice_index_or ups n true

-- the world that is kept in these lists. Numbers past the nodes stand for nodes that never act
abbrev pub world_in : {E : Type 0} → ℕ → List (RaftState E) → List Bool → List (Sent E) → World E
world_in nodes states ups sent = record { node = λ n. node_in nodes states n; up = λ n. up_in ups n; sent = sent }

abbrev pub world_of : {E : Type 0} → RaftNet E → World E
world_of v = world_in v.nodes v.states v.ups v.sent

-- nodes of this number, as they start
pub record Begins {E : Type 0} (v : RaftNet E) (nodes : ℕ) : Type 0 where
  pub number : v.nodes ≡ nodes
  pub world : world_of v ≡ start nodes

-- the net after an event at a node
pub record GoesOn {E : Type 0} (noop : E) (v : RaftNet E) (n : NodeId) (event : RaftEvent E) (now : RaftNet E) : Type 0 where
  pub number : now.nodes ≡ v.nodes
  pub world : world_of now ≡ happens v.nodes noop (world_of v) (n, event)

-- the lists hold the world that these events lead to
pub record IsReached {E : Type 0} (noop : E) (nodes : ℕ) (states : List (RaftState E)) (ups : List Bool) (sent : List (Sent E)) : Type 0 where
  pub states_are : length states ≡ nodes
  pub ups_are : length ups ≡ nodes
  pub small : nodes ≤ 64
  pub events : List (NodeId × RaftEvent E)
  pub is : world_in nodes states ups sent ≡ after nodes noop events

-- ---- where an event is refused

abbrev pub is_none : {X : Type 0} → Option X → Bool
is_none None = true
is_none (Some x) = false

-- no message of that number was sent to the node
abbrev pub misses : {E : Type 0} → World E → ℕ → RaftEvent E → Bool
misses w n (Tick unseen) = false
misses w n (Propose change) = false
misses w n (Deliver number) = is_none (message_to w.sent n number)
misses w n Crash = false
misses w n Restart = false

abbrev pub is_restart : {E : Type 0} → RaftEvent E → Bool
is_restart (Tick unseen) = false
is_restart (Propose change) = false
is_restart (Deliver number) = false
is_restart Crash = false
is_restart Restart = true

-- a node that is down takes a restart alone
abbrev pub finds_down : {E : Type 0} → World E → ℕ → RaftEvent E → Bool
finds_down w n event = not (misses w n event) && not (w.up n) && not (is_restart event)

abbrev pub ends_message : {E : Type 0} → RaftState E → Option (Sent E) → Bool
ends_message s None = false
ends_message s (Some m) = ends_numbers s (InputDeliver m.from m.message)

abbrev pub ends_event : {E : Type 0} → World E → ℕ → RaftEvent E → Bool
ends_event w n (Tick unseen) = ends_numbers (w.node n) (InputTick unseen)
ends_event w n (Propose change) = false
ends_event w n (Deliver number) = ends_message (w.node n) (message_to w.sent n number)
ends_event w n Crash = false
ends_event w n Restart = false

-- a term or an index would be no number
abbrev pub finds_end : {E : Type 0} → World E → ℕ → RaftEvent E → Bool
finds_end w n event = w.up n && ends_event w n event

-- ---- parts of an event

-- what a node has after a change was put to it
abbrev pub put_to : {E : Type 0} → RaftState E → E → RaftState E
put_to s change = if is_leader s.votes.role && not (is_full s.log) then proposed s change else s

-- what the lists become as a message comes
abbrev pub Arrives : {E : Type 0} → E → ℕ → List (RaftState E) → List (Sent E) → ℕ → Option (Sent E) → List (RaftState E) → List (Sent E) → Type 0
Arrives noop nodes states sent n None states_now sent_now = ⊥
Arrives noop nodes states sent n (Some m) states_now sent_now =
    let r = raft_step noop (node_in nodes states n) (InputDeliver m.from m.message) in
    (states_now ≡ slice_set states n r.node) × (sent_now ≡ sent ++ posted n r.sent)
