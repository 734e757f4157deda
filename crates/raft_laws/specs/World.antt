-- Runs of all nodes of the log, under every schedule of ticks, proposals, deliveries, crashes and restarts.
use Rattle.std.specs.Prelude.{ℕ, zero, suc, ◌==◌, nat_lt, Bool, true, false, not, ◌&&◌, if◌then◌else◌, List, [], ◌++◌, map, take, slice_get, Option, Some, None}
use Rattle.region_map.specs.declared.id.NodeId.{NodeId}
use Rattle.region_map.specs.Nodes.{node_id}
use Rattle.raft_vote.specs.declared.log.LogEntry.{LogEntry}
use Rattle.raft_vote.specs.declared.message.RaftMessage.{RaftMessage}
use Rattle.raft_vote.specs.Rows.{is_leader}
use Rattle.raft_node.specs.declared.input.RaftInput.{RaftInput}
use Rattle.raft_node.specs.declared.input.RaftInput.TheVariants.{Tick as InputTick, Deliver as InputDeliver}
use Rattle.raft_node.specs.State.{RaftState, begun, kept_of}
use Rattle.raft_node.specs.Rows.{raft_step, ends_numbers, proposed, is_full}
use Rattle.raft_laws.specs.declared.event.RaftEvent.{RaftEvent}
pub use Rattle.raft_laws.specs.declared.event.Sent.{Sent}
use Rattle.raft_laws.specs.declared.event.RaftEvent.TheVariants.{Tick, Propose, Deliver, Crash, Restart}
use Rattle.schedule_laws.specs.Schedules.{set_at, run}

pub record World (E : Type 0) : Type 0 where
  pub node : ℕ → RaftState E
  pub up : ℕ → Bool
  pub sent : List (Sent E)  -- every message that was ever sent, the first of them first

-- each node is up, has seen no term and has an empty log
abbrev pub start : {E : Type 0} → ℕ → World E
start nodes =
    record { node = λ n. begun (node_id n) nodes (record { term = 0; vote = None; log = []; view = 0 }); up = λ n. true; sent = [] }

-- what a node sends goes into the network
abbrev pub posted : {E : Type 0} → ℕ → List (NodeId × RaftMessage E) → List (Sent E)
posted from messages = map (λ x. record { from = node_id from; to = x.0; message = x.1 }) messages

-- a node takes a step, unless the numbers end
abbrev pub steps : {E : Type 0} → E → World E → ℕ → RaftInput E → World E
steps noop w n input =
    if not (ends_numbers (w.node n) input)
    then record w {
      node = set_at w.node n (raft_step noop (w.node n) input).node;
      sent = w.sent ++ posted n (raft_step noop (w.node n) input).sent;
    }
    else w

-- the message, where it was sent to this node
abbrev pub addressed : {E : Type 0} → ℕ → Option (Sent E) → Option (Sent E)
addressed n None = None
addressed n (Some m) = if m.to.0 == n then Some m else None

-- the message of this number that was sent to a node
abbrev pub message_to : {E : Type 0} → List (Sent E) → ℕ → ℕ → Option (Sent E)
message_to sent n zero = None
message_to sent n (suc place) = addressed n (slice_get sent place)

abbrev pub comes : {E : Type 0} → E → World E → ℕ → Option (Sent E) → World E
comes noop w n None = w
comes noop w n (Some m) = steps noop w n (InputDeliver m.from m.message)

-- a leader whose log is not full appends a change
abbrev pub proposes : {E : Type 0} → World E → ℕ → E → World E
proposes w n change =
    if is_leader (w.node n).votes.role && not (is_full (w.node n).log)
    then record w { node = set_at w.node n (proposed (w.node n) change) }
    else w

-- what a node has after a crash: its term, vote, log and view
abbrev pub kept : {E : Type 0} → ℕ → RaftState E → RaftState E
kept nodes s = begun s.votes.me nodes (kept_of s)

-- a node that is up
abbrev pub acts : {E : Type 0} → ℕ → E → World E → ℕ → RaftEvent E → World E
acts nodes noop w n (Tick unseen) = steps noop w n (InputTick unseen)
acts nodes noop w n (Propose change) = proposes w n change
acts nodes noop w n (Deliver number) = comes noop w n (message_to w.sent n number)
acts nodes noop w n Crash = record w { node = set_at w.node n (kept nodes (w.node n)); up = set_at w.up n false }
acts nodes noop w n Restart = w

-- a node that is down takes a restart alone
abbrev pub rests : {E : Type 0} → ℕ → World E → ℕ → RaftEvent E → World E
rests nodes w n (Tick unseen) = w
rests nodes w n (Propose change) = w
rests nodes w n (Deliver number) = w
rests nodes w n Crash = w
rests nodes w n Restart = record w { node = set_at w.node n (kept nodes (w.node n)); up = set_at w.up n true }

-- an event at one of the nodes, which are those below `nodes`
abbrev pub happens : {E : Type 0} → ℕ → E → World E → NodeId × RaftEvent E → World E
happens nodes noop w x =
    if nat_lt x.0.0 nodes then (if w.up x.0.0 then acts nodes noop w x.0.0 x.1 else rests nodes w x.0.0 x.1) else w

-- the world after these events
abbrev pub after : {E : Type 0} → ℕ → E → List (NodeId × RaftEvent E) → World E
after nodes noop events = run (happens nodes noop) events (start nodes)

-- the world at a moment of a run, after so many of its events
abbrev pub moment : {E : Type 0} → ℕ → E → List (NodeId × RaftEvent E) → ℕ → World E
moment nodes noop events k = after nodes noop (take k events)

abbrev pub leads : {E : Type 0} → World E → ℕ → Bool
leads w n = w.up n && is_leader (w.node n).votes.role

abbrev pub term_of_node : {E : Type 0} → World E → ℕ → ℕ
term_of_node w n = (w.node n).votes.term

abbrev pub log_of : {E : Type 0} → World E → ℕ → List (LogEntry E)
log_of w n = (w.node n).log

-- what a node acts on: its log up to its view
abbrev pub committed : {E : Type 0} → World E → ℕ → List (LogEntry E)
committed w n = take (w.node n).view (w.node n).log
