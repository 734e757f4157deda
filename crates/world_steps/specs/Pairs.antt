-- The messages that wait, in a set for each pair of sender and receiver.
use Rattle.std.specs.Prelude.{◌≡◌, ℕ, zero, suc, ◌+◌, ◌*◌, ◌<◌, ◌≤◌, Bool, true, false, ◌&&◌, ◌||◌, nat_lt, List, [], length, Option, Some, None, slice_index_or, if◌then◌else◌}
use Rattle.std.specs.Ordering.{nat_cmp}
use Rattle.std.specs.BTreeSet.{BTreeSet, contains}
use Rattle.region_map.specs.declared.id.NodeId.{NodeId}
use Rattle.region_map.specs.Nodes.{has, node_id}
use Rattle.contract_types.specs.Setup.{SetupState}
use Rattle.node_core.specs.declared.journal.Entry.{Entry}
use Rattle.node_core.specs.Step.{NodeState}
use Rattle.runs.specs.declared.envelope.Envelope.{Envelope}
use Rattle.runs.specs.Run.{message_at, numbered}
use Rattle.world_steps.specs.Waiting.{is_waiting, is_new, is_between}

-- how many nodes there are, and the set of each pair: that of a sender and a receiver stands at the sender's number times
-- the nodes, plus the receiver's
pub record SetsState : Type 0 where
  pub nodes : ℕ
  pub sets : List (BTreeSet ℕ)

abbrev pub place_in : ℕ → NodeId → NodeId → ℕ
place_in nodes from to = from.0 * nodes + to.0

-- where the set of a pair stands; a node that is not there has none
abbrev pub place_of : ℕ → NodeId → NodeId → Option ℕ
place_of nodes from to = if nat_lt from.0 nodes && nat_lt to.0 nodes then Some (place_in nodes from to) else None

abbrev pub set_of : SetsState → NodeId → NodeId → BTreeSet ℕ
set_of s from to = slice_index_or s.sets (place_in s.nodes from to) (record { keys = [] })

-- the set of a pair has a number
abbrev pub pair_has : SetsState → NodeId → NodeId → ℕ → Bool
pair_has s from to n = contains nat_cmp (set_of s from to) n

-- a message from one node to another waits
abbrev pub waits_between : List Entry → List ℕ → NodeId → NodeId → ℕ → Bool
waits_between past lost from to n = is_waiting past lost n && is_between from to (message_at past n)

-- a message is among those behind the first so many, and goes from one node to another
abbrev pub comes_between : ℕ → List Envelope → NodeId → NodeId → ℕ → Bool
comes_between before messages from to n = is_new before (length messages) n && is_between from to (numbered messages n)

-- each set has the messages that wait between its nodes
pub record AreWaiting (setup : SetupState) (s : SetsState) (past : List Entry) (lost : List ℕ) : Type 0 where
  pub nodes_are : s.nodes ≡ setup.nodes
  pub sets_are : (from to : NodeId) → from.0 < s.nodes → to.0 < s.nodes → (n : ℕ) → pair_has s from to n ≡ waits_between past lost from to n

-- the least number that passes, where any does
abbrev pub IsLeast : (ℕ → Bool) → Option ℕ → Type 0
IsLeast p None = (n : ℕ) → p n ≡ false
IsLeast p (Some n) = (p n ≡ true) × ((m : ℕ) → p m ≡ true → n ≤ m)

-- a number below the bound passes
abbrev pub any_below : (ℕ → Bool) → ℕ → Bool
any_below p zero = false
any_below p (suc k) = p k || any_below p k

-- a node is among the stored ones, and is up
abbrev pub is_up_state : Option NodeState → Bool
is_up_state None = false
is_up_state (Some s) = s.up

abbrev pub is_up_among : List (Option NodeState) → ℕ → Bool
is_up_among nodes n = is_up_state (slice_index_or nodes n None)

-- a message from one node to another may flow among some nodes
abbrev pub may_pass : List (Option NodeState) → List ℕ → NodeId → NodeId → Bool
may_pass nodes only from to = has only from.0 && has only to.0 && is_up_among nodes to.0

-- a message that may flow waits, between this pair, between this sender and any receiver, and between any
abbrev pub flows_between : List (Option NodeState) → List ℕ → SetsState → NodeId → NodeId → ℕ → Bool
flows_between nodes only s from to n = may_pass nodes only from to && pair_has s from to n

abbrev pub flows_from : List (Option NodeState) → List ℕ → SetsState → ℕ → NodeId → ℕ → Bool
flows_from nodes only s count from n = any_below (λ to. flows_between nodes only s from (node_id to) n) count

abbrev pub flows_in : List (Option NodeState) → List ℕ → SetsState → ℕ → ℕ → Bool
flows_in nodes only s count n = any_below (λ from. flows_from nodes only s s.nodes (node_id from) n) count
