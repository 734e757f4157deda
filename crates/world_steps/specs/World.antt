-- What clients see of a world, and which events it takes.
use Rattle.std.specs.Prelude.{◌≡◌, ℕ, ◌==◌, Bool, true, false, ◌&&◌, nat_lt, List, ◌∷◌, length, map, sum_by, Option, Some, None, if◌then◌else◌}
use Rattle.std.specs.declared.cmp.Ordering.{Ordering}
use Rattle.std.specs.Ordering.{nat_cmp}
use Rattle.std.specs.BTreeSet.{BTreeSet, contains}
use Rattle.region_map.specs.declared.id.NodeId.{NodeId}
use Rattle.region_map.specs.declared.step_refused.StepRefused.{StepRefused}
use Rattle.region_map.specs.declared.step_refused.StepRefused.TheVariants as step
use Rattle.register_laws.specs.declared.operation.OpId.{OpId}
use Rattle.contract_types.specs.Setup.{SetupState, nodes_below}
use Rattle.contract_types.specs.declared.limits.Which.{Which}
use Rattle.contract_types.specs.declared.limits.Which.TheVariants.{ScriptBytes, LineBytes, JournalEntries, JournalWeight, Numbers}
use Rattle.exec_types.specs.declared.input.Input.{Input}
use Rattle.exec_types.specs.declared.input.Input.TheVariants.{Request, GiveUp, See, Tick, Deliver, Crash, Restart}
use Rattle.node_core.specs.declared.journal.Entry.{Entry}
use Rattle.node_core.specs.Step.{NodeState, ends_numbers}
use Rattle.node_core.specs.Journal.{JournalState}
use Rattle.journal_weight.specs.Weights.{step_weight}
use Rattle.runs.specs.declared.envelope.Envelope.{Envelope}
use Rattle.world_steps.specs.declared.push_refused.PushRefused.{PushRefused}
use Rattle.world_steps.specs.declared.push_refused.PushRefused.TheVariants.{NoSuchNode, NoSuchMessage, NotYours, Down, Up, OpKnown, JournalFull, OutOfMemory}
use Rattle.runs.specs.Run.{IsRun, sent, is_requested, message_at, brought, state, entry_of, names_node, suits}
use Rattle.world_steps.specs.Waiting.{is_sent, is_delivered, is_lost}
use Rattle.world_steps.specs.Pairs.{SetsState, AreWaiting}

-- what the table began with, the entries since, the newest first, the messages that were marked lost, and what the world
-- answers once it ended
pub record WorldState : Type 0 where
  pub setup : SetupState
  pub past : List Entry
  pub lost : List ℕ
  pub ended : Option PushRefused

abbrev pub step_refusal : StepRefused → PushRefused
step_refusal step.NumbersEnd = JournalFull Numbers
step_refusal step.OutOfMemory = OutOfMemory

-- the states of all nodes
abbrev pub states : SetupState → List Entry → List (Option NodeState)
states setup past = map (λ n. Some (state setup n past)) (nodes_below setup.nodes)

-- the node's step would pass the limit of the numbers
abbrev pub numbers_refusal : SetupState → List Entry → NodeId → Input → Option PushRefused → Option PushRefused
numbers_refusal setup past node input later =
    if ends_numbers (state setup node.0 past) input (brought past input) then Some (JournalFull Numbers) else later

-- what an entry of a journal weighs
abbrev pub weight_of : Entry → ℕ
weight_of e = step_weight e.input e.outputs

-- what the entries of a journal weigh together
abbrev pub total_weight : List Entry → ℕ
total_weight past = sum_by weight_of past

-- how heavy a journal is at most
abbrev pub most_weight : ℕ
most_weight = 134217728

-- a journal of this weight would be too heavy
abbrev pub heavy_refusal : ℕ → Option PushRefused
heavy_refusal weight = if nat_lt most_weight weight then Some (JournalFull JournalWeight) else None

-- with the entry of the step the journal would be too heavy
abbrev pub weight_refusal : SetupState → List Entry → NodeId → Input → Option PushRefused
weight_refusal setup past node input = heavy_refusal (total_weight (entry_of setup past node input ∷ past))

-- the refusals that the node's step shows
abbrev pub made_refusal : SetupState → List Entry → NodeId → Input → Option PushRefused
made_refusal setup past node input = numbers_refusal setup past node input (weight_refusal setup past node input)

-- a message that is there is for this node
abbrev pub owner_refusal : Option Envelope → NodeId → Option PushRefused → Option PushRefused
owner_refusal None node later = Some NoSuchMessage
owner_refusal (Some e) node later = if e.to.0 == node.0 then later else Some NotYours

abbrev pub message_refusal : List Entry → NodeId → Input → Option PushRefused → Option PushRefused
message_refusal past node (Request op key what) later = later
message_refusal past node (GiveUp op) later = later
message_refusal past node (See other up) later = later
message_refusal past node Tick later = later
message_refusal past node (Deliver number) later = owner_refusal (message_at past number) node later
message_refusal past node Crash later = later
message_refusal past node Restart later = later

-- a node that is down takes a restart alone, and only such a node takes it
abbrev pub up_refusal : Bool → Input → Option PushRefused → Option PushRefused
up_refusal up input later = if suits up input then later else Some (if up then Up else Down)

-- an operation is requested once
abbrev pub op_refusal : List Entry → Input → Option PushRefused → Option PushRefused
op_refusal past (Request op key what) later = if is_requested past op then Some OpKnown else later
op_refusal past (GiveUp op) later = later
op_refusal past (See other up) later = later
op_refusal past Tick later = later
op_refusal past (Deliver number) later = later
op_refusal past Crash later = later
op_refusal past Restart later = later

-- the nodes of an event are nodes of the table
abbrev pub names_nodes : SetupState → NodeId → Input → Bool
names_nodes setup node input = nat_lt node.0 setup.nodes && names_node setup input

abbrev pub input_refusal : SetupState → List Entry → NodeId → Input → Option PushRefused → Option PushRefused
input_refusal setup past node input later =
    message_refusal past node input (up_refusal (state setup node.0 past).up input (op_refusal past input later))

-- how many entries a journal holds at most
abbrev pub most_entries : ℕ
most_entries = 20000

abbrev pub entries_refusal : List Entry → Option PushRefused → Option PushRefused
entries_refusal past later = if nat_lt (length past) most_entries then later else Some (JournalFull JournalEntries)

-- the first refusal of an event that holds
abbrev pub event_refusal : SetupState → List Entry → NodeId → Input → Option PushRefused
event_refusal setup past node input =
    if names_nodes setup node input then input_refusal setup past node input (entries_refusal past (made_refusal setup past node input)) else Some NoSuchNode

-- the first refusal that needs no step of the node
abbrev pub entry_refusal : SetupState → List Entry → NodeId → Input → Option PushRefused
entry_refusal setup past node input =
    if names_nodes setup node input then input_refusal setup past node input (entries_refusal past None) else Some NoSuchNode

abbrev pub unless_ended : Option PushRefused → Option PushRefused → Option PushRefused
unless_ended None later = later
unless_ended (Some why) later = Some why

-- a world that ended gives the answer with which it ended
abbrev pub push_refusal : WorldState → NodeId → Input → Option PushRefused
push_refusal w node input = unless_ended w.ended (event_refusal w.setup w.past node input)

-- a limit that is known to be met only once a step is made
abbrev pub is_final_limit : Which → Bool
is_final_limit ScriptBytes = false
is_final_limit LineBytes = false
is_final_limit JournalEntries = false
is_final_limit JournalWeight = true
is_final_limit Numbers = true

-- a refusal after which the world answers nothing else
abbrev pub is_final : PushRefused → Bool
is_final NoSuchNode = false
is_final NoSuchMessage = false
is_final NotYours = false
is_final Down = false
is_final Up = false
is_final OpKnown = false
is_final (JournalFull which) = is_final_limit which
is_final OutOfMemory = true

-- the world after a refusal: nothing changed, but that it may have ended
abbrev pub after_refusal : WorldState → PushRefused → WorldState
after_refusal w why = if is_final why then record w { ended = Some why } else w

-- whether a node of the table is up
abbrev pub is_up : WorldState → NodeId → Bool
is_up w node = nat_lt node.0 w.setup.nodes && (state w.setup node.0 w.past).up

-- the node that a message is for
abbrev pub receiver_of : Option Envelope → Option NodeId
receiver_of None = None
receiver_of (Some e) = Some e.to

-- ---- what a world keeps beside its journal

abbrev pub op_cmp : OpId → OpId → Ordering
op_cmp a b = nat_cmp a.0 b.0

-- the operations that a journal requested
abbrev pub AreRequested : BTreeSet OpId → List Entry → Type 0
AreRequested requested past = (op : OpId) → contains op_cmp requested op ≡ is_requested past op

-- what was delivered or lost was sent
pub record AreSent (past : List Entry) (lost : List ℕ) : Type 0 where
  pub delivered : (n : ℕ) → is_delivered past n ≡ true → is_sent past n ≡ true
  pub lost_too : (n : ℕ) → is_lost lost n ≡ true → is_sent past n ≡ true

-- the nodes, the messages and the operations are those that the journal gives
pub record IsInStep (setup : SetupState) (past : List Entry) (lost : List ℕ) (nodes : List (Option NodeState)) (messages : List Envelope) (waits : SetsState) (requested : BTreeSet OpId) : Type 0 where
  pub states_are : nodes ≡ states setup past
  pub sent_are : messages ≡ sent past
  pub waits_are : AreWaiting setup waits past lost
  pub known_sent : AreSent past lost
  pub ops_are : AreRequested requested past

pub record IsWorld (setup : SetupState) (journal : JournalState) (lost : List ℕ) (nodes : List (Option NodeState)) (messages : List Envelope) (waits : SetsState) (requested : BTreeSet OpId) (ended : Option PushRefused) (weight : ℕ) : Type 0 where
  pub begun : journal.setup ≡ Some setup
  pub run : IsRun setup journal.past
  pub in_step : ended ≡ None → IsInStep setup journal.past lost nodes messages waits requested
  pub weighed : weight ≡ total_weight journal.past
