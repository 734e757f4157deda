-- Runs: journals in which each entry is a step of its node.
use Rattle.std.specs.Prelude.{◌≡◌, ℕ, ◌==◌, ◌-◌, Bool, true, false, not, ◌&&◌, ◌||◌, nat_lt, List, [], ◌∷◌, ◌++◌, Option, Some, None, slice_get, if◌then◌else◌}
use Rattle.region_map.specs.declared.id.NodeId.{NodeId}
use Rattle.register_laws.specs.declared.operation.OpId.{OpId}
use Rattle.contract_types.specs.Setup.{SetupState}
use Rattle.exec_types.specs.declared.input.Input.{Input}
use Rattle.exec_types.specs.declared.input.Input.TheVariants.{Request, GiveUp, See, Tick, Deliver, Crash, Restart}
use Rattle.exec_types.specs.declared.output.Output.{Output}
use Rattle.exec_types.specs.declared.output.Output.TheVariants.{Message, Dispatched, Viewed, Answer}
use Rattle.node_core.specs.declared.node.Brought.{Brought}
use Rattle.node_core.specs.declared.journal.Entry.{Entry}
use Rattle.runs.specs.declared.envelope.Envelope.{Envelope}
use Rattle.node_core.specs.Step.{NodeState, begin_node, node_step, ends_numbers}

-- ---- messages, numbered from 1 over the whole journal

abbrev pub sent_by : NodeId → List Output → List Envelope
sent_by from [] = []
sent_by from (Message to message ∷ outs) = record { from = from; to = to; message = message } ∷ sent_by from outs
sent_by from (Dispatched op key branch timestamp ∷ outs) = sent_by from outs
sent_by from (Viewed first results ∷ outs) = sent_by from outs
sent_by from (Answer op outcome ∷ outs) = sent_by from outs

-- every message sent in a journal, the oldest first
abbrev pub sent : List Entry → List Envelope
sent [] = []
sent (e ∷ past) = sent past ++ sent_by e.node e.outputs

-- the message of a number among some
abbrev pub numbered : List Envelope → ℕ → Option Envelope
numbered messages number = if number == 0 then None else slice_get messages (number - 1)

abbrev pub message_at : List Entry → ℕ → Option Envelope
message_at past number = numbered (sent past) number

abbrev pub opened : Option Envelope → Option Brought
opened None = None
opened (Some e) = Some (record { from = e.from; message = e.message })

-- what an input brings to its node
abbrev pub brought : List Entry → Input → Option Brought
brought past (Request op key what) = None
brought past (GiveUp op) = None
brought past (See other up) = None
brought past Tick = None
brought past (Deliver number) = opened (message_at past number)
brought past Crash = None
brought past Restart = None

-- ---- states

-- the state that the earlier entries of a node give
abbrev pub state : SetupState → ℕ → List Entry → NodeState
state setup n [] = begin_node setup n
state setup n (e ∷ past) =
    if e.node.0 == n then (node_step (state setup n past) e.input (brought past e.input)).node else state setup n past

-- ---- steps that a run may take

abbrev pub requests : Input → OpId → Bool
requests (Request op key what) q = op.0 == q.0
requests (GiveUp op) q = false
requests (See other up) q = false
requests Tick q = false
requests (Deliver number) q = false
requests Crash q = false
requests Restart q = false

abbrev pub is_requested : List Entry → OpId → Bool
is_requested [] op = false
is_requested (e ∷ past) op = requests e.input op || is_requested past op

-- an operation is requested once
abbrev pub is_fresh : List Entry → Input → Bool
is_fresh past (Request op key what) = not (is_requested past op)
is_fresh past (GiveUp op) = true
is_fresh past (See other up) = true
is_fresh past Tick = true
is_fresh past (Deliver number) = true
is_fresh past Crash = true
is_fresh past Restart = true

abbrev pub is_to : Option Envelope → NodeId → Bool
is_to None node = false
is_to (Some e) node = e.to.0 == node.0

-- a message is delivered to the node that it is for, any number of times
abbrev pub arrives : List Entry → NodeId → Input → Bool
arrives past node (Request op key what) = true
arrives past node (GiveUp op) = true
arrives past node (See other up) = true
arrives past node Tick = true
arrives past node (Deliver number) = is_to (message_at past number) node
arrives past node Crash = true
arrives past node Restart = true

-- a node that an input names is one of the table
abbrev pub names_node : SetupState → Input → Bool
names_node setup (Request op key what) = true
names_node setup (GiveUp op) = true
names_node setup (See other up) = nat_lt other.0 setup.nodes
names_node setup Tick = true
names_node setup (Deliver number) = true
names_node setup Crash = true
names_node setup Restart = true

-- a node that is down takes a restart alone, and only such a node takes it
abbrev pub suits : Bool → Input → Bool
suits up (Request op key what) = up
suits up (GiveUp op) = up
suits up (See other b) = up
suits up Tick = up
suits up (Deliver number) = up
suits up Crash = up
suits up Restart = not up

-- whether a node may be given an input, and has a step for it
abbrev pub may_step : SetupState → List Entry → NodeId → Input → Bool
may_step setup past node input =
    nat_lt node.0 setup.nodes && names_node setup input && arrives past node input && suits (state setup node.0 past).up input && is_fresh past input
    && not (ends_numbers (state setup node.0 past) input (brought past input))

-- what the node gives
abbrev pub outs_of : SetupState → List Entry → NodeId → Input → List Output
outs_of setup past node input = (node_step (state setup node.0 past) input (brought past input)).outs

-- the entry of that step
abbrev pub entry_of : SetupState → List Entry → NodeId → Input → Entry
entry_of setup past node input = record { node = node; input = input; outputs = outs_of setup past node input }

-- an entry is a step of its node
pub record IsStep (setup : SetupState) (past : List Entry) (e : Entry) : Type 0 where
  pub allowed : may_step setup past e.node e.input ≡ true
  pub outputs : e.outputs ≡ outs_of setup past e.node e.input

-- each entry is a step of its node from the state that the earlier entries give
abbrev pub IsRun : SetupState → List Entry → Type 0
IsRun setup [] = Unit {0}
IsRun setup (e ∷ past) = IsStep setup past e × IsRun setup past
