-- One turn of a node: what it does, by the turn's number, the node's items, what it has seen, what it took and passed
-- over before, and the chance.
use Rattle.std.specs.Prelude.{ℕ, ◌+◌, ◌==◌, ◌%◌, Bool, not, ◌&&◌, List, Option, Some, None, is_some, slice_get, if◌then◌else◌}
use Rattle.node_turn.specs.runs.region_map.declared.id.NodeId.{NodeId}
use Rattle.node_turn.specs.runs.register_laws.declared.operation.OpId.{OpId}
use Rattle.node_turn.specs.runs.exec_types.declared.input.Input.{Input}
use Rattle.node_turn.specs.runs.exec_types.declared.input.Input.TheVariants as input
use Rattle.node_turn.specs.runs.node_core.declared.journal.Entry.{Entry}
use Rattle.node_turn.specs.runs.Run.{suits}
use Rattle.node_turn.specs.declared.chance.Chance.{Chance}
use Rattle.node_turn.specs.declared.position.Act.{Act}
use Rattle.node_turn.specs.declared.position.Act.TheVariants.{Item, Refused, Tick, Deliver, Nothing}
use Rattle.node_turn.specs.declared.position.MessageCopy.{MessageCopy}
use Rattle.node_turn.specs.declared.position.Position.{Position}
use Rattle.node_turn.specs.declared.position.TurnItem.{TurnItem}
use Rattle.node_turn.specs.declared.position.Turned.{Turned}
use Rattle.node_turn.specs.Outcomes.{awaited}
use Rattle.node_turn.specs.Search.{due}

-- ---- with an item

-- a node that is down takes a restart alone, and only such a node takes it; either way the item is gone by
abbrev pub with_item : Bool → Position → Input → Turned
with_item up p input = record { act = if suits up input then Item else Refused; waited = None; position = record p { gone = p.gone + 1 } }

-- ---- without an item

abbrev pub idle : Position → Option OpId → Turned
idle p waited = record { act = Nothing; waited = waited; position = p }

abbrev pub ticking : Position → Option OpId → Turned
ticking p waited = record { act = Tick; waited = waited; position = p }

abbrev pub delivered : Position → Option OpId → Option MessageCopy → Turned
delivered p waited None = idle p waited
delivered p waited (Some copy) = record { act = Deliver copy.message; waited = waited; position = record p { taken = copy } }

-- a node that is up ticks in its turn, and else takes the next copy that is due
abbrev pub without_item : Chance → NodeId → ℕ → Bool → List Entry → Position → Option OpId → Turned
without_item chance node number up past p waited =
    if not up then idle p waited
    else if number % chance.ticks == 0 then ticking p waited else delivered p waited (due chance node p.taken past)

-- ---- a turn

-- an item waits for an outcome, and the turn goes on without it
abbrev pub after_wait : Chance → NodeId → ℕ → Bool → List Entry → Position → Input → Option OpId → Turned
after_wait chance node number up past p input None = with_item up p input
after_wait chance node number up past p input (Some op) = without_item chance node number up past p (Some op)

-- the next item, where one is left
abbrev pub with_next : Chance → NodeId → ℕ → Bool → List Entry → Position → Option TurnItem → Turned
with_next chance node number up past p None = without_item chance node number up past p None
with_next chance node number up past p (Some item) = after_wait chance node number up past p item.input (awaited past item.after)

-- items are for odd turns
abbrev pub turn_of : Chance → List TurnItem → NodeId → ℕ → Bool → List Entry → Position → Turned
turn_of chance items node number up past p =
    if number % 2 == 1 then with_next chance node number up past p (slice_get items p.gone)
    else without_item chance node number up past p None

-- ---- what the node is given

abbrev pub item_input : Option TurnItem → Option Input
item_input None = None
item_input (Some item) = Some item.input

abbrev pub input_of : List TurnItem → Position → Act → Option Input
input_of items p Item = item_input (slice_get items p.gone)
input_of items p Refused = None
input_of items p Tick = Some input.Tick
input_of items p (Deliver message) = Some (input.Deliver message)
input_of items p Nothing = None

-- before its first turn a node has taken nothing
abbrev pub at_first : Position
at_first = record { gone = 0; taken = record { message = 0; copy = 0 } }

-- ---- what is counted

-- a turn that waits for an operation is one
abbrev pub waits_of : Turned → ℕ
waits_of t = if is_some t.waited then 1 else 0

-- a turn in which an item is due is one
abbrev pub tries_of : List TurnItem → ℕ → Position → ℕ
tries_of items number p = if (number % 2 == 1) && is_some (slice_get items p.gone) then 1 else 0
