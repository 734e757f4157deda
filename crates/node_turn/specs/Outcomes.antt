-- Which operation an item still waits for.
use Rattle.std.specs.Prelude.{◌≡◌, ℕ, ◌≤◌, Bool, true, false, not, List, length, reverse, take, slice_get, Option, Some, None, is_some, if◌then◌else◌}
use Rattle.std.specs.List.{list_any}
use Rattle.node_turn.specs.runs.register_laws.declared.operation.OpId.{OpId}
use Rattle.node_turn.specs.runs.register_laws.Lists.{same_op}
use Rattle.node_turn.specs.runs.exec_types.declared.output.Output.{Output}
use Rattle.node_turn.specs.runs.exec_types.declared.output.Output.TheVariants.{Message, Dispatched, Viewed, Answer}
use Rattle.node_turn.specs.runs.node_core.declared.journal.Entry.{Entry}
use Rattle.node_turn.specs.declared.position.TurnItem.{TurnItem}
use Rattle.node_turn.specs.runs.Story.{answer}

abbrev pub is_answer : OpId → Output → Bool
is_answer op (Message to message) = false
is_answer op (Dispatched asked key branch timestamp) = false
is_answer op (Viewed first results) = false
is_answer op (Answer asked outcome) = same_op asked op

-- a step answered an operation
abbrev pub answers : OpId → Entry → Bool
answers op e = list_any (is_answer op) e.outputs

-- what is seen answers an operation
abbrev pub has_outcome : List Entry → OpId → Bool
has_outcome past op = is_some (answer past op)

abbrev pub awaited : List Entry → Option OpId → Option OpId
awaited past None = None
awaited past (Some op) = if has_outcome past op then None else Some op

-- ---- how far a search has come

abbrev pub after_of : Option TurnItem → Option OpId
after_of None = None
after_of (Some item) = item.after

-- there is nothing to wait for, or it has no outcome
abbrev pub lacks : List Entry → Option OpId → Bool
lacks past None = true
lacks past (Some op) = not (has_outcome past op)

-- the oldest so many entries have no outcome of what the next item waits for
pub record IsAsked (items : List TurnItem) (gone : ℕ) (seen : List Entry) (asked : ℕ) : Type 0 where
  pub within : asked ≤ length seen
  pub lacking : lacks (reverse (take asked seen)) (after_of (slice_get items gone)) ≡ true
