-- Which operations are done, kept by their numbers.
use Rattle.std.specs.Prelude.{◌≡◌, ℕ, Bool, false, List, Option, Some, None}
use Rattle.std.specs.Ordering.{nat_cmp}
use Rattle.std.specs.BTreeMap.{BTreeMap, get}
use Rattle.register_laws.specs.declared.operation.OpId.{OpId}
use Rattle.exec_types.specs.declared.outcome.Outcome.{Outcome}
use Rattle.node_core.specs.declared.journal.Entry.{Entry}
use Rattle.step_runs.specs.runs.Story.{answer, is_done_outcome}

-- by numbers of operations that were answered: whether they are done
abbrev pub Marks : Type 0
Marks = BTreeMap ℕ Bool

abbrev pub mark_of : Option Outcome → Option Bool
mark_of None = None
mark_of (Some outcome) = Some (is_done_outcome (Some outcome))

-- the earlier mark stays
abbrev pub or_mark : Option Bool → Option Bool → Option Bool
or_mark None later = later
or_mark (Some first) later = Some first

-- the operation of this number
abbrev pub op_of : ℕ → OpId
op_of n = record { 0 = n }

-- the marks are those of the answers of a journal
abbrev pub MarksAnswers : Marks → List Entry → Type 0
MarksAnswers marks past = (n : ℕ) → get nat_cmp marks n ≡ mark_of (answer past (op_of n))

abbrev pub is_marked : Option Bool → Bool
is_marked None = false
is_marked (Some done) = done

-- whether an operation is done by its mark
abbrev pub is_done_by : Marks → OpId → Bool
is_done_by marks op = is_marked (get nat_cmp marks op.0)
