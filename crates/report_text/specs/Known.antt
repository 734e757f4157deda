-- What is kept of a journal, and of refused requests, by the numbers of operations.
use Rattle.std.specs.Prelude.{◌≡◌, ℕ, List, Option, Some, None}
use Rattle.std.specs.Ordering.{nat_cmp}
use Rattle.std.specs.BTreeMap.{BTreeMap, get}
use Rattle.std.specs.BTreeSet.{BTreeSet, contains}
use Rattle.register_laws.specs.declared.operation.OpId.{OpId}
use Rattle.exec_types.specs.declared.outcome.Outcome.{Outcome}
use Rattle.node_core.specs.declared.journal.Entry.{Entry}
use Rattle.journal_story.specs.Done.{op_of}
use Rattle.journal_story.specs.runs.Run.{is_requested}
use Rattle.journal_story.specs.runs.Story.{answer, is_done_outcome}
use Rattle.report_text.specs.declared.answered.Answered.{Answered}
use Rattle.report_text.specs.Report.{outcome_text, is_down}

-- the entries of a journal, the newest first, and the operations that were asked of nodes that were down
pub record KnownState : Type 0 where
  pub past : List Entry
  pub down : List OpId

-- an outcome as it is kept
abbrev pub answered : Outcome → Answered
answered outcome = record { text = outcome_text outcome; done = is_done_outcome (Some outcome) }

abbrev pub all_answered : Option Outcome → Option Answered
all_answered None = None
all_answered (Some outcome) = Some (answered outcome)

-- the earlier answer stays
abbrev pub or_answered : Option Answered → Option Answered → Option Answered
or_answered None later = later
or_answered (Some first) later = Some first

-- a map has the answer to each operation of a journal
abbrev pub KeepsAnswers : BTreeMap ℕ Answered → List Entry → Type 0
KeepsAnswers answers past = (n : ℕ) → get nat_cmp answers n ≡ all_answered (answer past (op_of n))

-- a set has each operation that a journal requests
abbrev pub KeepsRequests : BTreeSet ℕ → List Entry → Type 0
KeepsRequests requested past = (n : ℕ) → contains nat_cmp requested n ≡ is_requested past (op_of n)

-- a set has each operation that was asked of a node that was down
abbrev pub KeepsDown : BTreeSet ℕ → List OpId → Type 0
KeepsDown set down = (n : ℕ) → contains nat_cmp set n ≡ is_down down (op_of n)
