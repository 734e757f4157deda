use Rattle.std.proofs.Common.{◌≡◌, ℕ, drop}
use Rattle.std.specs.Ordering.{nat_cmp}
use Rattle.std.specs.BTreeMap.{get}
use Rattle.journal_story.specs.runs.Story.{answer_in}
use Rattle.journal_story.specs.Done.{op_of}
use Rattle.report_text.specs.Known.{all_answered, or_answered}
use Rattle.report_text.proofs.known.keep_outputs.Given as goal

-- with the answers that are left, it comes to those of all
abbrev pub invariant-loop-output : goal.invariant-loop-output
invariant-loop-output l =
    (n : ℕ) → or_answered (get nat_cmp l.answers n) (all_answered (answer_in (drop l.output-index l.outputs) (op_of n))) ≡ or_answered (get nat_cmp l.initial.answers n) (all_answered (answer_in l.outputs (op_of n)))
