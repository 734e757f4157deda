use Rattle.std.proofs.Common.{◌≡◌, ℕ, drop}
use Rattle.std.specs.Ordering.{nat_cmp}
use Rattle.std.specs.BTreeMap.{get}
use Rattle.step_runs.specs.runs.Story.{answer_in}
use Rattle.journal_story.specs.Done.{mark_of, or_mark, op_of}
use Rattle.journal_story.proofs.done.mark_outputs.Given as goal

-- with the answers that are left, it comes to those of all
abbrev pub invariant-loop-output : goal.invariant-loop-output
invariant-loop-output l =
    (n : ℕ) → or_mark (get nat_cmp l.marks n) (mark_of (answer_in (drop l.output-index l.outputs) (op_of n))) ≡ or_mark (get nat_cmp l.initial.marks n) (mark_of (answer_in l.outputs (op_of n)))
