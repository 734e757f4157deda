use Rattle.std.proofs.Common.{◌≡◌, ℕ, List, ◌++◌, drop}
use Rattle.journal_story.specs.runs.Story.{points_in}
use Rattle.report_text.specs.Stories.{text_at, points_text}
use Rattle.report_text.proofs.stories.tell_outputs.Given as goal

-- with the points that are left, it comes to those of all
abbrev pub invariant-loop-output : goal.invariant-loop-output
invariant-loop-output l =
    (key : List ℕ) → text_at l.texts key ++ points_text l.table l.known.past key (points_in l.what (drop l.output-index l.outputs)) ≡ text_at l.initial.texts key ++ points_text l.table l.known.past key (points_in l.what l.outputs)
