use Rattle.std.proofs.Common.{◌≡◌, ℕ, List, take, reverse}
use Rattle.journal_story.specs.runs.Story.{points}
use Rattle.report_text.specs.Stories.{text_at, points_text}
use Rattle.report_text.proofs.stories.texts_of.Given as goal

abbrev pub invariant-loop-entry : goal.invariant-loop-entry
invariant-loop-entry l =
    (key : List ℕ) → text_at l.texts key ≡ points_text l.table l.known.past key (points (reverse (take l.entry-index l.entries)))
