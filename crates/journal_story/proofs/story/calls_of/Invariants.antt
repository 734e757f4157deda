use Rattle.std.proofs.Common.{◌≡◌, map, take, reverse}
use Rattle.step_runs.specs.runs.Story.{points}
use Rattle.journal_story.specs.Telling.{calls_of}
use Rattle.journal_story.proofs.story.calls_of.Given as goal

abbrev pub invariant-loop-entry : goal.invariant-loop-entry
invariant-loop-entry l =
    map (λ c. (c.0, c.1.now)) l.calls.items ≡ calls_of l.table l.marks l.key (points (reverse (take l.entry-index l.entries)))
