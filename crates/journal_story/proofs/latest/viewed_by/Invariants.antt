use Rattle.std.proofs.Common.{◌≡◌, map, take, reverse}
use Rattle.step_runs.specs.runs.Committed.{viewed_by}
use Rattle.journal_story.proofs.latest.viewed_by.Given as goal

abbrev pub invariant-loop-entry : goal.invariant-loop-entry
invariant-loop-entry l = map (λ r. r.now) l.viewed.items ≡ viewed_by l.node (reverse (take l.entry-index l.entries))
