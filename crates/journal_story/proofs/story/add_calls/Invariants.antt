use Rattle.std.proofs.Common.{◌≡◌, ◌++◌, map, drop}
use Rattle.step_runs.specs.runs.Story.{points_in}
use Rattle.journal_story.specs.Telling.{calls_of}
use Rattle.journal_story.proofs.story.add_calls.Given as goal

-- with those of the outputs that are left, it comes to those of all
abbrev pub invariant-loop-output : goal.invariant-loop-output
invariant-loop-output l =
    map (λ c. (c.0, c.1.now)) l.calls.items ++ calls_of l.table l.marks l.key (points_in l.what (drop l.output-index l.outputs)) ≡ map (λ c. (c.0, c.1.now)) l.initial.calls.items ++ calls_of l.table l.marks l.key (points_in l.what l.outputs)
