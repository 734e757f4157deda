use Rattle.std.proofs.Common.{◌≡◌, ◌++◌, map, drop}
use Rattle.step_runs.specs.runs.Committed.{viewed_in}
use Rattle.journal_story.proofs.latest.add_outputs.Given as goal

-- with the changes of the outputs that are left, it comes to those of all
abbrev pub invariant-loop-output : goal.invariant-loop-output
invariant-loop-output l =
    map (λ r. r.now) l.viewed.items ++ viewed_in (drop l.output-index l.outputs) ≡ map (λ r. r.now) l.initial.viewed.items ++ viewed_in l.outputs
