use Rattle.std.proofs.Common.{◌≡◌, ◌++◌, map, take}
use Rattle.journal_story.proofs.latest.add_results.Given as goal

abbrev pub invariant-loop-one : goal.invariant-loop-one
invariant-loop-one l = map (λ r. r.now) l.viewed.items ≡ map (λ r. r.now) l.initial.viewed.items ++ take l.one-index l.results
