-- There are as many sets as turns, and each is empty.
use Rattle.std.proofs.Common.{◌≡◌, [], length}
use Rattle.std.specs.List.{AllByRecursion}
use Rattle.world_steps.proofs.waiting_sets.WaitingSets.begin.Given as goal

abbrev pub invariant-loop : goal.invariant-loop
invariant-loop l = (length l.sets.items ≡ l.counter) × AllByRecursion (λ s. s.keys ≡ []) l.sets.items
