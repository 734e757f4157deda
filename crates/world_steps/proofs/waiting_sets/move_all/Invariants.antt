-- What was moved, and what is left, are what was there; there is room for what is left.
use Rattle.std.proofs.Common.{◌≡◌, ◌++◌, length, ◌+◌, ◌≤◌}
use Rattle.world_steps.proofs.waiting_sets.move_all.Given as goal

abbrev pub invariant-loop-number : goal.invariant-loop-number
invariant-loop-number l =
    (l.behind.items ++ l.set.keys ≡ l.fn.behind.items ++ l.fn.set.keys)
    × (length l.behind.items + length l.set.keys ≤ l.behind.cap)

abbrev pub decreases-loop-number : goal.decreases-loop-number
decreases-loop-number l = length l.set.keys
