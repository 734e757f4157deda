use Rattle.std.proofs.Common.{◌≡◌, drop}
use Rattle.branch_history.specs.Paths.{is_on}
use Rattle.branch_history.proofs.history.is_on.Given as goal

abbrev pub invariant-loop-branch : goal.invariant-loop-branch
invariant-loop-branch l = is_on (drop l.branch-index l.branches) l.hash l.key l.last l.point ≡ is_on l.branches l.hash l.key l.end l.point
