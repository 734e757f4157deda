use Rattle.std.proofs.Common.{◌≡◌, drop}
use Rattle.branch_history.specs.Histories.{knows}
use Rattle.branch_history.proofs.history.is_known.Given as goal

abbrev pub invariant-loop-branch : goal.invariant-loop-branch
invariant-loop-branch l = knows (drop l.branch-index l.branches) l.id ≡ knows l.branches l.id
