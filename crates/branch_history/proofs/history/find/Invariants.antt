use Rattle.std.proofs.Common.{◌≡◌, drop}
use Rattle.branch_history.specs.Histories.{birth_of}
use Rattle.branch_history.proofs.history.find.Given as goal

abbrev pub invariant-loop-branch : goal.invariant-loop-branch
invariant-loop-branch l = birth_of (drop l.branch-index l.branches) l.id ≡ birth_of l.branches l.id
