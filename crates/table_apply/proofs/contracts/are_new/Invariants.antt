use Rattle.std.proofs.Common.{◌≡◌, drop}
use Rattle.table_apply.specs.Conditions.{are_new}
use Rattle.table_apply.proofs.contracts.are_new.Given as goal

abbrev pub invariant-loop-place : goal.invariant-loop-place
invariant-loop-place l = are_new l.contracts (drop l.place l.added) ≡ are_new l.contracts l.added
