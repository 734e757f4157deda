use Rattle.std.proofs.Common.{◌≡◌, drop}
use Rattle.table_apply.specs.Conditions.{same_pieces}
use Rattle.table_apply.proofs.branches.same_pieces.Given as goal

abbrev pub invariant-loop-place : goal.invariant-loop-place
invariant-loop-place l = same_pieces (drop l.place l.a) (drop l.place l.b) ≡ same_pieces l.a l.b
