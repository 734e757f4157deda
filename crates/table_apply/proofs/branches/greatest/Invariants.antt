use Rattle.std.proofs.Common.{◌≡◌, drop, max}
use Rattle.table_apply.specs.Effects.{greatest}
use Rattle.table_apply.proofs.branches.greatest.Given as goal

abbrev pub invariant-loop-piece : goal.invariant-loop-piece
invariant-loop-piece l = max l.most (greatest (drop l.piece-index l.pieces)) ≡ greatest l.pieces
