use Rattle.std.proofs.Common.{◌≡◌, ◌++◌, drop}
use Rattle.region_map.specs.Rows.{ranges_at, stretches_of}
use Rattle.region_map.proofs.stretch.stretches_at.Given as goal

abbrev pub invariant-loop-piece : goal.invariant-loop-piece
invariant-loop-piece g l = l.row.items ++ stretches_of (ranges_at (drop l.piece-index l.pieces) l.hash) ≡ stretches_of (ranges_at l.pieces l.hash)
