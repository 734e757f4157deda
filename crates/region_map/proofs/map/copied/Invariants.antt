use Rattle.std.proofs.Common.{◌≡◌, take}
use Rattle.region_map.proofs.map.copied.Given as goal

abbrev pub invariant-loop-piece : goal.invariant-loop-piece
invariant-loop-piece g l = l.copy.items ≡ take l.piece-index l.pieces
