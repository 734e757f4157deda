use Rattle.std.proofs.Common.{◌≡◌, ◌++◌, map}
use Rattle.region_map.specs.Maps.{piece}
use Rattle.region_map.proofs.band.add_pieces.Given as goal

abbrev pub invariant-loop-range : goal.invariant-loop-range
invariant-loop-range g l = l.pieces.items ≡ l.initial.pieces.items ++ map (piece l.hash_from l.hash_to) l.yielded
