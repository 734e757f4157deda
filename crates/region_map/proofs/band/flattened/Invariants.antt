use Rattle.std.proofs.Common.{◌≡◌, map}
use Rattle.region_map.specs.Maps.{pieces_of}
use Rattle.region_map.specs.Bands.{band_of}
use Rattle.region_map.proofs.band.flattened.Given as goal

abbrev pub invariant-loop-band : goal.invariant-loop-band
invariant-loop-band g l = l.pieces.items ≡ pieces_of (map band_of l.yielded)
