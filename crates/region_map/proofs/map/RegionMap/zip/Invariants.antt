use Rattle.std.proofs.Common.{◌≡◌, ◌<◌, ℕ, List, map}
use Rattle.region_map.specs.Maps.{AreBands, row_value, value_at}
use Rattle.region_map.specs.Bands.{band_of, row_at}
use Rattle.region_map.proofs.map.RegionMap.zip.Given as goal

abbrev pub invariant-loop-hash : goal.invariant-loop-hash
invariant-loop-hash g l = record {
  are : AreBands l.hash (map band_of l.bands.items);
  at : (h : ℕ) (k : List ℕ) → h < l.hash → row_value (row_at (map band_of l.bands.items) h) k
      ≡ g.F.Combine.combined l.with (value_at l.self.pieces h k) (value_at l.other.pieces h k);
}
