-- How the bands of a region map are made, and what its calls give at each pair.
use Rattle.std.specs.Prelude.{◌≡◌, ℕ, ◌+◌, ◌==◌, ◌&&◌, List, [], ◌∷◌, nat_lt, nat_le, if◌then◌else◌}
use Rattle.region_map.specs.declared.row.Range.{Range}
use Rattle.region_map.specs.declared.band.RowBand.{RowBand}
use Rattle.region_map.specs.Maps.{Band, AreBands}

-- the row of a hash
abbrev pub row_at : {V : Type 0} → List (Band V) → ℕ → List (Range V)
row_at [] h = []
row_at (b ∷ bs) h = if nat_le b.hash_from h && nat_lt h b.hash_to then b.row else row_at bs h

-- the row of the next hash is added
pub record Adds {V : Type 0} (old : List (Band V)) (h : ℕ) (row : List (Range V)) (new : List (Band V)) : Type 0 where
  pub are : AreBands (h + 1) new
  pub at : (q : ℕ) → row_at new q ≡ (if q == h then row else row_at old q)

-- what the code keeps of a band
abbrev pub band_of : {V : Type 0} → RowBand V → Band V
band_of b = record { hash_from = b.hash_from; hash_to = b.hash_to; row = b.ranges.items }
