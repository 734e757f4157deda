-- What clients see of a region map: its pieces, and the one value that they give each pair.
use Rattle.std.specs.Prelude.{◌≡◌, ◌≢◌, ℕ, ◌<◌, ◌≤◌, true, List, [], ◌∷◌, map, Option, Some, None, if◌then◌else◌}
use Rattle.std.specs.List.{flat_map, AllByRecursion}
use Rattle.region_map.specs.declared.region.Region.{Region}
use Rattle.region_map.specs.declared.row.Range.{Range}
use Rattle.region_map.specs.Regions.{in_range, in_region, is_open, ends_by, is_bound}

-- a region map: how many hashes it has, and its pieces in order
pub record Pieced (V : Type 0) : Type 0 where
  pub hashes : ℕ
  pub pieces : List (Region × V)

-- the value at a pair of a hash and a byte list: none exactly outside the pieces
abbrev pub value_at : {V : Type 0} → List (Region × V) → ℕ → List ℕ → Option V
value_at [] h k = None
value_at (p ∷ ps) h k = if in_region p.0 h k then Some p.1 else value_at ps h k

-- the value that a row of ranges gives a byte list
abbrev pub row_value : {V : Type 0} → List (Range V) → List ℕ → Option V
row_value [] k = None
row_value (g ∷ gs) k = if in_range g.from g.to k then Some g.value else row_value gs k

-- the second range comes after the first, and where they touch they differ, so that no range could be longer
pub record Follows {V : Type 0} (a b : Range V) : Type 0 where
  pub apart : ends_by a.to b.from ≡ true
  pub longest : a.to ≡ b.from → a.value ≢ b.value

pub record IsRange {V : Type 0} (a : Range V) : Type 0 where
  pub holds : is_open a.from a.to ≡ true
  pub begins : is_bound a.from ≡ true
  pub ends : is_bound a.to ≡ true

-- the longest ranges with one value, in order
abbrev pub IsRow : {V : Type 0} → List (Range V) → Type 0
IsRow [] = Unit {0}
IsRow (g ∷ gs) = IsRange g × AllByRecursion (Follows g) gs × IsRow gs

-- hashes from one up to but without another, with the same row each
pub record Band (V : Type 0) : Type 0 where
  pub hash_from : ℕ
  pub hash_to : ℕ
  pub row : List (Range V)

-- the second band comes after the first, and where they touch their rows differ, so that no band could be longer
pub record Succeeds {V : Type 0} (a b : Band V) : Type 0 where
  pub apart : a.hash_to ≤ b.hash_from
  pub longest : a.hash_to ≡ b.hash_from → a.row ≢ b.row

pub record IsBand {V : Type 0} (hashes : ℕ) (a : Band V) : Type 0 where
  pub holds : a.hash_from < a.hash_to
  pub within : a.hash_to ≤ hashes
  pub filled : a.row ≢ []
  pub row : IsRow a.row

-- the longest bands of neighbouring hashes with the same row, in order
abbrev pub AreBands : {V : Type 0} → ℕ → List (Band V) → Type 0
AreBands hashes [] = Unit {0}
AreBands hashes (b ∷ bs) = IsBand hashes b × AllByRecursion (Succeeds b) bs × AreBands hashes bs

-- the pieces of a band: its hashes times each of its ranges
abbrev pub piece : {V : Type 0} → ℕ → ℕ → Range V → Region × V
piece hash_from hash_to g = (record { hash_from = hash_from; hash_to = hash_to; from = g.from; to = g.to }, g.value)

abbrev pub pieces_of : {V : Type 0} → List (Band V) → List (Region × V)
pieces_of bs = flat_map (λ b. map (piece b.hash_from b.hash_to) b.row) bs

-- the pieces are the one list of longest bands times longest ranges
pub record IsCanonical {V : Type 0} (m : Pieced V) : Type 0 where
  pub bands : List (Band V)
  pub are : AreBands m.hashes bands
  pub pieces : m.pieces ≡ pieces_of bands
  pub some_hash : 0 < m.hashes
