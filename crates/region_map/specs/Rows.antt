-- How the row of one hash is made.
use Rattle.std.specs.Prelude.{◌≡◌, ℕ, Bool, true, false, ◌&&◌, List, [], ◌∷◌, ◌++◌, drop, nat_lt, nat_le, Option, Some, None, if◌then◌else◌}
use Rattle.std.specs.List.{AllByRecursion}
use Rattle.region_map.specs.declared.region.Region.{Region}
use Rattle.region_map.specs.declared.row.Range.{Range}
use Rattle.region_map.specs.declared.stretch.Stretch.{Stretch}
use Rattle.region_map.specs.Regions.{low, below, before, in_range, is_open, is_bound, ends_by}
use Rattle.region_map.specs.Maps.{row_value, IsRow}

-- each range of a row ends before a bound
abbrev pub Precede : {V : Type 0} → List (Range V) → Option (List ℕ) → Type 0
Precede row bound = AllByRecursion (λ g. ends_by g.to bound ≡ true) row

-- a range is put behind the others of a row
pub record Puts {V : Type 0} (old : List (Range V)) (g : Range V) (new : List (Range V)) : Type 0 where
  pub row : IsRow new
  pub at : (k : List ℕ) → row_value new k ≡ (if in_range g.from g.to k then Some g.value else row_value old k)
  pub ends : (bound : Option (List ℕ)) → ends_by g.to bound ≡ true → Precede new bound

-- the ranges of one hash
abbrev pub at_hash : Region → ℕ → Bool
at_hash r h = nat_le r.hash_from h && nat_lt h r.hash_to

abbrev pub range_of : {V : Type 0} → Region × V → Range V
range_of p = record { from = p.0.from; to = p.0.to; value = p.1 }

abbrev pub ranges_at : {V : Type 0} → List (Region × V) → ℕ → List (Range V)
ranges_at [] h = []
ranges_at (p ∷ ps) h = if at_hash p.0 h then range_of p ∷ ranges_at ps h else ranges_at ps h

-- stretches, each up to its end, which also tell where there is no value
abbrev pub gap : {V : Type 0} → Option (List ℕ) → List (Stretch V)
gap None = []
gap (Some bound) = record { value = None; to = Some bound } ∷ []

abbrev pub stretches_of : {V : Type 0} → List (Range V) → List (Stretch V)
stretches_of [] = []
stretches_of (g ∷ gs) = (gap g.from ++ record { value = Some g.value; to = g.to } ∷ []) ++ stretches_of gs

abbrev pub stretch_value : {V : Type 0} → List (Stretch V) → List ℕ → Option V
stretch_value [] k = None
stretch_value (s ∷ ss) k = if below k s.to then s.value else stretch_value ss k

-- what stands first, and where it ends
abbrev pub head_value : {V : Type 0} → List (Stretch V) → Option V
head_value [] = None
head_value (s ∷ ss) = s.value

abbrev pub head_end : {V : Type 0} → List (Stretch V) → Option (List ℕ)
head_end [] = None
head_end (s ∷ ss) = s.to

-- whether an upper bound comes before another
abbrev pub sooner : Option (List ℕ) → Option (List ℕ) → Bool
sooner None b = false
sooner (Some a) None = true
sooner (Some a) (Some b) = before a b

abbrev pub sooner_of : Option (List ℕ) → Option (List ℕ) → Option (List ℕ)
sooner_of a b = if sooner b a then b else a

-- the byte lists from one bound up to another are given a value, or none, behind all that have one
pub record Emits {V : Type 0} (old : List (Range V)) (from to : Option (List ℕ)) (value : Option V) (new : List (Range V)) (next : Option (List ℕ)) : Type 0 where
  pub row : IsRow new
  pub at : (k : List ℕ) → row_value new k ≡ (if in_range from to k then value else row_value old k)
  pub cursor : next ≡ (if is_open from to then to else from)
  pub ends : (bound : List ℕ) → to ≡ Some bound → Precede new next
  pub bound : is_bound next ≡ true

-- the row whose value at each byte list is made of those of two lists of stretches
pub record IsZipped {V W X : Type 0} (f : Option V → Option W → Option X) (a : List (Stretch V)) (b : List (Stretch W)) (made : List (Range X)) : Type 0 where
  pub row : IsRow made
  pub at : (k : List ℕ) → row_value made k ≡ f (stretch_value a k) (stretch_value b k)

-- up to a bound it is made, and the rest of the stretches says what comes behind
pub record IsZipping {V W X : Type 0} (f : Option V → Option W → Option X) (a : List (Stretch V)) (b : List (Stretch W)) (i j : ℕ) (made : List (Range X)) (from : Option (List ℕ)) : Type 0 where
  pub row : IsRow made
  pub at : (k : List ℕ) → before k (low from) ≡ true → row_value made k ≡ f (stretch_value a k) (stretch_value b k)
  pub first : (k : List ℕ) → before k (low from) ≡ false → stretch_value a k ≡ stretch_value (drop i a) k
  pub second : (k : List ℕ) → before k (low from) ≡ false → stretch_value b k ≡ stretch_value (drop j b) k
  pub ends : Precede made from
  pub bound : is_bound from ≡ true
