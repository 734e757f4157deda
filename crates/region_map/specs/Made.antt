-- The one region map with given values, written out from the byte lists at which they may change.
use Rattle.std.specs.Prelude.{◌≡◌, ℕ, zero, suc, ◌+◌, ◌-◌, Bool, true, ◌&&◌, List, [], ◌∷◌, ◌++◌, Option, Some, None, if◌then◌else◌}
use Rattle.std.specs.Option.{is_some}
use Rattle.std.specs.List.{flat_map, AllByRecursion}
use Rattle.region_map.specs.declared.region.Region.{Region}
use Rattle.region_map.specs.declared.row.Range.{Range}
use Rattle.region_map.specs.Equal.{same_option, same_pair}
use Rattle.region_map.specs.Regions.{before, low, in_region}
use Rattle.region_map.specs.Maps.{Pieced, Band, value_at, pieces_of}
use Rattle.region_map.specs.Calls.{paired}

-- ---- where values may change

-- a byte list put among others that are in order
abbrev pub with_cut : List ℕ → List (List ℕ) → List (List ℕ)
with_cut c [] = c ∷ []
with_cut c (d ∷ ds) = if before d c then d ∷ with_cut c ds else c ∷ d ∷ ds

abbrev pub in_order : List (List ℕ) → List (List ℕ)
in_order [] = []
in_order (c ∷ cs) = with_cut c (in_order cs)

-- where a region begins and ends; an absent bound is the empty list, at which nothing changes
abbrev pub ends_of : Region → List (List ℕ)
ends_of r = low r.from ∷ low r.to ∷ []

abbrev pub cuts_of : {V : Type 0} → List (Region × V) → List (List ℕ)
cuts_of ps = flat_map (λ p. ends_of p.0) ps

-- two byte lists that no cut parts
abbrev pub Together : List (List ℕ) → List ℕ → List ℕ → Type 0
Together cuts k q = AllByRecursion (λ c. before k c ≡ before q c) cuts

-- values that change at these byte lists alone
abbrev pub ChangesAt : {V : Type 0} → List (List ℕ) → (ℕ → List ℕ → Option V) → Type 0
ChangesAt cuts value = (h : ℕ) (k q : List ℕ) → Together cuts k q → value h k ≡ value h q

-- ---- the row of a hash

-- a range, if there is a value
abbrev pub range_if : {V : Type 0} → Option (List ℕ) → Option (List ℕ) → Option V → List (Range V)
range_if from to None = []
range_if from to (Some v) = record { from = from; to = to; value = v } ∷ []

-- the ranges from a bound on: each goes on over the cuts at which its value stays
abbrev pub ranges_made : {V : Type 0} → (V → V → Bool) → (List ℕ → Option V) → Option (List ℕ) → List (List ℕ) → List (Range V)
ranges_made same value from [] = range_if from None (value (low from))
ranges_made same value from (c ∷ cs) =
    if same_option same (value (low from)) (value c)
    then ranges_made same value from cs
    else range_if from (Some c) (value (low from)) ++ ranges_made same value (Some c) cs

-- whether two rows have the same value at each of these byte lists
abbrev pub agree : {V : Type 0} → (V → V → Bool) → (List ℕ → Option V) → (List ℕ → Option V) → List (List ℕ) → Bool
agree same a b [] = true
agree same a b (k ∷ ks) = same_option same (a k) (b k) && agree same a b ks

-- ---- bands

-- a band, if its hashes have a value
abbrev pub band_if : {V : Type 0} → ℕ → ℕ → List (Range V) → List (Band V)
band_if from to [] = []
band_if from to (g ∷ gs) = record { hash_from = from; hash_to = to; row = g ∷ gs } ∷ []

-- the bands from a hash on, which goes up to another with one row; so many hashes come behind. A band goes on
-- over the hashes that are alike
abbrev pub bands_made : {V : Type 0} → (ℕ → ℕ → Bool) → (ℕ → List (Range V)) → ℕ → ℕ → ℕ → List (Band V)
bands_made alike row from to zero = band_if from to (row from)
bands_made alike row from to (suc n) =
    if alike from to
    then bands_made alike row from (to + 1) n
    else band_if from to (row from) ++ bands_made alike row to (to + 1) n

-- ---- maps

-- the canonical map with so many hashes and these values, which change at these byte lists alone; `same` tests
-- whether two of them are the same
unfoldable pub made : {V : Type 0} → (V → V → Bool) → ℕ → List (List ℕ) → (ℕ → List ℕ → Option V) → Pieced V
made same hashes cuts value = record {
  hashes = hashes;
  pieces = pieces_of (bands_made (λ h q. agree same (value h) (value q) ([] ∷ in_order cuts)) (λ h. ranges_made same (value h) None (in_order cuts)) 0 1 (hashes - 1));
}

-- the map that has at each pair what the two maps together give there
abbrev pub joined : {V W X : Type 0} → (X → X → Bool) → (Option V → Option W → Option X) → Pieced V → Pieced W → Pieced X
joined same f m n = made same m.hashes (cuts_of m.pieces ++ cuts_of n.pieces) (λ h k. f (value_at m.pieces h k) (value_at n.pieces h k))

-- the map with one value on a domain, and none elsewhere
abbrev pub constant_map : {V : Type 0} → (V → V → Bool) → Region → ℕ → V → Pieced V
constant_map same domain hashes value = made same hashes (ends_of domain) (λ h k. if in_region domain h k then Some value else None)

-- the map with this value at the pairs of a part that have one
abbrev pub set_map : {V : Type 0} → (V → V → Bool) → Region → V → Pieced V → Pieced V
set_map same part value m = made same m.hashes (ends_of part ++ cuts_of m.pieces)
    (λ h k. if in_region part h k && is_some (value_at m.pieces h k) then Some value else value_at m.pieces h k)

-- the map on a part alone
abbrev pub mask_map : {V : Type 0} → (V → V → Bool) → Region → Pieced V → Pieced V
mask_map same part m = made same m.hashes (ends_of part ++ cuts_of m.pieces) (λ h k. if in_region part h k then value_at m.pieces h k else None)

-- both values, where both maps have one
abbrev pub meet_map : {V W : Type 0} → (V → V → Bool) → (W → W → Bool) → Pieced V → Pieced W → Pieced (V × W)
meet_map same_first same_second m n = joined (same_pair same_first same_second) paired m n
