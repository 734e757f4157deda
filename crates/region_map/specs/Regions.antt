-- What clients see of a region: which pairs of a hash and a byte list it holds.
use Rattle.std.specs.Prelude.{ℕ, Bool, true, false, ◌&&◌, not, List, [], length, nat_lt, nat_le, Option, Some, None}
use Rattle.std.specs.Ordering.{nat_cmp, is_lt}
use Rattle.std.specs.Cmp.Lexicographic.{slice_cmp}
use Rattle.region_map.specs.declared.region.Region.{Region}

-- whether a byte list comes before another in the order of their bytes
unfoldable pub before : List ℕ → List ℕ → Bool
before a b = is_lt (slice_cmp nat_cmp a b)

-- where a range begins: an absent bound is the empty list, which comes before all others
abbrev pub low : Option (List ℕ) → List ℕ
low None = []
low (Some bound) = bound

-- whether a byte list lies below an upper bound, of which an absent one is without end
abbrev pub below : List ℕ → Option (List ℕ) → Bool
below k None = true
below k (Some bound) = before k bound

-- whether a byte list lies from one bound up to but without another
abbrev pub in_range : Option (List ℕ) → Option (List ℕ) → List ℕ → Bool
in_range from to k = not (before k (low from)) && below k to

-- whether a range from one bound up to another holds anything
abbrev pub is_open : Option (List ℕ) → Option (List ℕ) → Bool
is_open from to = below (low from) to

-- whether a range that ends at the first bound lies wholly before one that begins at the second
abbrev pub ends_by : Option (List ℕ) → Option (List ℕ) → Bool
ends_by None from = false
ends_by (Some to) from = not (before (low from) to)

-- a bound is a key, so not the empty list
abbrev pub is_bound : Option (List ℕ) → Bool
is_bound None = true
is_bound (Some bound) = nat_lt 0 (length bound)

-- whether a region has a pair of a hash and a byte list
abbrev pub in_region : Region → ℕ → List ℕ → Bool
in_region r h k = (nat_le r.hash_from h && nat_lt h r.hash_to) && in_range r.from r.to k
