-- Which pairs of a hash and a byte list lie in the regions of a list, and tests of all pairs.
use Rattle.std.specs.Prelude.{◌==◌, ℕ, ◌+◌, Bool, ◌&&◌, ◌||◌, List, [], ◌∷◌, nat_lt, nat_le, min, if◌then◌else◌}
use Rattle.std.specs.List.{list_all}
use Rattle.region_map.specs.declared.region.Region.{Region}
use Rattle.region_map.specs.Regions.{in_region, low}
use Rattle.contract_types.specs.declared.tiling.Rule.{Rule}
use Rattle.contract_types.specs.declared.tiling.Rule.TheVariants.{Apart, Whole, Tiles}

-- how many of these have a pair in their region
abbrev pub holders : {T : Type 0} → (T → Region) → List T → ℕ → List ℕ → ℕ
holders place [] h k = 0
holders place (x ∷ xs) h k = if in_region (place x) h k then 1 + holders place xs h k else holders place xs h k

-- what a rule asks of a pair with a hash, which `first` of the one list and `second` of the other have
abbrev pub allows : Rule → ℕ → ℕ → ℕ → Bool
allows Apart h first second = nat_le first 1
allows (Whole hashes) h first second = nat_le hashes h || nat_lt 0 first
allows Tiles h first second = first == min 1 second

abbrev pub allows_at : {T U : Type 0} → Rule → (T → Region) → (U → Region) → List T → List U → ℕ → List ℕ → Bool
allows_at rule p q xs ys h k = allows rule h (holders p xs h k) (holders q ys h k)

-- a test at the byte lists at which these begin and end, and at their hashes
abbrev pub at_bounds : {T : Type 0} → (T → Region) → List T → (List ℕ → Bool) → Bool
at_bounds place xs test = list_all (λ x. test (low (place x).from) && test (low (place x).to)) xs

abbrev pub at_hashes : {T : Type 0} → (T → Region) → List T → (ℕ → Bool) → Bool
at_hashes place xs test = list_all (λ x. test (place x).hash_from && test (place x).hash_to) xs

abbrev pub at_all_bounds : {T U : Type 0} → (T → Region) → (U → Region) → List T → List U → (List ℕ → Bool) → Bool
at_all_bounds p q xs ys test = test [] && at_bounds p xs test && at_bounds q ys test

-- a test at each pair of a hash that is 0 or a bound and a byte list that is the least or a bound. A test that
-- asks only which of the regions have a pair passes there exactly where it passes at every pair: from any pair
-- down to the next bounds no region is left or entered
abbrev pub everywhere : {T U : Type 0} → (T → Region) → (U → Region) → List T → List U → (ℕ → List ℕ → Bool) → Bool
everywhere p q xs ys test =
    at_all_bounds p q xs ys (test 0) && at_hashes p xs (λ h. at_all_bounds p q xs ys (test h)) && at_hashes q ys (λ h. at_all_bounds p q xs ys (test h))
