-- How the piece of a pair is found among pieces that stand in order.
use Rattle.std.specs.Prelude.{◌≡◌, ℕ, Bool, true, false, not, ◌&&◌, ◌||◌, nat_le, List, [], ◌∷◌}
use Rattle.std.specs.List.{AllByRecursion}
use Rattle.region_map.specs.declared.region.Region.{Region}
use Rattle.region_map.specs.Regions.{before, low, in_region}

-- whether a region begins no later than a pair: its hashes lie before the pair's, or begin there, and then so does its range
abbrev pub begins_by : Region → ℕ → List ℕ → Bool
begins_by r h k = nat_le r.hash_to h || (nat_le r.hash_from h && not (before k (low r.from)))

-- of a pair by which the second piece begins, the first one begins by it too, and ends before it
pub record Precedes {V : Type 0} (p q : Region × V) : Type 0 where
  pub at : (h : ℕ) (k : List ℕ) → begins_by q.0 h k ≡ true → (begins_by p.0 h k ≡ true) × (in_region p.0 h k ≡ false)

abbrev pub AreInOrder : {V : Type 0} → List (Region × V) → Type 0
AreInOrder [] = Unit {0}
AreInOrder (p ∷ ps) = AllByRecursion (Precedes p) ps × AreInOrder ps
