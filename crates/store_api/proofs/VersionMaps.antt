-- The version maps of the calls are region maps, and have their values at each pair.
use Rattle.std.proofs.Common.{◌≡◌, ℕ, ◌<◌, true, cond, ◌&&◌, not, nat_lt, nat_le, List, ◌++◌, Some, None, ap, ap₂, ◌∙◌, arith}
use Rattle.std.proofs.lemmas.Bool.{lt-ltb, le-leb}
use Rattle.region_map.specs.declared.id.Id.{Id}
use Rattle.region_map.specs.declared.region.Region.{Region}
use Rattle.region_map.specs.Regions.{in_region}
use Rattle.region_map.specs.Maps.{Pieced, IsCanonical, value_at}
use Rattle.region_map.specs.Made.{ends_of, cuts_of, ChangesAt}
use Rattle.region_map.proofs.Made.{made_hashes, made_canonical, made_at, made_is, region_together, values_together, set_changes, constant_changes}
use Rattle.region_map.proofs.Order.{before_nil}
use Rattle.branch_history.specs.declared.version.Version.{Version}
use Rattle.branch_history.specs.Paths.{zero}
use Rattle.branch_history.specs.Equal.{same_version, version_decides}
use Rattle.store_api.specs.Versions.{point, is_behind, advanced, replaced, advanced_map, replaced_map, zero_map}

-- ---- the versions of a part come to a point of a branch

pub advanced_changes : (part : Region) (branch : Id) (at : ℕ) (m : Pieced Version)
    → ChangesAt (ends_of part ++ cuts_of m.pieces) (λ h k. advanced part branch at h k (value_at m.pieces h k))
advanced_changes part branch at m h k q t =
    ap₂ (λ b x. cond (b && is_behind branch at x) (Some (point branch at)) x) (region_together part h k q (t.0, (t.1.0, tt))) (values_together m.pieces h k q t.1.1)

pub advanced_map_hashes : (part : Region) (branch : Id) (at : ℕ) (m : Pieced Version) → (advanced_map part branch at m).hashes ≡ m.hashes
advanced_map_hashes part branch at m =
    made_hashes same_version m.hashes (ends_of part ++ cuts_of m.pieces) (λ h k. advanced part branch at h k (value_at m.pieces h k))

pub advanced_map_canonical : (part : Region) (branch : Id) (at : ℕ) (m : Pieced Version) → 0 < m.hashes → IsCanonical (advanced_map part branch at m)
advanced_map_canonical part branch at m =
    made_canonical same_version version_decides m.hashes (ends_of part ++ cuts_of m.pieces) (λ h k. advanced part branch at h k (value_at m.pieces h k)) (advanced_changes part branch at m)

pub advanced_map_at : (part : Region) (branch : Id) (at : ℕ) (m : Pieced Version) (h : ℕ) (k : List ℕ) → h < m.hashes
    → value_at (advanced_map part branch at m).pieces h k ≡ advanced part branch at h k (value_at m.pieces h k)
advanced_map_at part branch at m h k lt =
    made_at same_version version_decides m.hashes (ends_of part ++ cuts_of m.pieces) (λ h k. advanced part branch at h k (value_at m.pieces h k)) (advanced_changes part branch at m)
    (omega arith) h k lt

pub advanced_map_is : (part : Region) (branch : Id) (at : ℕ) (m r : Pieced Version) → IsCanonical r → r.hashes ≡ m.hashes
    → ((h : ℕ) (k : List ℕ) → value_at r.pieces h k ≡ advanced part branch at h k (value_at m.pieces h k)) → r ≡ advanced_map part branch at m
advanced_map_is part branch at m r canonical hashes is =
    made_is same_version version_decides m.hashes (ends_of part ++ cuts_of m.pieces) (λ h k. advanced part branch at h k (value_at m.pieces h k)) (advanced_changes part branch at m)
    r canonical hashes (λ h k _. is h k)

-- ---- the versions of a part become another one

pub replaced_map_hashes : (part : Region) (new : Version) (m : Pieced Version) → (replaced_map part new m).hashes ≡ m.hashes
replaced_map_hashes part new m = made_hashes same_version m.hashes (ends_of part ++ cuts_of m.pieces) (λ h k. replaced part new h k (value_at m.pieces h k))

pub replaced_map_canonical : (part : Region) (new : Version) (m : Pieced Version) → 0 < m.hashes → IsCanonical (replaced_map part new m)
replaced_map_canonical part new m =
    made_canonical same_version version_decides m.hashes (ends_of part ++ cuts_of m.pieces) (λ h k. replaced part new h k (value_at m.pieces h k)) (set_changes part new m)

pub replaced_map_at : (part : Region) (new : Version) (m : Pieced Version) (h : ℕ) (k : List ℕ) → h < m.hashes
    → value_at (replaced_map part new m).pieces h k ≡ replaced part new h k (value_at m.pieces h k)
replaced_map_at part new m h k lt =
    made_at same_version version_decides m.hashes (ends_of part ++ cuts_of m.pieces) (λ h k. replaced part new h k (value_at m.pieces h k)) (set_changes part new m)
    (omega arith) h k lt

-- ---- the zero version at each key

abbrev pub everything : ℕ → Region
everything hashes = record { hash_from = 0; hash_to = hashes; from = None; to = None }

pub zero_map_hashes : (hashes : ℕ) → (zero_map hashes).hashes ≡ hashes
zero_map_hashes hashes = made_hashes same_version hashes (ends_of (everything hashes)) (λ h k. cond (in_region (everything hashes) h k) (Some zero) None)

pub zero_map_canonical : (hashes : ℕ) → 0 < hashes → IsCanonical (zero_map hashes)
zero_map_canonical hashes =
    made_canonical same_version version_decides hashes (ends_of (everything hashes)) (λ h k. cond (in_region (everything hashes) h k) (Some zero) None) (constant_changes (everything hashes) zero)

everything_has : (hashes h : ℕ) (k : List ℕ) → h < hashes → in_region (everything hashes) h k ≡ true
everything_has hashes h k lt =
    ap (λ x. (nat_le 0 h && nat_lt h hashes) && (not x && true)) (before_nil k)
    ∙ ap (λ x. (x && nat_lt h hashes) && true) (le-leb 0 h (omega arith))
    ∙ ap (λ x. x && true) (lt-ltb h hashes lt)

pub zero_map_at : (hashes h : ℕ) (k : List ℕ) → h < hashes → value_at (zero_map hashes).pieces h k ≡ Some zero
zero_map_at hashes h k lt =
    made_at same_version version_decides hashes (ends_of (everything hashes)) (λ h k. cond (in_region (everything hashes) h k) (Some zero) None) (constant_changes (everything hashes) zero)
    (omega arith) h k lt
    ∙ ap (λ b. cond b (Some zero) None) (everything_has hashes h k lt)
