-- The maps of common ancestors and of projections change only where the maps and the births do.
use Rattle.std.proofs.Common.{◌≡◌, ℕ, cond, nat_le, min, List, [], ◌∷◌, ◌++◌, Option, Some, None, refl, ap, ap₂, ◌∙◌}
use Rattle.region_map.specs.declared.id.Id.{Id}
use Rattle.region_map.specs.Regions.{in_region}
use Rattle.region_map.specs.Maps.{Pieced, IsCanonical, value_at}
use Rattle.region_map.specs.Made.{ends_of, cuts_of, Together, ChangesAt}
use Rattle.region_map.proofs.Made.{together_parts, region_together, values_together, made_is}
use Rattle.branch_history.specs.declared.version.Version.{Version}
use Rattle.branch_history.specs.Paths.{Branches, is_branch, zero, or_zero, origin_at, ancestor, whole, both_at}
use Rattle.branch_history.specs.Equal.{same_version, version_decides}
use Rattle.branch_history.specs.AncestorMaps.{birth_cuts, ancestor_map, projected_map}

ancestor_together : (bs : Branches) (h : ℕ) (k q : List ℕ) → Together (birth_cuts bs) k q → (v w : Version) → ancestor bs h k v w ≡ ancestor bs h q v w
ancestor_together [] h k q t v w = refl
ancestor_together (b ∷ bs) h k q t v w =
    let p = together_parts (ends_of b.1.region ++ cuts_of b.1.origin.pieces) (birth_cuts bs) k q t in
    let r = together_parts (ends_of b.1.region) (cuts_of b.1.origin.pieces) k q p.0 in
    let region : in_region b.1.region h k ≡ in_region b.1.region h q = region_together b.1.region h k q r.0 in
    let origin : origin_at b.1 h k ≡ origin_at b.1 h q = ap or_zero (values_together b.1.origin.pieces h k q r.1) in
    let low : Version = record { branch = Some b.0; timestamp = min v.timestamp w.timestamp } in
    λ i. cond (is_branch v b.0)
    (cond (region i)
    (cond (is_branch w b.0)
    (cond (nat_le b.1.initial (min v.timestamp w.timestamp)) low (ancestor_together bs h k q p.1 (origin i) (origin i) i))
    (ancestor_together bs h k q p.1 (origin i) w i))
    zero)
    (cond (is_branch w b.0) (cond (region i) (ancestor_together bs h k q p.1 v (origin i) i) zero) (ancestor_together bs h k q p.1 v w i))

both_together : {V W X : Type 0} (f g : V → W → X) → ((v : V) (w : W) → f v w ≡ g v w) → (a : Option V) (b : Option W) → both_at f a b ≡ both_at g a b
both_together f g e None b = refl
both_together f g e (Some v) None = refl
both_together f g e (Some v) (Some w) = ap Some (e v w)

module _ (bs : Branches) where
  ancestor_changes : (a b : Pieced Version) → ChangesAt (birth_cuts bs ++ cuts_of a.pieces ++ cuts_of b.pieces) (λ h k. both_at (ancestor bs h k) (value_at a.pieces h k) (value_at b.pieces h k))
  ancestor_changes a b h k q t =
      let p = together_parts (birth_cuts bs ++ cuts_of a.pieces) (cuts_of b.pieces) k q t in
      let r = together_parts (birth_cuts bs) (cuts_of a.pieces) k q p.0 in
      both_together (ancestor bs h k) (ancestor bs h q) (ancestor_together bs h k q r.0) (value_at a.pieces h k) (value_at b.pieces h k)
      ∙ ap₂ (both_at (ancestor bs h q)) (values_together a.pieces h k q r.1) (values_together b.pieces h k q p.1)

  projected_changes : (a : Pieced Version) (b : Pieced Id)
      → ChangesAt (birth_cuts bs ++ cuts_of a.pieces ++ cuts_of b.pieces) (λ h k. both_at (λ v id. ancestor bs h k v (whole id)) (value_at a.pieces h k) (value_at b.pieces h k))
  projected_changes a b h k q t =
      let p = together_parts (birth_cuts bs ++ cuts_of a.pieces) (cuts_of b.pieces) k q t in
      let r = together_parts (birth_cuts bs) (cuts_of a.pieces) k q p.0 in
      both_together (λ v id. ancestor bs h k v (whole id)) (λ v id. ancestor bs h q v (whole id)) (λ v id. ancestor_together bs h k q r.0 v (whole id)) (value_at a.pieces h k) (value_at b.pieces h k)
      ∙ ap₂ (both_at (λ v id. ancestor bs h q v (whole id))) (values_together a.pieces h k q r.1) (values_together b.pieces h k q p.1)

  pub ancestor_map_is : (a b r : Pieced Version) → IsCanonical r → r.hashes ≡ a.hashes
      → ((h : ℕ) (k : List ℕ) → value_at r.pieces h k ≡ both_at (ancestor bs h k) (value_at a.pieces h k) (value_at b.pieces h k)) → r ≡ ancestor_map bs a b
  ancestor_map_is a b r c e at =
      made_is same_version version_decides a.hashes (birth_cuts bs ++ cuts_of a.pieces ++ cuts_of b.pieces) (λ h k. both_at (ancestor bs h k) (value_at a.pieces h k) (value_at b.pieces h k))
      (ancestor_changes a b) r c e (λ h k _. at h k)

  pub projected_map_is : (a : Pieced Version) (b : Pieced Id) (r : Pieced Version) → IsCanonical r → r.hashes ≡ a.hashes
      → ((h : ℕ) (k : List ℕ) → value_at r.pieces h k ≡ both_at (λ v id. ancestor bs h k v (whole id)) (value_at a.pieces h k) (value_at b.pieces h k)) → r ≡ projected_map bs a b
  projected_map_is a b r c e at =
      made_is same_version version_decides a.hashes (birth_cuts bs ++ cuts_of a.pieces ++ cuts_of b.pieces)
      (λ h k. both_at (λ v id. ancestor bs h k v (whole id)) (value_at a.pieces h k) (value_at b.pieces h k)) (projected_changes a b) r c e (λ h k _. at h k)
