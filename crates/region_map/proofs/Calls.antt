-- What the calls of a region map give at each pair.
use Rattle.std.proofs.Common.{◌≡◌, ℕ, ◌<◌, ◌≤◌, Bool, true, false, cond, ◌&&◌, nat_lt, List, [], ◌∷◌, ◌++◌, Option, Some, None, inl, inr, refl, sym, ap, ◌∙◌}
use Rattle.std.specs.Option.{is_some}
use Rattle.std.proofs.lemmas.Bool.{cases_lt, lt-ltb}
use Rattle.region_map.specs.declared.region.Region.{Region}
use Rattle.region_map.specs.Regions.{in_region}
use Rattle.region_map.specs.Maps.{Pieced, IsCanonical, value_at}
use Rattle.region_map.specs.Calls.{masked, overlaid, paired}
use Rattle.region_map.proofs.Bands.{none_beyond}

pub push_first : {A : Type 0} (old new : List A) (x : A) → new ≡ old ++ x ∷ [] → old ≡ [] → new ≡ x ∷ []
push_first old new x e n = e ∙ ap (λ y. y ++ x ∷ []) n

-- a constant map on a part, at a hash that the map has
constant_at : {W : Type 0} (o : Pieced W) (w : W) (part copy : Region) (n m h : ℕ) (k : List ℕ) → n ≡ m → copy ≡ part → h < m
    → value_at o.pieces h k ≡ cond (nat_lt h n && in_region copy h k) (Some w) None → value_at o.pieces h k ≡ cond (in_region part h k) (Some w) None
constant_at o w part copy n m h k en ec lt e =
    e ∙ ap (λ x. cond (nat_lt h x && in_region copy h k) (Some w) None) en
    ∙ ap (λ x. cond (x && in_region copy h k) (Some w) None) (lt-ltb h m lt)
    ∙ ap (λ x. cond (in_region x h k) (Some w) None) ec

module _ {V : Type 0} where
  masked_by : (a : Option V) (b : Bool) → masked a (cond b (Some true) None) ≡ cond b a None
  masked_by a true = refl
  masked_by a false = refl

  masked_nothing : (x : Option V) (b : Bool) → x ≡ None → x ≡ cond b None None
  masked_nothing x true e = e
  masked_nothing x false e = e

  overlaid_by : (a : Option V) (v : V) (b : Bool) → overlaid a (cond b (Some v) None) ≡ cond (b && is_some a) (Some v) a
  overlaid_by None v true = refl
  overlaid_by None v false = refl
  overlaid_by (Some a) v true = refl
  overlaid_by (Some a) v false = refl

  pub mask_at : (m r : Pieced V) (o : Pieced Bool) (part copy : Region) (n h : ℕ) (k : List ℕ) → IsCanonical m → n ≡ m.hashes → copy ≡ part
      → value_at o.pieces h k ≡ cond (nat_lt h n && in_region copy h k) (Some true) None
      → (h < m.hashes → value_at r.pieces h k ≡ masked (value_at m.pieces h k) (value_at o.pieces h k)) → (m.hashes ≤ h → value_at r.pieces h k ≡ None)
      → value_at r.pieces h k ≡ cond (in_region part h k) (value_at m.pieces h k) None
  mask_at m r o part copy n h k c en ec e at beyond =
      elim (cases_lt h m.hashes) [
        | inl lt ↦ at lt ∙ ap (masked (value_at m.pieces h k)) (constant_at o true part copy n m.hashes h k en ec lt e) ∙ masked_by (value_at m.pieces h k) (in_region part h k)
        | inr ge ↦ masked_nothing _ (in_region part h k) (beyond ge) ∙ ap (λ x. cond (in_region part h k) x None) (sym (none_beyond m h k c ge))
      ]

  pub set_at : (m r : Pieced V) (o : Pieced V) (v : V) (part copy : Region) (n h : ℕ) (k : List ℕ) → IsCanonical m → n ≡ m.hashes → copy ≡ part
      → value_at o.pieces h k ≡ cond (nat_lt h n && in_region copy h k) (Some v) None
      → (h < m.hashes → value_at r.pieces h k ≡ overlaid (value_at m.pieces h k) (value_at o.pieces h k)) → (m.hashes ≤ h → value_at r.pieces h k ≡ None)
      → value_at r.pieces h k ≡ cond (in_region part h k && is_some (value_at m.pieces h k)) (Some v) (value_at m.pieces h k)
  set_at m r o v part copy n h k c en ec e at beyond =
      elim (cases_lt h m.hashes) [
        | inl lt ↦ at lt ∙ ap (overlaid (value_at m.pieces h k)) (constant_at o v part copy n m.hashes h k en ec lt e) ∙ overlaid_by (value_at m.pieces h k) v (in_region part h k)
        | inr ge ↦ beyond ge ∙ overlaid_by None v (in_region part h k)
            ∙ ap (λ x. cond (in_region part h k && is_some x) (Some v) x) (sym (none_beyond m h k c ge))
      ]

  pub meet_at : {W : Type 0} (m : Pieced V) (n : Pieced W) (r : Pieced (V × W)) (h : ℕ) (k : List ℕ) → IsCanonical m
      → (h < m.hashes → value_at r.pieces h k ≡ paired (value_at m.pieces h k) (value_at n.pieces h k)) → (m.hashes ≤ h → value_at r.pieces h k ≡ None)
      → value_at r.pieces h k ≡ paired (value_at m.pieces h k) (value_at n.pieces h k)
  meet_at m n r h k c at beyond =
      elim (cases_lt h m.hashes) [
        | inl lt ↦ at lt
        | inr ge ↦ beyond ge ∙ ap (λ x. paired x (value_at n.pieces h k)) (sym (none_beyond m h k c ge))
      ]
