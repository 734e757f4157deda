-- Timestamps along a path.
use Rattle.std.proofs.Common.{◌≡◌, ℕ, ◌≤◌, ◌<◌, ◌⊎◌, ◌↔◌, true, cond, ◌&&◌, nat_le, List, [], ◌∷◌, Some, inl, inr, sym, ap, ◌∙◌, subst, arith}
use Rattle.std.proofs.lemmas.Bool.{cases_Bool, both_ways, and_parts, leb-true, cases_lt}
use Rattle.region_map.specs.declared.id.Id.{Id}
use Rattle.region_map.specs.Regions.{in_region}
use Rattle.region_map.specs.Equal.{same_id}
use Rattle.branch_history.specs.declared.version.Version.{Version}
use Rattle.branch_history.specs.declared.history.BranchBirth.{BranchBirth}
use Rattle.branch_history.specs.Paths.{Branches, is_branch, is_zero, origin_at, is_on}
use Rattle.branch_history.specs.Histories.{birth_of, IsHistory, IsInTime, StartsInTime}
use Rattle.branch_history.proofs.PathLaws.{Other, Own, Older, Outside, part, lower, version_same, of_branch, zero_is, on_zero, on_self, on_antisym, on_forward, path_stays}
use Rattle.branch_history.proofs.Births.{first_birth, later_birth, inside_birth, outside_birth, birth_known, origin_known}

zero_least : (x : Version) (t : ℕ) → is_zero x ≡ true → x.timestamp ≤ t
zero_least x t e = let z : x.timestamp ≡ 0 = ap (λ (y : Version). y.timestamp) (zero_is x e) in omega arith

-- where no branch starts before its origin, no point of a path is before a point below it
pub times_fall : (bs : Branches) (h : ℕ) (k : List ℕ) (v x y : Version) → IsHistory bs → IsInTime bs h k → is_on bs h k v x ≡ true → is_on bs h k x y ≡ true → y.timestamp ≤ x.timestamp
times_fall [] h k v x y i s e d = zero_least y x.timestamp d
times_fall (b ∷ bs) h k v x y i s e d =
    let o = origin_at b.1 h k in
    elim (part b bs h k v x e) [
      | Other f p ↦ times_fall bs h k v x y i.3 s.1 p (lower b bs h k v x y i p d)
      | Own t r p low high ↦ elim (part b bs h k x y d) [
        | Other f q ↦ absurd (both_ways _ f p)
        | Own _ _ q lo up ↦ up
        | Older _ _ q ↦
            let starts = s.0 r in
            let below = times_fall bs h k o o y i.3 s.1 starts.on q in
            let before = starts.before in
            omega arith
        | Outside _ n q ↦ absurd (both_ways _ n r)
      ]
      | Older t r p ↦ times_fall bs h k o x y i.3 s.1 p (lower b bs h k o x y i p d)
      | Outside t r z ↦ zero_least y x.timestamp (sym (on_zero (b ∷ bs) h k y) ∙ subst (λ (u : Version). is_on (b ∷ bs) h k u y ≡ true) (zero_is x z) d)
    ]

-- how a known branch starts, in the whole history
starts : (bs : Branches) (h : ℕ) (k : List ℕ) (id : Id) (birth : BranchBirth) → IsHistory bs → IsInTime bs h k → birth_of bs id ≡ Some birth → in_region birth.region h k ≡ true → StartsInTime bs h k birth
starts [] h k id birth i s e r = absurd (cc)
starts (b ∷ bs) h k id birth i s e r =
    elim (cases_Bool (same_id b.0 id)) [
      | inl t ↦
          let same = first_birth b bs id birth e t in
          more birth
          (subst (λ (y : BranchBirth). StartsInTime bs h k y) same (s.0 (subst (λ (y : BranchBirth). in_region y.region h k ≡ true) (sym same) r)))
          (subst (λ (y : BranchBirth). is_on (b ∷ bs) h k (origin_at y h k) (origin_at y h k) ≡ is_on bs h k (origin_at y h k) (origin_at y h k)) same
          (path_stays b bs h k (origin_at b.1 h k) (origin_at b.1 h k) i (origin_known bs b.1.origin.pieces h k i.1)))
      | inr f ↦
          let there = later_birth b bs id birth e f in
          more birth (starts bs h k id birth i.3 s.1 there r) (path_stays b bs h k (origin_at birth h k) (origin_at birth h k) i (birth_known bs h k id birth i.3 there))
    ]
  where
    more : (y : BranchBirth) → StartsInTime bs h k y → is_on (b ∷ bs) h k (origin_at y h k) (origin_at y h k) ≡ is_on bs h k (origin_at y h k) (origin_at y h k) → StartsInTime (b ∷ bs) h k y
    more y p e = record { on = e ∙ p.on; before = p.before }

-- behind the initial timestamp of a branch they fall at each point
pub times_fall_within : (bs : Branches) (h : ℕ) (k : List ℕ) (id : Id) (birth : BranchBirth) (x y : Version) → IsHistory bs → IsInTime bs h k → birth_of bs id ≡ Some birth → x.branch ≡ Some id
    → birth.initial < x.timestamp → is_on bs h k x y ≡ true → (y ≡ x) ⊎ (y.timestamp < x.timestamp)
times_fall_within bs h k id birth x y i s e o l d =
    let z = origin_at birth h k in
    let own = is_branch y id && (nat_le birth.initial y.timestamp && nat_le y.timestamp x.timestamp) in
    elim (cases_Bool (in_region birth.region h k)) [
      | inl r ↦ elim (cases_Bool own) [
        | inl t ↦
            let p = and_parts _ _ t in
            let q = and_parts _ _ p.1 in
            let up = leb-true y.timestamp x.timestamp q.1 in
            elim (cases_lt y.timestamp x.timestamp) [
              | inl lt ↦ inr lt
              | inr ge ↦ inl (version_same y x (of_branch y.branch id p.0 ∙ sym o) (omega arith))
            ]
        | inr f ↦
            let down = sym (ap (λ c. cond c true (is_on bs h k z y)) f) ∙ sym (inside_birth bs h k id birth x y i e o r) ∙ d in
            let from = starts bs h k id birth i s e r in
            let below = times_fall bs h k z z y i s from.on down in
            let before = from.before in
            inr (omega arith)
      ]
      | inr n ↦
          let t : y.timestamp ≤ 0 = zero_least y 0 (sym (outside_birth bs h k id birth x y e o n) ∙ d) in
          inr (omega arith)
    ]

-- ---- points of one branch

pub times_tell : (bs : Branches) (h : ℕ) (k : List ℕ) (v x y : Version) → IsHistory bs → is_on bs h k v x ≡ true → is_on bs h k v y ≡ true → x.branch ≡ y.branch
    → (is_on bs h k y x ≡ true) ↔ (x.timestamp ≤ y.timestamp)
times_tell bs h k v x y i e d o = (down, up)
  where
    up : x.timestamp ≤ y.timestamp → is_on bs h k y x ≡ true
    up l = on_forward bs h k x y x o l (on_self bs h k v x i e)

    down : is_on bs h k y x ≡ true → x.timestamp ≤ y.timestamp
    down p =
        elim (cases_lt y.timestamp x.timestamp) [
          | inr ge ↦ ge
          | inl lt ↦
              let back = on_forward bs h k y x y (sym o) (omega arith) (on_self bs h k v y i d) in
              let same : x.timestamp ≡ y.timestamp = ap (λ (u : Version). u.timestamp) (on_antisym bs h k x y i back p) in
              omega arith
        ]
