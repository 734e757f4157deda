-- The common ancestor is the last point on both paths.
use Rattle.std.proofs.Common.{◌≡◌, ℕ, ◌<◌, ◌≤◌, true, false, cond, nat_le, min, List, [], ◌∷◌, Some, refl, sym, ◌∙◌, arith}
use Rattle.std.proofs.lemmas.Bool.{both_ways, leb-true, leb-false}
use Rattle.region_map.specs.declared.id.Id.{Id}
use Rattle.region_map.specs.Regions.{in_region}
use Rattle.branch_history.specs.declared.version.Version.{Version}
use Rattle.branch_history.specs.declared.history.BranchBirth.{BranchBirth}
use Rattle.branch_history.specs.Paths.{Branches, is_branch, zero, origin_at, is_on, ancestor, whole}
use Rattle.branch_history.specs.Histories.{IsHistory}
use Rattle.branch_history.proofs.PathLaws.{Other, Own, Older, Outside, id_self, other_is, outside_is, own_on, older_on, part, zero_on, on_zero, older_not_new, raise, on_self, on_trans, on_antisym, on_forward}

-- a point on both paths, of which every point on both is on its path
pub record IsLast (bs : Branches) (h : ℕ) (k : List ℕ) (v w a : Version) : Type 0 where
  pub first : is_on bs h k v a ≡ true
  pub second : is_on bs h k w a ≡ true
  pub last : (x : Version) → is_on bs h k v x ≡ true → is_on bs h k w x ≡ true → is_on bs h k a x ≡ true

module _ (b : Id × BranchBirth) (bs : Branches) (h : ℕ) (k : List ℕ) (i : IsHistory (b ∷ bs)) where
  -- the point of both on the branch itself
  last_own : (v w : Version) → is_branch v b.0 ≡ true → is_branch w b.0 ≡ true → in_region b.1.region h k ≡ true → b.1.initial ≤ min v.timestamp w.timestamp
      → IsLast (b ∷ bs) h k v w (record { branch = Some b.0; timestamp = min v.timestamp w.timestamp })
  last_own v w t u r l =
      let low : Version = record { branch = Some b.0; timestamp = min v.timestamp w.timestamp } in
      record {
        first = own_on b bs h k v low t r (id_self b.0) l (omega arith);
        second = own_on b bs h k w low u r (id_self b.0) l (omega arith);
        last = λ x e d. elim (part b bs h k v x e) [
          | Other f o ↦ absurd (both_ways _ f t)
          | Own _ _ o lo up ↦ elim (part b bs h k w x d) [
            | Other f p ↦ absurd (both_ways _ f u)
            | Own _ _ p low_x up_x ↦ own_on b bs h k low x (id_self b.0) r o lo (omega arith)
            | Older _ _ p ↦ older_on b bs h k low x (id_self b.0) r p
            | Outside _ s p ↦ absurd (both_ways _ s r)
          ]
          | Older _ _ o ↦ older_on b bs h k low x (id_self b.0) r o
          | Outside _ s p ↦ absurd (both_ways _ s r)
        ];
      }

  -- both on the branch, and one below its initial timestamp
  last_origin : (v w a : Version) → is_branch v b.0 ≡ true → is_branch w b.0 ≡ true → in_region b.1.region h k ≡ true → min v.timestamp w.timestamp < b.1.initial
      → IsLast bs h k (origin_at b.1 h k) (origin_at b.1 h k) a → IsLast (b ∷ bs) h k v w a
  last_origin v w a t u r l s = record {
    first = older_on b bs h k v a t r s.first;
    second = older_on b bs h k w a u r s.first;
    last = λ x e d. elim (part b bs h k v x e) [
      | Other f o ↦ absurd (both_ways _ f t)
      | Own _ _ o lo up ↦ elim (part b bs h k w x d) [
        | Other f p ↦ absurd (both_ways _ f u)
        | Own _ _ p low_x up_x ↦ absurd (omega arith)
        | Older _ _ p ↦ raise b bs h k (origin_at b.1 h k) a x i s.first (s.last x p p)
        | Outside _ z p ↦ absurd (both_ways _ z r)
      ]
      | Older _ _ o ↦ raise b bs h k (origin_at b.1 h k) a x i s.first (s.last x o o)
      | Outside _ z p ↦ absurd (both_ways _ z r)
    ];
  }

  -- the first alone on the branch
  last_left : (v w a : Version) → is_branch v b.0 ≡ true → is_branch w b.0 ≡ false → in_region b.1.region h k ≡ true
      → IsLast bs h k (origin_at b.1 h k) w a → IsLast (b ∷ bs) h k v w a
  last_left v w a t f r s = record {
    first = older_on b bs h k v a t r s.first;
    second = other_is b bs h k w a f ∙ s.second;
    last = λ x e d.
        let below = sym (other_is b bs h k w x f) ∙ d in
        elim (part b bs h k v x e) [
          | Other g o ↦ absurd (both_ways _ g t)
          | Own _ _ o lo up ↦ absurd (both_ways _ (older_not_new b bs h k w x i below) o)
          | Older _ _ o ↦ raise b bs h k (origin_at b.1 h k) a x i s.first (s.last x o below)
          | Outside _ z p ↦ absurd (both_ways _ z r)
        ];
  }

  last_swap : (v w a : Version) → IsLast (b ∷ bs) h k v w a → IsLast (b ∷ bs) h k w v a
  last_swap v w a s = record { first = s.second; second = s.first; last = λ x e d. s.last x d e }

  -- one on the branch, which does not have the pair
  last_zero : (v w : Version) → is_branch v b.0 ≡ true → in_region b.1.region h k ≡ false → IsLast (b ∷ bs) h k v w zero
  last_zero v w t r = record {
    first = zero_on (b ∷ bs) h k v;
    second = zero_on (b ∷ bs) h k w;
    last = λ x e d. on_zero (b ∷ bs) h k x ∙ sym (outside_is b bs h k v x t r) ∙ e;
  }

  -- neither on the branch
  last_other : (v w a : Version) → is_branch v b.0 ≡ false → is_branch w b.0 ≡ false → IsLast bs h k v w a → IsLast (b ∷ bs) h k v w a
  last_other v w a f g s = record {
    first = other_is b bs h k v a f ∙ s.first;
    second = other_is b bs h k w a g ∙ s.second;
    last = λ x e d. raise b bs h k v a x i s.first (s.last x (sym (other_is b bs h k v x f) ∙ e) (sym (other_is b bs h k w x g) ∙ d));
  }

pub swapped : (bs : Branches) (h : ℕ) (k : List ℕ) (v w a : Version) → IsLast bs h k v w a → IsLast bs h k w v a
swapped bs h k v w a s = record { first = s.second; second = s.first; last = λ x e d. s.last x d e }

pub ancestor_last : (bs : Branches) (h : ℕ) (k : List ℕ) (v w : Version) → IsHistory bs → IsLast bs h k v w (ancestor bs h k v w)
ancestor_last [] h k v w i = record { first = refl; second = refl; last = λ x e d. e }
ancestor_last (b ∷ bs) h k v w i =
    let o = origin_at b.1 h k in
    let low : Version = record { branch = Some b.0; timestamp = min v.timestamp w.timestamp } in
    let n = nat_le b.1.initial (min v.timestamp w.timestamp) in
    elim (is_branch v b.0) as (λ p. is_branch v b.0 ≡ p → IsLast (b ∷ bs) h k v w
    (cond p (cond (in_region b.1.region h k) (cond (is_branch w b.0) (cond n low (ancestor bs h k o o)) (ancestor bs h k o w)) zero)
    (cond (is_branch w b.0) (cond (in_region b.1.region h k) (ancestor bs h k v o) zero) (ancestor bs h k v w)))) [
      | true ↦ λ t. elim (in_region b.1.region h k) as (λ r. in_region b.1.region h k ≡ r → IsLast (b ∷ bs) h k v w
          (cond r (cond (is_branch w b.0) (cond n low (ancestor bs h k o o)) (ancestor bs h k o w)) zero)) [
            | true ↦ λ r. elim (is_branch w b.0) as (λ q. is_branch w b.0 ≡ q → IsLast (b ∷ bs) h k v w (cond q (cond n low (ancestor bs h k o o)) (ancestor bs h k o w))) [
              | true ↦ λ u. elim n as (λ m. nat_le b.1.initial (min v.timestamp w.timestamp) ≡ m → IsLast (b ∷ bs) h k v w (cond m low (ancestor bs h k o o))) [
                | true ↦ λ l. last_own b bs h k i v w t u r (leb-true b.1.initial (min v.timestamp w.timestamp) l)
                | false ↦ λ l. last_origin b bs h k i v w (ancestor bs h k o o) t u r (leb-false b.1.initial (min v.timestamp w.timestamp) l) (ancestor_last bs h k o o i.3)
              ] refl
              | false ↦ λ f. last_left b bs h k i v w (ancestor bs h k o w) t f r (ancestor_last bs h k o w i.3)
            ] refl
            | false ↦ λ r. last_zero b bs h k i v w t r
          ] refl
      | false ↦ λ f. elim (is_branch w b.0) as (λ q. is_branch w b.0 ≡ q → IsLast (b ∷ bs) h k v w (cond q (cond (in_region b.1.region h k) (ancestor bs h k v o) zero) (ancestor bs h k v w))) [
        | true ↦ λ u. elim (in_region b.1.region h k) as (λ r. in_region b.1.region h k ≡ r → IsLast (b ∷ bs) h k v w (cond r (ancestor bs h k v o) zero)) [
          | true ↦ λ r. last_swap b bs h k i w v (ancestor bs h k v o) (last_left b bs h k i w v (ancestor bs h k v o) u f r (swapped bs h k v o (ancestor bs h k v o) (ancestor_last bs h k v o i.3)))
          | false ↦ λ r. last_swap b bs h k i w v zero (last_zero b bs h k i w v u r)
        ] refl
        | false ↦ λ g. last_other b bs h k i v w (ancestor bs h k v w) f g (ancestor_last bs h k v w i.3)
      ] refl
    ] refl

-- there is one such point
pub last_is : (bs : Branches) (h : ℕ) (k : List ℕ) (v w a c : Version) → IsHistory bs → IsLast bs h k v w a → IsLast bs h k v w c → a ≡ c
last_is bs h k v w a c i s t = on_antisym bs h k a c i (s.last c t.first t.second) (t.last a s.first s.second)

-- to project twice is to project once
pub projects_once : (bs : Branches) (h : ℕ) (k : List ℕ) (v w : Version) → IsHistory bs → ancestor bs h k (ancestor bs h k v w) w ≡ ancestor bs h k v w
projects_once bs h k v w i =
    let a = ancestor bs h k v w in
    let s = ancestor_last bs h k v w i in
    let t = ancestor_last bs h k a w i in
    let here = on_self bs h k v a i s.first in
    on_antisym bs h k (ancestor bs h k a w) a i (t.last a here s.second) t.first

-- what is on the path of any version of a branch is on that of the whole branch
pub on_whole : (bs : Branches) (h : ℕ) (k : List ℕ) (id : Id) (t : ℕ) (x : Version) → t < 18446744073709551616 → is_on bs h k (record { branch = Some id; timestamp = t }) x ≡ true → is_on bs h k (whole id) x ≡ true
on_whole bs h k id t x l e = on_forward bs h k (record { branch = Some id; timestamp = t }) (whole id) x refl (omega arith) e

-- ---- what follows

pub ancestor_only : (bs : Branches) (h : ℕ) (k : List ℕ) (v w a : Version) → IsHistory bs → is_on bs h k v a ≡ true → is_on bs h k w a ≡ true
    → ((x : Version) → is_on bs h k v x ≡ true → is_on bs h k w x ≡ true → is_on bs h k a x ≡ true) → a ≡ ancestor bs h k v w
ancestor_only bs h k v w a i e d all = last_is bs h k v w a (ancestor bs h k v w) i (record { first = e; second = d; last = all }) (ancestor_last bs h k v w i)

pub ancestor_swaps : (bs : Branches) (h : ℕ) (k : List ℕ) (v w : Version) → IsHistory bs → ancestor bs h k v w ≡ ancestor bs h k w v
ancestor_swaps bs h k v w i =
    last_is bs h k v w (ancestor bs h k v w) (ancestor bs h k w v) i (ancestor_last bs h k v w i) (swapped bs h k w v (ancestor bs h k w v) (ancestor_last bs h k w v i))

-- the common ancestor of a version and a point of its path is that point
pub ancestor_point : (bs : Branches) (h : ℕ) (k : List ℕ) (v x : Version) → IsHistory bs → is_on bs h k v x ≡ true → ancestor bs h k v x ≡ x
ancestor_point bs h k v x i e = sym (ancestor_only bs h k v x x i e (on_self bs h k v x i e) (λ y _ d. d))

-- what a version has on its path, every version has whose path it is on
pub ancestors_keep_order : (bs : Branches) (h : ℕ) (k : List ℕ) (v w u : Version) → IsHistory bs → is_on bs h k v w ≡ true → is_on bs h k (ancestor bs h k v u) (ancestor bs h k w u) ≡ true
ancestors_keep_order bs h k v w u i e =
    let low = ancestor_last bs h k w u i in
    (ancestor_last bs h k v u i).last (ancestor bs h k w u) (on_trans bs h k v w (ancestor bs h k w u) i e low.first) low.second

-- a point of a branch that is on the path of a version is on that of its projection
pub projection_last : (bs : Branches) (h : ℕ) (k : List ℕ) (v x : Version) (id : Id) (t : ℕ) → IsHistory bs → t < 18446744073709551616 → is_on bs h k v x ≡ true
    → is_on bs h k (record { branch = Some id; timestamp = t }) x ≡ true → is_on bs h k (ancestor bs h k v (whole id)) x ≡ true
projection_last bs h k v x id t i l e d = (ancestor_last bs h k v (whole id) i).last x e (on_whole bs h k id t x l d)
