-- Laws of paths.
use Rattle.std.proofs.Common.{◌≡◌, ℕ, ◌≤◌, ◌⊎◌, Bool, true, false, cond, ◌&&◌, nat_le, List, [], ◌∷◌, Option, Some, None, inl, inr, refl, sym, ap, ◌∙◌, subst, arith}
use Rattle.std.proofs.lemmas.Bool.{cases_Bool, both_ways, and_parts, and_from, eqb-true, leb-true, le-leb, cases_lt}
use Rattle.region_map.specs.declared.id.Id.{Id}
use Rattle.region_map.specs.Regions.{in_region}
use Rattle.region_map.specs.Equal.{same_id, id_decides}
use Rattle.branch_history.specs.declared.version.Version.{Version}
use Rattle.branch_history.specs.declared.history.BranchBirth.{BranchBirth}
use Rattle.branch_history.specs.Paths.{Branches, branch_is, is_branch, no_branch, is_zero, zero, origin_at, is_on}
use Rattle.branch_history.specs.Histories.{knows, knows_branch, IsHistory}

-- ---- ids and the zero version

pub id_same : (a b : Id) → same_id a b ≡ true → a ≡ b
id_same a b = (id_decides a b).0

pub id_self : (a : Id) → same_id a a ≡ true
id_self a = (id_decides a a).1 refl

pub of_branch : (o : Option Id) (id : Id) → branch_is o id ≡ true → o ≡ Some id
of_branch None id e = absurd (cc)
of_branch (Some b) id e = ap Some (id_same b id e)

none_is : (o : Option Id) → no_branch o ≡ true → o ≡ None
none_is None e = refl
none_is (Some b) e = absurd (cc)

pub version_same : (v w : Version) → v.branch ≡ w.branch → v.timestamp ≡ w.timestamp → v ≡ w
version_same v w e d = λ i. record { branch = e i; timestamp = d i }

pub zero_is : (x : Version) → is_zero x ≡ true → x ≡ zero
zero_is x e = let p = and_parts _ _ e in version_same x zero (none_is x.branch p.0) (eqb-true x.timestamp 0 p.1)

-- ---- one branch of a path

abbrev pub own : Id × BranchBirth → Version → Version → Bool
own b v x = is_branch x b.0 && (nat_le b.1.initial x.timestamp && nat_le x.timestamp v.timestamp)

pub data Part (b : Id × BranchBirth) (bs : Branches) (h : ℕ) (k : List ℕ) (v x : Version) : Type 0 where
  Other : is_branch v b.0 ≡ false → is_on bs h k v x ≡ true → Part b bs h k v x
  Own : is_branch v b.0 ≡ true → in_region b.1.region h k ≡ true → is_branch x b.0 ≡ true → b.1.initial ≤ x.timestamp → x.timestamp ≤ v.timestamp → Part b bs h k v x
  Older : is_branch v b.0 ≡ true → in_region b.1.region h k ≡ true → is_on bs h k (origin_at b.1 h k) x ≡ true → Part b bs h k v x
  Outside : is_branch v b.0 ≡ true → in_region b.1.region h k ≡ false → is_zero x ≡ true → Part b bs h k v x

module _ (b : Id × BranchBirth) (bs : Branches) (h : ℕ) (k : List ℕ) where
  pub other_is : (v x : Version) → is_branch v b.0 ≡ false → is_on (b ∷ bs) h k v x ≡ is_on bs h k v x
  other_is v x f = ap (λ c. cond c (cond (in_region b.1.region h k) (cond (own b v x) true (is_on bs h k (origin_at b.1 h k) x)) (is_zero x)) (is_on bs h k v x)) f

  pub inside_is : (v x : Version) → is_branch v b.0 ≡ true → in_region b.1.region h k ≡ true → is_on (b ∷ bs) h k v x ≡ cond (own b v x) true (is_on bs h k (origin_at b.1 h k) x)
  inside_is v x t i =
      ap (λ c. cond c (cond (in_region b.1.region h k) (cond (own b v x) true (is_on bs h k (origin_at b.1 h k) x)) (is_zero x)) (is_on bs h k v x)) t
      ∙ ap (λ c. cond c (cond (own b v x) true (is_on bs h k (origin_at b.1 h k) x)) (is_zero x)) i

  pub outside_is : (v x : Version) → is_branch v b.0 ≡ true → in_region b.1.region h k ≡ false → is_on (b ∷ bs) h k v x ≡ is_zero x
  outside_is v x t i =
      ap (λ c. cond c (cond (in_region b.1.region h k) (cond (own b v x) true (is_on bs h k (origin_at b.1 h k) x)) (is_zero x)) (is_on bs h k v x)) t
      ∙ ap (λ c. cond c (cond (own b v x) true (is_on bs h k (origin_at b.1 h k) x)) (is_zero x)) i

  pub own_on : (v x : Version) → is_branch v b.0 ≡ true → in_region b.1.region h k ≡ true → is_branch x b.0 ≡ true → b.1.initial ≤ x.timestamp → x.timestamp ≤ v.timestamp → is_on (b ∷ bs) h k v x ≡ true
  own_on v x t i o lo up =
      let e : own b v x ≡ true = and_from _ _ o (and_from _ _ (le-leb b.1.initial x.timestamp lo) (le-leb x.timestamp v.timestamp up)) in
      inside_is v x t i ∙ ap (λ c. cond c true (is_on bs h k (origin_at b.1 h k) x)) e

  pub older_on : (v x : Version) → is_branch v b.0 ≡ true → in_region b.1.region h k ≡ true → is_on bs h k (origin_at b.1 h k) x ≡ true → is_on (b ∷ bs) h k v x ≡ true
  older_on v x t i o = inside_is v x t i ∙ elim (own b v x) as (λ c. cond c true (is_on bs h k (origin_at b.1 h k) x) ≡ true) [ true ↦ refl | false ↦ o ]

  pub part : (v x : Version) → is_on (b ∷ bs) h k v x ≡ true → Part b bs h k v x
  part v x e =
      elim (cases_Bool (is_branch v b.0)) [
        | inr f ↦ Other f (sym (other_is v x f) ∙ e)
        | inl t ↦ elim (cases_Bool (in_region b.1.region h k)) [
          | inr o ↦ Outside t o (sym (outside_is v x t o) ∙ e)
          | inl i ↦ elim (cases_Bool (own b v x)) [
            | inl w ↦ let p = and_parts _ _ w in let q = and_parts _ _ p.1 in Own t i p.0 (leb-true b.1.initial x.timestamp q.0) (leb-true x.timestamp v.timestamp q.1)
            | inr n ↦ Older t i (sym (ap (λ c. cond c true (is_on bs h k (origin_at b.1 h k) x)) n) ∙ sym (inside_is v x t i) ∙ e)
          ]
        ]
      ]

-- ---- the zero version, and what a path knows

pub zero_on : (bs : Branches) (h : ℕ) (k : List ℕ) (v : Version) → is_on bs h k v zero ≡ true
zero_on [] h k v = refl
zero_on (b ∷ bs) h k v =
    elim (cases_Bool (is_branch v b.0)) [
      | inr f ↦ other_is b bs h k v zero f ∙ zero_on bs h k v
      | inl t ↦ elim (cases_Bool (in_region b.1.region h k)) [
        | inr o ↦ outside_is b bs h k v zero t o
        | inl i ↦ older_on b bs h k v zero t i (zero_on bs h k (origin_at b.1 h k))
      ]
    ]

pub on_zero : (bs : Branches) (h : ℕ) (k : List ℕ) (x : Version) → is_on bs h k zero x ≡ is_zero x
on_zero [] h k x = refl
on_zero (b ∷ bs) h k x = on_zero bs h k x

pub knows_more : (b : Id × BranchBirth) (bs : Branches) (o : Option Id) → knows_branch bs o ≡ true → knows_branch (b ∷ bs) o ≡ true
knows_more b bs None e = refl
knows_more b bs (Some id) e = elim (same_id b.0 id) as (λ c. cond c true (knows bs id) ≡ true) [ true ↦ refl | false ↦ e ]

pub knows_own : (b : Id × BranchBirth) (bs : Branches) (o : Option Id) → branch_is o b.0 ≡ true → knows_branch (b ∷ bs) o ≡ true
knows_own b bs o e = subst (λ x. knows_branch (b ∷ bs) x ≡ true) (sym (of_branch o b.0 e)) (ap (λ c. cond c true (knows bs b.0)) (id_self b.0))

pub known_on : (bs : Branches) (h : ℕ) (k : List ℕ) (v x : Version) → is_on bs h k v x ≡ true → knows_branch bs x.branch ≡ true
known_on [] h k v x e = subst (λ o. knows_branch [] o ≡ true) (sym (none_is x.branch (and_parts _ _ e).0)) refl
known_on (b ∷ bs) h k v x e =
    elim (part b bs h k v x e) [
      | Other f o ↦ knows_more b bs x.branch (known_on bs h k v x o)
      | Own t i o lo up ↦ knows_own b bs x.branch o
      | Older t i o ↦ knows_more b bs x.branch (known_on bs h k (origin_at b.1 h k) x o)
      | Outside t o z ↦ subst (λ y. knows_branch (b ∷ bs) y ≡ true) (sym (none_is x.branch (and_parts _ _ z).0)) refl
    ]

-- a version of an older branch is not of a new one
pub not_new : (b : Id × BranchBirth) (bs : Branches) (o : Option Id) → knows bs b.0 ≡ false → knows_branch bs o ≡ true → branch_is o b.0 ≡ false
not_new b bs o n e =
    elim (cases_Bool (branch_is o b.0)) [
      | inl t ↦ absurd (both_ways _ n (subst (λ x. knows_branch bs x ≡ true) (of_branch o b.0 t) e))
      | inr f ↦ f
    ]

pub older_not_new : (b : Id × BranchBirth) (bs : Branches) (h : ℕ) (k : List ℕ) (v x : Version) → IsHistory (b ∷ bs) → is_on bs h k v x ≡ true → is_branch x b.0 ≡ false
older_not_new b bs h k v x i e = not_new b bs x.branch i.0 (known_on bs h k v x e)

pub path_stays : (b : Id × BranchBirth) (bs : Branches) (h : ℕ) (k : List ℕ) (v x : Version) → IsHistory (b ∷ bs) → knows_branch bs v.branch ≡ true → is_on (b ∷ bs) h k v x ≡ is_on bs h k v x
path_stays b bs h k v x i e = other_is b bs h k v x (not_new b bs v.branch i.0 e)

-- on an older path the new branch does not matter
pub lower : (b : Id × BranchBirth) (bs : Branches) (h : ℕ) (k : List ℕ) (v x y : Version) → IsHistory (b ∷ bs) → is_on bs h k v x ≡ true → is_on (b ∷ bs) h k x y ≡ true → is_on bs h k x y ≡ true
lower b bs h k v x y i o e = sym (other_is b bs h k x y (older_not_new b bs h k v x i o)) ∙ e

pub raise : (b : Id × BranchBirth) (bs : Branches) (h : ℕ) (k : List ℕ) (v x y : Version) → IsHistory (b ∷ bs) → is_on bs h k v x ≡ true → is_on bs h k x y ≡ true → is_on (b ∷ bs) h k x y ≡ true
raise b bs h k v x y i o e = other_is b bs h k x y (older_not_new b bs h k v x i o) ∙ e

-- ---- order

pub on_self : (bs : Branches) (h : ℕ) (k : List ℕ) (v x : Version) → IsHistory bs → is_on bs h k v x ≡ true → is_on bs h k x x ≡ true
on_self [] h k v x i e = e
on_self (b ∷ bs) h k v x i e =
    elim (part b bs h k v x e) [
      | Other f o ↦ raise b bs h k v x x i o (on_self bs h k v x i.3 o)
      | Own t r o lo up ↦ own_on b bs h k x x o r o lo (omega arith)
      | Older t r o ↦ raise b bs h k (origin_at b.1 h k) x x i o (on_self bs h k (origin_at b.1 h k) x i.3 o)
      | Outside t o z ↦ subst (λ y. is_on (b ∷ bs) h k y y ≡ true) (sym (zero_is x z)) (zero_on (b ∷ bs) h k zero)
    ]

pub on_trans : (bs : Branches) (h : ℕ) (k : List ℕ) (v x y : Version) → IsHistory bs → is_on bs h k v x ≡ true → is_on bs h k x y ≡ true → is_on bs h k v y ≡ true
on_trans [] h k v x y i e d = d
on_trans (b ∷ bs) h k v x y i e d =
    elim (part b bs h k v x e) [
      | Other f o ↦ other_is b bs h k v y f ∙ on_trans bs h k v x y i.3 o (lower b bs h k v x y i o d)
      | Own t r o lo up ↦ elim (part b bs h k x y d) [
        | Other f p ↦ absurd (both_ways _ f o)
        | Own u s p low high ↦ own_on b bs h k v y t r p low (omega arith)
        | Older u s p ↦ older_on b bs h k v y t r p
        | Outside u s p ↦ absurd (both_ways _ s r)
      ]
      | Older t r o ↦ older_on b bs h k v y t r (on_trans bs h k (origin_at b.1 h k) x y i.3 o (lower b bs h k (origin_at b.1 h k) x y i o d))
      | Outside t o z ↦ outside_is b bs h k v y t o ∙ sym (on_zero (b ∷ bs) h k y) ∙ subst (λ u. is_on (b ∷ bs) h k u y ≡ true) (zero_is x z) d
    ]

pub on_linear : (bs : Branches) (h : ℕ) (k : List ℕ) (v x y : Version) → IsHistory bs → is_on bs h k v x ≡ true → is_on bs h k v y ≡ true → (is_on bs h k x y ≡ true) ⊎ (is_on bs h k y x ≡ true)
on_linear [] h k v x y i e d = inl d
on_linear (b ∷ bs) h k v x y i e d =
    elim (part b bs h k v x e) [
      | Other f o ↦ elim (part b bs h k v y d) [
        | Other g p ↦ elim (on_linear bs h k v x y i.3 o p) [ inl a ↦ inl (raise b bs h k v x y i o a) | inr a ↦ inr (raise b bs h k v y x i p a) ]
        | Own u s p low high ↦ absurd (both_ways _ f u)
        | Older u s p ↦ absurd (both_ways _ f u)
        | Outside u s p ↦ absurd (both_ways _ f u)
      ]
      | Own t r o lo up ↦ elim (part b bs h k v y d) [
        | Other g p ↦ absurd (both_ways _ g t)
        | Own u s p low high ↦ elim (cases_lt x.timestamp y.timestamp) [
          | inl lt ↦ inr (own_on b bs h k y x p r o lo (omega arith))
          | inr ge ↦ inl (own_on b bs h k x y o r p low ge)
        ]
        | Older u s p ↦ inl (older_on b bs h k x y o r p)
        | Outside u s p ↦ absurd (both_ways _ s r)
      ]
      | Older t r o ↦ elim (part b bs h k v y d) [
        | Other g p ↦ absurd (both_ways _ g t)
        | Own u s p low high ↦ inr (older_on b bs h k y x p s o)
        | Older u s p ↦ elim (on_linear bs h k (origin_at b.1 h k) x y i.3 o p) [
          | inl a ↦ inl (raise b bs h k (origin_at b.1 h k) x y i o a)
          | inr a ↦ inr (raise b bs h k (origin_at b.1 h k) y x i p a)
        ]
        | Outside u s p ↦ absurd (both_ways _ s r)
      ]
      | Outside t o z ↦ inr (subst (λ u. is_on (b ∷ bs) h k y u ≡ true) (sym (zero_is x z)) (zero_on (b ∷ bs) h k y))
    ]

pub on_antisym : (bs : Branches) (h : ℕ) (k : List ℕ) (x y : Version) → IsHistory bs → is_on bs h k x y ≡ true → is_on bs h k y x ≡ true → x ≡ y
on_antisym [] h k x y i e d = zero_is x d ∙ sym (zero_is y e)
on_antisym (b ∷ bs) h k x y i e d =
    elim (part b bs h k x y e) [
      | Other f o ↦ on_antisym bs h k x y i.3 o (lower b bs h k x y x i o d)
      | Own t r o lo up ↦ elim (part b bs h k y x d) [
        | Other g p ↦ absurd (both_ways _ g o)
        | Own u s p low high ↦ version_same x y (of_branch x.branch b.0 t ∙ sym (of_branch y.branch b.0 o)) (omega arith)
        | Older u s p ↦ absurd (both_ways _ (older_not_new b bs h k (origin_at b.1 h k) x i p) t)
        | Outside u s p ↦ absurd (both_ways _ s r)
      ]
      | Older t r o ↦
          let back = lower b bs h k (origin_at b.1 h k) y x i o d in
          absurd (both_ways _ (older_not_new b bs h k y x i back) t)
      | Outside t o z ↦
          let back : is_zero x ≡ true = sym (on_zero (b ∷ bs) h k x) ∙ subst (λ u. is_on (b ∷ bs) h k u x ≡ true) (zero_is y z) d in
          zero_is x back ∙ sym (zero_is y z)
    ]

-- a later version of a branch has all that an earlier one has
pub on_forward : (bs : Branches) (h : ℕ) (k : List ℕ) (v w x : Version) → v.branch ≡ w.branch → v.timestamp ≤ w.timestamp → is_on bs h k v x ≡ true → is_on bs h k w x ≡ true
on_forward [] h k v w x e l d = d
on_forward (b ∷ bs) h k v w x e l d =
    elim (part b bs h k v x d) [
      | Other f o ↦ other_is b bs h k w x (subst (λ z. branch_is z b.0 ≡ false) e f) ∙ on_forward bs h k v w x e l o
      | Own t r o lo up ↦ own_on b bs h k w x (subst (λ z. branch_is z b.0 ≡ true) e t) r o lo (omega arith)
      | Older t r o ↦ older_on b bs h k w x (subst (λ z. branch_is z b.0 ≡ true) e t) r o
      | Outside t o z ↦ outside_is b bs h k w x (subst (λ y. branch_is y b.0 ≡ true) e t) o ∙ z
    ]
