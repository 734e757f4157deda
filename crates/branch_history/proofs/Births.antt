-- The path of a version by the birth of its branch alone, wherever that stands in the history.
use Rattle.std.proofs.Common.{◌≡◌, ℕ, Bool, true, false, cond, ◌&&◌, nat_le, List, [], ◌∷◌, Option, Some, None, inl, inr, refl, sym, ap, ◌∙◌, subst}
use Rattle.std.proofs.lemmas.Bool.{cases_Bool, both_ways, and_parts}
use Rattle.region_map.specs.declared.id.Id.{Id}
use Rattle.region_map.specs.declared.region.Region.{Region}
use Rattle.region_map.specs.Regions.{in_region}
use Rattle.region_map.specs.Maps.{value_at}
use Rattle.region_map.specs.Equal.{same_id}
use Rattle.branch_history.specs.declared.version.Version.{Version}
use Rattle.branch_history.specs.declared.history.BranchBirth.{BranchBirth}
use Rattle.branch_history.specs.Paths.{Branches, branch_is, is_branch, is_zero, or_zero, origin_at, is_on}
use Rattle.branch_history.specs.Histories.{knows_branch, knows_origins, birth_of, IsHistory}
use Rattle.branch_history.proofs.PathLaws.{id_same, id_self, other_is, inside_is, outside_is, knows_more, knows_own, path_stays}

-- ---- versions without a known branch

none_not : (o : Option Id) (id : Id) → o ≡ None → branch_is o id ≡ false
none_not o id e = ap (λ x. branch_is x id) e

pub none_on : (bs : Branches) (h : ℕ) (k : List ℕ) (v x : Version) → v.branch ≡ None → is_on bs h k v x ≡ is_zero x
none_on [] h k v x e = refl
none_on (b ∷ bs) h k v x e = other_is b bs h k v x (none_not v.branch b.0 e) ∙ none_on bs h k v x e

knows_less : (b : Id × BranchBirth) (bs : Branches) (o : Option Id) → knows_branch (b ∷ bs) o ≡ false → knows_branch bs o ≡ false
knows_less b bs o e =
    elim (cases_Bool (knows_branch bs o)) [
      | inl t ↦ absurd (both_ways _ e (knows_more b bs o t))
      | inr f ↦ f
    ]

pub unknown_on : (bs : Branches) (h : ℕ) (k : List ℕ) (v x : Version) → knows_branch bs v.branch ≡ false → is_on bs h k v x ≡ is_zero x
unknown_on [] h k v x e = refl
unknown_on (b ∷ bs) h k v x e =
    elim (cases_Bool (is_branch v b.0)) [
      | inl t ↦ absurd (both_ways _ e (knows_own b bs v.branch t))
      | inr f ↦ other_is b bs h k v x f ∙ unknown_on bs h k v x (knows_less b bs v.branch e)
    ]

-- ---- where the origins are known

pub origin_known : (bs : Branches) (ps : List (Region × Version)) (h : ℕ) (k : List ℕ) → knows_origins bs ps ≡ true → knows_branch bs (or_zero (value_at ps h k)).branch ≡ true
origin_known bs [] h k e = refl
origin_known bs (p ∷ ps) h k e =
    let parts = and_parts _ _ e in
    elim (in_region p.0 h k) as (λ c. knows_branch bs (or_zero (cond c (Some p.1) (value_at ps h k))).branch ≡ true) [
      | true ↦ parts.0
      | false ↦ origin_known bs ps h k parts.1
    ]

-- ---- where a birth stands

pub id_back : (a b : Id) → same_id a b ≡ true → same_id b a ≡ true
id_back a b e = subst (λ x. same_id x a ≡ true) (id_same a b e) (id_self a)

some_same : (a b : BranchBirth) → Some a ≡ Some b → a ≡ b
some_same a b e = cc

module _ (b : Id × BranchBirth) (bs : Branches) (id : Id) (birth : BranchBirth) (e : birth_of (b ∷ bs) id ≡ Some birth) where
  pub first_birth : same_id b.0 id ≡ true → b.1 ≡ birth
  first_birth t = some_same b.1 birth (sym (ap (λ c. cond c (Some b.1) (birth_of bs id)) t) ∙ e)

  pub later_birth : same_id b.0 id ≡ false → birth_of bs id ≡ Some birth
  later_birth f = sym (ap (λ c. cond c (Some b.1) (birth_of bs id)) f) ∙ e

  first_of : (v : Version) → v.branch ≡ Some id → same_id b.0 id ≡ true → is_branch v b.0 ≡ true
  first_of v o t = ap (λ x. branch_is x b.0) o ∙ id_back b.0 id t

  later_of : (v : Version) → v.branch ≡ Some id → same_id b.0 id ≡ false → is_branch v b.0 ≡ false
  later_of v o f =
      elim (cases_Bool (same_id id b.0)) [
        | inl t ↦ absurd (both_ways _ f (id_back id b.0 t))
        | inr g ↦ ap (λ x. branch_is x b.0) o ∙ g
      ]

-- the branch that a known branch starts from is known
pub birth_known : (bs : Branches) (h : ℕ) (k : List ℕ) (id : Id) (birth : BranchBirth) → IsHistory bs → birth_of bs id ≡ Some birth → knows_branch bs (origin_at birth h k).branch ≡ true
birth_known [] h k id birth i e = absurd (cc)
birth_known (b ∷ bs) h k id birth i e =
    knows_more b bs (origin_at birth h k).branch
    (elim (cases_Bool (same_id b.0 id)) [
      | inl t ↦ subst (λ y. knows_branch bs (origin_at y h k).branch ≡ true) (first_birth b bs id birth e t) (origin_known bs b.1.origin.pieces h k i.1)
      | inr f ↦ birth_known bs h k id birth i.3 (later_birth b bs id birth e f)
    ])

pub outside_birth : (bs : Branches) (h : ℕ) (k : List ℕ) (id : Id) (birth : BranchBirth) (v x : Version) → birth_of bs id ≡ Some birth → v.branch ≡ Some id → in_region birth.region h k ≡ false
    → is_on bs h k v x ≡ is_zero x
outside_birth [] h k id birth v x e o r = absurd (cc)
outside_birth (b ∷ bs) h k id birth v x e o r =
    elim (cases_Bool (same_id b.0 id)) [
      | inl t ↦ outside_is b bs h k v x (first_of b bs id birth e v o t) (subst (λ y. in_region y.region h k ≡ false) (sym (first_birth b bs id birth e t)) r)
      | inr f ↦ other_is b bs h k v x (later_of b bs id birth e v o f) ∙ outside_birth bs h k id birth v x (later_birth b bs id birth e f) o r
    ]

-- a path by the birth of the branch, the rest of it in the whole history
abbrev by_birth : Branches → ℕ → List ℕ → Id → BranchBirth → Version → Version → Bool
by_birth bs h k id birth v x =
    cond (is_branch x id && (nat_le birth.initial x.timestamp && nat_le x.timestamp v.timestamp)) true (is_on bs h k (origin_at birth h k) x)

by_birth_more : (b : Id × BranchBirth) (bs : Branches) (h : ℕ) (k : List ℕ) (id : Id) (birth : BranchBirth) (v x : Version) → IsHistory (b ∷ bs) → knows_branch bs (origin_at birth h k).branch ≡ true
    → by_birth bs h k id birth v x ≡ by_birth (b ∷ bs) h k id birth v x
by_birth_more b bs h k id birth v x i e =
    ap (λ y. cond (is_branch x id && (nat_le birth.initial x.timestamp && nat_le x.timestamp v.timestamp)) true y) (sym (path_stays b bs h k (origin_at birth h k) x i e))

by_first : (b : Id × BranchBirth) (bs : Branches) (h : ℕ) (k : List ℕ) (v x : Version) → IsHistory (b ∷ bs) → is_branch v b.0 ≡ true → in_region b.1.region h k ≡ true
    → is_on (b ∷ bs) h k v x ≡ by_birth (b ∷ bs) h k b.0 b.1 v x
by_first b bs h k v x i t r = inside_is b bs h k v x t r ∙ by_birth_more b bs h k b.0 b.1 v x i (origin_known bs b.1.origin.pieces h k i.1)

pub inside_birth : (bs : Branches) (h : ℕ) (k : List ℕ) (id : Id) (birth : BranchBirth) (v x : Version) → IsHistory bs → birth_of bs id ≡ Some birth → v.branch ≡ Some id → in_region birth.region h k ≡ true
    → is_on bs h k v x ≡ by_birth bs h k id birth v x
inside_birth [] h k id birth v x i e o r = absurd (cc)
inside_birth (b ∷ bs) h k id birth v x i e o r =
    elim (cases_Bool (same_id b.0 id)) [
      | inl t ↦
          let same = first_birth b bs id birth e t in
          subst (λ (n : Id). is_on (b ∷ bs) h k v x ≡ by_birth (b ∷ bs) h k n birth v x) (id_same b.0 id t)
          (subst (λ (y : BranchBirth). is_on (b ∷ bs) h k v x ≡ by_birth (b ∷ bs) h k b.0 y v x) same
          (by_first b bs h k v x i (first_of b bs id birth e v o t) (subst (λ (y : BranchBirth). in_region y.region h k ≡ true) (sym same) r)))
      | inr f ↦
          let there = later_birth b bs id birth e f in
          other_is b bs h k v x (later_of b bs id birth e v o f)
          ∙ inside_birth bs h k id birth v x i.3 there o r
          ∙ by_birth_more b bs h k id birth v x i (birth_known bs h k id birth i.3 there)
    ]
