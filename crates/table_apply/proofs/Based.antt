-- Whether a map is that of the current branches on a region, decided by its pieces.
use Rattle.std.proofs.Common.{◌≡◌, ◌==◌, ℕ, ◌<◌, ◌≤◌, Bool, true, false, cond, ◌&&◌, ◌||◌, nat_eq, nat_le, List, [], ◌∷◌, map, Option, Some, None, Bor, inl, inr, refl, sym, ap, ap₂, ◌∙◌, subst, arith}
use Rattle.std.specs.List.{AllByRecursion}
use Rattle.std.specs.Option.{is_some, option_copied}
use Rattle.std.specs.Cmp.Lexicographic.{pointwise}
use Rattle.std.proofs.lemmas.Bool.{and_parts, and_from, or_parts, or_cases, or_left, or_right, both_ways, cases_lt, eqb-true, eq-eqb, leb-true, leb-false, le-leb, false_from_ne_true}
use Rattle.region_map.specs.declared.id.Id.{Id}
use Rattle.region_map.specs.declared.region.Region.{Region}
use Rattle.region_map.specs.Regions.{in_region}
use Rattle.region_map.specs.Maps.{Pieced, Band, AreBands, IsCanonical, value_at, row_value}
use Rattle.region_map.specs.Bands.{row_at}
use Rattle.region_map.proofs.Bands.{past_band, value_at-pieces_of}
use Rattle.region_map.proofs.Same.{same_maps}
use Rattle.region_map.specs.Equal.{same_id}
use Rattle.branch_history.specs.declared.history.BranchBirth.{BranchBirth}
use Rattle.branch_history.specs.Paths.{Branches}
use Rattle.branch_history.specs.Histories.{birth_of, knows}
use Rattle.branch_history.proofs.PathLaws.{id_same, id_self}
use Rattle.contract_types.specs.Tilings.{everywhere}
use Rattle.contract_types.specs.Tables.{branch_at}
use Rattle.contract_types.proofs.Everywhere.{Below, below_of, fails_somewhere}
use Rattle.table_apply.specs.Conditions.{same_bounds, same_regions, same_branches, branch_region, itself, regions_of, branch_on, based_at, is_based_on, same_pieces}

-- ---- what is known

birth_known : (bs : Branches) (id : Id) → is_some (birth_of bs id) ≡ knows bs id
birth_known [] id = refl
birth_known (b ∷ bs) id =
    elim (same_id b.0 id) as (λ v. is_some (cond v (Some b.1) (birth_of bs id)) ≡ cond v true (knows bs id)) [ true ↦ refl | false ↦ birth_known bs id ]

copied_some : (o : Option (Bor BranchBirth)) → is_some (option_copied o) ≡ is_some o
copied_some None = refl
copied_some (Some b) = refl

pub knows_birth : (bs : Branches) (id : Id) (o : Option (Bor BranchBirth)) → option_copied o ≡ birth_of bs id → is_some o ≡ knows bs id
knows_birth bs id o e = sym (copied_some o) ∙ ap is_some e ∙ birth_known bs id

-- ---- equal by their tests

module _ {A : Type 0} (E : A → A → Bool) where
  pointwise_same : ((x y : A) → E x y ≡ true → x ≡ y) → (xs ys : List A) → pointwise E xs ys ≡ true → xs ≡ ys
  pointwise_same s [] [] e = refl
  pointwise_same s [] (y ∷ ys) e = absurd (cc)
  pointwise_same s (x ∷ xs) [] e = absurd (cc)
  pointwise_same s (x ∷ xs) (y ∷ ys) e =
      let both = and_parts (E x y) (pointwise E xs ys) e in
      ap₂ (λ a b. a ∷ b) (s x y both.0) (pointwise_same s xs ys both.1)

  pointwise_self : ((x : A) → E x x ≡ true) → (xs : List A) → pointwise E xs xs ≡ true
  pointwise_self s [] = refl
  pointwise_self s (x ∷ xs) = and_from _ _ (s x) (pointwise_self s xs)

bounds_same : (a b : Option (List ℕ)) → same_bounds a b ≡ true → a ≡ b
bounds_same None None e = refl
bounds_same None (Some b) e = absurd (cc)
bounds_same (Some a) None e = absurd (cc)
bounds_same (Some a) (Some b) e = ap Some (pointwise_same nat_eq eqb-true a b e)

bounds_self : (a : Option (List ℕ)) → same_bounds a a ≡ true
bounds_self None = refl
bounds_self (Some a) = pointwise_self nat_eq (λ x. eq-eqb x x refl) a

pub region_same : (a b : Region) → same_regions a b ≡ true → a ≡ b
region_same a b e =
    let outer = and_parts ((a.hash_from == b.hash_from) && (a.hash_to == b.hash_to)) (same_bounds a.from b.from && same_bounds a.to b.to) e in
    let hashes = and_parts (a.hash_from == b.hash_from) (a.hash_to == b.hash_to) outer.0 in
    let bounds = and_parts (same_bounds a.from b.from) (same_bounds a.to b.to) outer.1 in
    let p = eqb-true a.hash_from b.hash_from hashes.0 in
    let q = eqb-true a.hash_to b.hash_to hashes.1 in
    let r = bounds_same a.from b.from bounds.0 in
    let s = bounds_same a.to b.to bounds.1 in
    λ i. record { hash_from = p i; hash_to = q i; from = r i; to = s i }

pub region_self : (a : Region) → same_regions a a ≡ true
region_self a = and_from _ _ (and_from _ _ (eq-eqb a.hash_from a.hash_from refl) (eq-eqb a.hash_to a.hash_to refl)) (and_from _ _ (bounds_self a.from) (bounds_self a.to))

pieces_same : (a b : List (Region × Id)) → same_pieces a b ≡ true → a ≡ b
pieces_same a b e = pointwise_same (λ p q. same_regions p.0 q.0 && same_id p.1 q.1) one a b e
  where
    one : (p q : Region × Id) → (same_regions p.0 q.0 && same_id p.1 q.1) ≡ true → p ≡ q
    one p q f =
        let both = and_parts (same_regions p.0 q.0) (same_id p.1 q.1) f in
        let r = region_same p.0 q.0 both.0 in
        let d = id_same p.1 q.1 both.1 in
        λ i. (r i, d i)

pieces_self : (a : List (Region × Id)) → same_pieces a a ≡ true
pieces_self a = pointwise_self (λ p q. same_regions p.0 q.0 && same_id p.1 q.1) (λ p. and_from _ _ (region_self p.0) (id_self p.1)) a

pub branches_same : (a b : Option Id) → same_branches a b ≡ true → a ≡ b
branches_same None None e = refl
branches_same None (Some b) e = absurd (cc)
branches_same (Some a) None e = absurd (cc)
branches_same (Some a) (Some b) e = ap Some (id_same a b e)

pub branches_self : (a : Option Id) → same_branches a a ≡ true
branches_self None = refl
branches_self (Some a) = id_self a

-- ---- past the hashes of a map there is no value

no_row : {V : Type 0} (hashes : ℕ) (bs : List (Band V)) (h : ℕ) → AreBands hashes bs → hashes ≤ h → row_at bs h ≡ []
no_row hashes [] h a l = refl
no_row hashes (b ∷ bs) h a l =
    let m : b.hash_to ≤ h = let w = a.0.within in omega arith in
    ap (λ v. cond v b.row (row_at bs h)) (past_band b.hash_from b.hash_to h m) ∙ no_row hashes bs h a.2 l

no_value : {V : Type 0} (m : Pieced V) (h : ℕ) (k : List ℕ) → IsCanonical m → m.hashes ≤ h → value_at m.pieces h k ≡ None
no_value m h k c l =
    ap (λ ps. value_at ps h k) c.pieces ∙ value_at-pieces_of m.hashes c.bands h k c.are ∙ ap (λ r. row_value r k) (no_row m.hashes c.bands h c.are l)

-- ---- based on

branch_along : (bs : Branches) (h i : ℕ) (k l : List ℕ) → AllByRecursion (λ b. in_region (branch_region b) h k ≡ in_region (branch_region b) i l) bs → branch_at bs h k ≡ branch_at bs i l
branch_along [] h i k l a = refl
branch_along (b ∷ bs) h i k l a = ap₂ (λ c o. cond c (Some b.0) o) a.0 (branch_along bs h i k l a.1)

value_along : (ps : List (Region × Id)) (h i : ℕ) (k l : List ℕ) → AllByRecursion (λ r. in_region (itself r) h k ≡ in_region (itself r) i l) (map (λ p. p.0) ps) → value_at ps h k ≡ value_at ps i l
value_along [] h i k l a = refl
value_along (p ∷ ps) h i k l a = ap₂ (λ c o. cond c (Some p.1) o) a.0 (value_along ps h i k l a.1)

later_or : (hashes i h : ℕ) (s t : Bool) → i ≤ h → s ≡ t → (nat_le hashes i || s) ≡ true → (nat_le hashes h || t) ≡ true
later_or hashes i h s t l e f =
    elim (or_cases (nat_le hashes i) s f) [
      | inl a ↦ let b = leb-true hashes i a in or_left (nat_le hashes h) t (le-leb hashes h (omega arith))
      | inr a ↦ or_right (nat_le hashes h) t (sym e ∙ a)
    ]

-- where the test passes at the bounds, it passes at every pair
pub based_everywhere : (hashes : ℕ) (history : Branches) (region : Region) (pieces : List (Region × Id))
    → everywhere branch_region itself history (regions_of region pieces) (based_at hashes history region pieces) ≡ true
    → (h : ℕ) (k : List ℕ) → based_at hashes history region pieces h k ≡ true
based_everywhere hashes history region pieces e h k = from (below_of branch_region itself history (regions_of region pieces) (based_at hashes history region pieces) e h k)
  where
    from : Below branch_region itself history (regions_of region pieces) (based_at hashes history region pieces) h k → based_at hashes history region pieces h k ≡ true
    from b =
        let value : value_at pieces h k ≡ value_at pieces b.hash b.bytes = value_along pieces h b.hash k b.bytes b.second.1 in
        let branch : branch_on history region h k ≡ branch_on history region b.hash b.bytes =
        ap₂ (λ (c : Bool) (o : Option Id). cond c o None) b.second.0 (branch_along history h b.hash k b.bytes b.first) in
        later_or hashes b.hash h (same_branches (value_at pieces b.hash b.bytes) (branch_on history region b.hash b.bytes))
        (same_branches (value_at pieces h k) (branch_on history region h k)) b.later (sym (ap₂ same_branches value branch)) b.passes

-- a map is that of the current branches exactly where its pieces are those of the map that has them
pub based_decides : (here based_on : Pieced Id) (hashes : ℕ) (history : Branches) (region : Region) (b : Bool)
    → IsCanonical here → IsCanonical based_on → here.hashes ≡ hashes → based_on.hashes ≡ hashes
    → ((h : ℕ) (k : List ℕ) → h < hashes → value_at here.pieces h k ≡ branch_on history region h k)
    → b ≡ same_pieces here.pieces based_on.pieces → b ≡ is_based_on hashes history region based_on
unfolding is_based_on
based_decides here based_on hashes history region b c d e f at s =
    s ∙ by (everywhere branch_region itself history (regions_of region based_on.pieces) (based_at hashes history region based_on.pieces)) refl
    ∙ ap (λ v. v && everywhere branch_region itself history (regions_of region based_on.pieces) (based_at hashes history region based_on.pieces)) (sym (eq-eqb based_on.hashes hashes f))
  where
    same : everywhere branch_region itself history (regions_of region based_on.pieces) (based_at hashes history region based_on.pieces) ≡ true
        → (h : ℕ) (k : List ℕ) → value_at here.pieces h k ≡ value_at based_on.pieces h k
    same t h k =
        elim (cases_lt h hashes) [
          | inl l ↦ elim (or_cases (nat_le hashes h) _ (based_everywhere hashes history region based_on.pieces t h k)) [
            | inl a ↦ let g = leb-true hashes h a in absurd (omega arith)
            | inr a ↦ at h k l ∙ sym (branches_same (value_at based_on.pieces h k) (branch_on history region h k) a)
          ]
          | inr l ↦ no_value here h k c (let g : here.hashes ≤ h = omega arith in g) ∙ sym (no_value based_on h k d (let g : based_on.hashes ≤ h = omega arith in g))
        ]

    differ : (h : ℕ) (k : List ℕ) → based_at hashes history region based_on.pieces h k ≡ false → same_pieces here.pieces based_on.pieces ≡ true → ⊥
    differ h k g t =
        let parts = or_parts (nat_le hashes h) (same_branches (value_at based_on.pieces h k) (branch_on history region h k)) g in
        let l = leb-false hashes h parts.0 in
        let v : value_at based_on.pieces h k ≡ branch_on history region h k =
        ap (λ ps. value_at ps h k) (sym (pieces_same here.pieces based_on.pieces t)) ∙ at h k l in
        both_ways (same_branches (value_at based_on.pieces h k) (branch_on history region h k)) parts.1
        (ap (λ o. same_branches o (branch_on history region h k)) v ∙ branches_self (branch_on history region h k))

    by : (v : Bool) → everywhere branch_region itself history (regions_of region based_on.pieces) (based_at hashes history region based_on.pieces) ≡ v → same_pieces here.pieces based_on.pieces ≡ v
    by true t =
        let m : here ≡ based_on = same_maps here based_on c d (e ∙ sym f) (same t) in
        subst (λ (x : Pieced Id). same_pieces here.pieces x.pieces ≡ true) m (pieces_self here.pieces)
    by false t =
        let found = fails_somewhere branch_region itself history (regions_of region based_on.pieces) (based_at hashes history region based_on.pieces) t in
        false_from_ne_true _ (differ found.0 found.1 found.2)
