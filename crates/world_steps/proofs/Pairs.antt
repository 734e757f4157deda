-- The sets of the pairs, as one of them changes, and what the least and the whole of a set are.
use Rattle.std.proofs.Common.{◌≡◌, ℕ, suc, ◌+◌, ◌*◌, ◌<◌, ◌≤◌, ◌==◌, ◌⊎◌, Bool, true, false, cond, not, ◌&&◌, ◌||◌, nat_lt, List, [], length, set, get_or, Some, None, inl, inr, refl, sym, ap, ◌∙◌, subst, arith}
use Rattle.std.proofs.Math.Nat.{suc-mul, mul-le-mul_right}
use Rattle.std.proofs.lemmas.Bool.{cases_eq, cases_lt, ltb-true}
use Rattle.std.proofs.lemmas.Bool.Decides.{nat_tests}
use Rattle.std.proofs.lemmas.Option.{slice_get-get_or}
use Rattle.std.proofs.lemmas.List.{get_or-set_same, get_or-set_other}
use Rattle.std.specs.Ordering.{nat_cmp}
use Rattle.std.specs.BTreeSet.{BTreeSet, contains}
use Rattle.region_map.specs.declared.id.NodeId.{NodeId}
use Rattle.std.specs.List.{list_any}
use Rattle.std.specs.BTreeMap.{is_at}
use Rattle.world_steps.specs.Pairs.{SetsState, place_in, place_of, set_of, pair_has}

-- ---- places

-- pairs that differ in the sender have places that differ
below_rows : (nodes a b f t : ℕ) → a < f → b < nodes → a * nodes + b < f * nodes + t
below_rows nodes a b f t rows within =
    let grown : suc a * nodes ≤ f * nodes = mul-le-mul_right nodes (omega arith) in
    let next : suc a * nodes ≡ a * nodes + nodes = suc-mul a nodes in
    let to_next : a * nodes + nodes ≤ f * nodes = subst (λ m. m ≤ f * nodes) next grown in
    omega (arith, to_next, within)

apart : (nodes : ℕ) (from to a b : NodeId) → to.0 < nodes → b.0 < nodes → place_in nodes a b ≡ place_in nodes from to → (from.0 ≡ a.0) × (to.0 ≡ b.0)
apart nodes from to a b ht hb e =
    elim (cases_lt a.0 from.0) [
      | inl low ↦ let l = below_rows nodes a.0 b.0 from.0 to.0 low hb in absurd (omega arith)
      | inr high ↦ elim (cases_lt from.0 a.0) [
        | inl low ↦ let l = below_rows nodes from.0 to.0 a.0 b.0 low ht in absurd (omega arith)
        | inr same ↦
            let rows : from.0 ≡ a.0 = omega arith in
            let e' : a.0 * nodes + b.0 ≡ a.0 * nodes + to.0 = e ∙ ap (λ m. m * nodes + to.0) rows in
            (rows, omega (arith, e'))
      ]
    ]

-- what stands at a place does not hang on the default
pub get_any : {A : Type 0} (xs : List A) (p : ℕ) (d e : A) → p < length xs → get_or xs p d ≡ get_or xs p e
get_any xs p d e h = some_same (sym (slice_get-get_or xs p d h) ∙ slice_get-get_or xs p e h)
  where
    some_same : {A : Type 0} {x y : A} → Some x ≡ Some y → x ≡ y
    some_same e = cc

-- ---- one set changes

abbrev pub with_set : SetsState → NodeId → NodeId → BTreeSet ℕ → SetsState
with_set s from to v = record s { sets = set s.sets (place_in s.nodes from to) v }

abbrev pub is_pair : NodeId → NodeId → NodeId → NodeId → Bool
is_pair from to a b = (from.0 == a.0) && (to.0 == b.0)

-- the set of this pair is the new one, and each other one is as it was
abbrev SetChanged : SetsState → NodeId → NodeId → BTreeSet ℕ → NodeId → NodeId → Type 0
SetChanged s from to v a b =
    ((is_pair from to a b ≡ true) × (set_of (with_set s from to v) a b ≡ v) × (set_of s from to ≡ set_of s a b))
    ⊎ ((is_pair from to a b ≡ false) × (set_of (with_set s from to v) a b ≡ set_of s a b))

set_changed : (s : SetsState) (from to a b : NodeId) (v : BTreeSet ℕ) → to.0 < s.nodes → b.0 < s.nodes → place_in s.nodes from to < length s.sets → SetChanged s from to v a b
set_changed s from to a b v ht hb there =
    elim (cases_eq (place_in s.nodes a b) (place_in s.nodes from to)) [
      | inl same ↦
          let pair = apart s.nodes from to a b ht hb same in
          inl (
            both (from.0 == a.0) (to.0 == b.0) (eqb_same from.0 a.0 pair.0) (eqb_same to.0 b.0 pair.1),
            ap (λ (p : ℕ). get_or (set s.sets (place_in s.nodes from to) v) p (record { keys = [] })) same ∙ get_or-set_same s.sets (place_in s.nodes from to) v (record { keys = [] }) there,
            ap (λ (p : ℕ). get_or s.sets p (record { keys = [] })) (sym same),
          )
      | inr other ↦
          inr (
            not_both from.0 a.0 to.0 b.0 (λ e t. other (ap (λ m. m * s.nodes + b.0) (sym e) ∙ ap (λ m. from.0 * s.nodes + m) (sym t))),
            get_or-set_other s.sets (place_in s.nodes from to) (place_in s.nodes a b) v (record { keys = [] }) other,
          )
    ]
  where
    eqb_same : (x y : ℕ) → x ≡ y → (x == y) ≡ true
    eqb_same x y e = grind (arith, nat_tests)

    both : (x y : Bool) → x ≡ true → y ≡ true → (x && y) ≡ true
    both x y hx hy = rw (hx, hy) refl

    not_both : (f a t b : ℕ) → (f ≡ a → t ≡ b → ⊥) → ((f == a) && (t == b)) ≡ false
    not_both f a t b h = elim (cases_eq f a) [
      | inl e ↦ elim (cases_eq t b) [
        | inl g ↦ absurd (h e g)
        | inr o ↦ grind (arith, nat_tests)
      ]
      | inr o ↦ grind (arith, nat_tests)
    ]

-- the place that a pair was found at
place_found : (nodes : ℕ) (from to : NodeId) (p : ℕ) → Some p ≡ place_of nodes from to → (p ≡ place_in nodes from to) × (to.0 < nodes)
place_found nodes from to p = by (nat_lt from.0 nodes) (nat_lt to.0 nodes) refl
  where
    by : (x y : Bool) → y ≡ nat_lt to.0 nodes → Some p ≡ cond (x && y) (Some (place_in nodes from to)) None → (p ≡ place_in nodes from to) × (to.0 < nodes)
    by true true h e = (cc, ltb-true to.0 nodes (sym h))
    by true false h e = absurd (cc)
    by false y h e = absurd (cc)

found_changed : (s : SetsState) (from to a b : NodeId) (p : ℕ) (v : BTreeSet ℕ) → Some p ≡ place_of s.nodes from to → p < length s.sets → b.0 < s.nodes → SetChanged s from to v a b
found_changed s from to a b p v found there hb =
    let at = place_found s.nodes from to p found in
    set_changed s from to a b v at.1 hb (subst (λ m. m < length s.sets) at.0 there)

-- the state with the set at a place that was found
found_set : (s : SetsState) (from to : NodeId) (p : ℕ) (v : BTreeSet ℕ) → Some p ≡ place_of s.nodes from to → record s { sets = set s.sets p v } ≡ with_set s from to v
found_set s from to p v found = ap (λ m. record s { sets = set s.sets m v }) (place_found s.nodes from to p found).0

pub pair_added : (s : SetsState) (from to : NodeId) (p : ℕ) (v : BTreeSet ℕ) (number : ℕ) → Some p ≡ place_of s.nodes from to → p < length s.sets
    → ((n : ℕ) → contains nat_cmp v n ≡ ((number == n) || contains nat_cmp (get_or s.sets p (record { keys = [] })) n))
    → (a b : NodeId) → b.0 < s.nodes → (n : ℕ)
    → pair_has (record s { sets = set s.sets p v }) a b n ≡ (((number == n) && is_pair from to a b) || pair_has s a b n)
pair_added s from to p v number found there h a b hb n =
    ap (λ t. pair_has t a b n) (found_set s from to p v found) ∙
    elim (found_changed s from to a b p v found there hb) [
      | inl (here, new, old) ↦
          let before : get_or s.sets p (record { keys = [] }) ≡ set_of s a b = ap (λ m. get_or s.sets m (record { keys = [] })) (place_found s.nodes from to p found).0 ∙ old in
          ap (λ t. contains nat_cmp t n) new ∙ h n ∙ ap (λ t. (number == n) || contains nat_cmp t n) before
          ∙ here_or (number == n) (is_pair from to a b) (pair_has s a b n) here
      | inr (other, same) ↦ ap (λ t. contains nat_cmp t n) same ∙ other_or (number == n) (is_pair from to a b) (pair_has s a b n) other
    ]
  where
    here_or : (x y z : Bool) → y ≡ true → (x || z) ≡ ((x && y) || z)
    here_or true y z e = rw e refl
    here_or false y z e = refl

    other_or : (x y z : Bool) → y ≡ false → z ≡ ((x && y) || z)
    other_or true y z e = rw e refl
    other_or false y z e = refl

pub pair_removed : (s : SetsState) (from to : NodeId) (p : ℕ) (v : BTreeSet ℕ) (number : ℕ) → Some p ≡ place_of s.nodes from to → p < length s.sets
    → ((n : ℕ) → contains nat_cmp v n ≡ (not (number == n) && contains nat_cmp (get_or s.sets p (record { keys = [] })) n))
    → (a b : NodeId) → b.0 < s.nodes → (n : ℕ)
    → pair_has (record s { sets = set s.sets p v }) a b n ≡ (not ((number == n) && is_pair from to a b) && pair_has s a b n)
pair_removed s from to p v number found there h a b hb n =
    ap (λ t. pair_has t a b n) (found_set s from to p v found) ∙
    elim (found_changed s from to a b p v found there hb) [
      | inl (here, new, old) ↦
          let before : get_or s.sets p (record { keys = [] }) ≡ set_of s a b = ap (λ m. get_or s.sets m (record { keys = [] })) (place_found s.nodes from to p found).0 ∙ old in
          ap (λ t. contains nat_cmp t n) new ∙ h n ∙ ap (λ t. not (number == n) && contains nat_cmp t n) before
          ∙ here_not (number == n) (is_pair from to a b) (pair_has s a b n) here
      | inr (other, same) ↦ ap (λ t. contains nat_cmp t n) same ∙ other_not (number == n) (is_pair from to a b) (pair_has s a b n) other
    ]
  where
    here_not : (x y z : Bool) → y ≡ true → (not x && z) ≡ (not (x && y) && z)
    here_not true y z e = rw e refl
    here_not false y z e = refl

    other_not : (x y z : Bool) → y ≡ false → z ≡ (not (x && y) && z)
    other_not true y z e = rw e refl
    other_not false y z e = refl

pub pair_emptied : (s : SetsState) (from to : NodeId) (p : ℕ) (v : BTreeSet ℕ) → Some p ≡ place_of s.nodes from to → p < length s.sets → v.keys ≡ []
    → (a b : NodeId) → b.0 < s.nodes → (n : ℕ)
    → pair_has (record s { sets = set s.sets p v }) a b n ≡ (not (is_pair from to a b) && pair_has s a b n)
pair_emptied s from to p v found there h a b hb n =
    ap (λ t. pair_has t a b n) (found_set s from to p v found) ∙
    elim (found_changed s from to a b p v found there hb) [
      | inl (here, new, old) ↦
          ap (λ t. contains nat_cmp t n) new ∙ ap (λ (ks : List ℕ). list_any (is_at (nat_cmp n)) ks) h ∙ ap (λ y. not y && pair_has s a b n) (sym here)
      | inr (other, same) ↦ ap (λ t. contains nat_cmp t n) same ∙ ap (λ y. not y && pair_has s a b n) (sym other)
    ]
