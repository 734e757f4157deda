-- Rows: what putting a range behind the others gives.
use Rattle.std.proofs.Common.{◌≡◌, ◌≢◌, ℕ, Bool, true, false, cond, ◌&&◌, not, List, [], ◌∷◌, ◌++◌, Option, Some, None, refl, sym, ap, ◌∙◌, subst}
use Rattle.std.specs.List.{AllByRecursion}
use Rattle.std.proofs.lemmas.Bool.{and_parts, and_from, and_right, not-true, not_from_false, both_ways}
use Rattle.list_laws.proofs.All.{all_pop, all_push, all_weaker}
use Rattle.region_map.specs.declared.row.Range.{Range}
use Rattle.region_map.specs.Regions.{before, low, below, in_range, is_open, ends_by}
use Rattle.region_map.specs.Maps.{row_value, IsRow, IsRange, Follows}
use Rattle.region_map.specs.Rows.{Precede, Puts}
use Rattle.region_map.proofs.Order.{before_self, before_trans, before_back, before_then, then_before, not_before}

-- ---- bounds

-- what lies in a range lies at or above its lower bound, and below its upper one
pub in_range_parts : (from to : Option (List ℕ)) (k : List ℕ) → in_range from to k ≡ true → (before k (low from) ≡ false) × (below k to ≡ true)
in_range_parts from to k h = let p = and_parts _ _ h in (not-true _ p.0, p.1)

pub in_range_from : (from to : Option (List ℕ)) (k : List ℕ) → before k (low from) ≡ false → below k to ≡ true → in_range from to k ≡ true
in_range_from from to k h i = and_from _ _ (not_from_false _ h) i

-- a range that ends by a bound has nothing at or above it
pub past_end : (to from : Option (List ℕ)) (k : List ℕ) → ends_by to from ≡ true → before k (low from) ≡ false → below k to ≡ false
past_end None from k h i = absurd (cc)
past_end (Some t) from k h i = not_before t (low from) k (not-true _ h) i

pub ends_then : (to from end bound : Option (List ℕ)) → ends_by to from ≡ true → is_open from end ≡ true → ends_by end bound ≡ true → ends_by to bound ≡ true
ends_then None from end bound h i j = absurd (cc)
ends_then (Some t) from None bound h i j = absurd (cc)
ends_then (Some t) from (Some e) bound h i j =
    not_from_false _ (before_back t (low bound) (before_then t e (low bound) (then_before t (low from) e (not-true _ h) i) (not-true _ j)))

pub open_then : (from to next end : Option (List ℕ)) → is_open from to ≡ true → to ≡ next → ends_by to next ≡ true → is_open next end ≡ true → is_open from end ≡ true
open_then from None next end h e i j = absurd (cc)
open_then from (Some t) next None h e i j = refl
open_then from (Some t) next (Some d) h e i j = before_trans (low from) t d h (subst (λ b. before (low b) d ≡ true) (sym e) j)

-- where a range goes on, the longer one has what both had
longer_in : (from to next end : Option (List ℕ)) (k : List ℕ) → to ≡ next → ends_by to next ≡ true → is_open next end ≡ true → is_open from to ≡ true
    → cond (in_range next end k) (in_range from end k ≡ true) (in_range from end k ≡ in_range from to k)
longer_in from None next end k e h i j = absurd (cc)
longer_in from (Some t) None end k e h i j = absurd (cc)
longer_in from (Some t) (Some n) end k e h i j =
    elim (before k n) as (λ b. before k n ≡ b → cond (not b && below k end) ((not (before k (low from)) && below k end) ≡ true) ((not (before k (low from)) && below k end) ≡ (not (before k (low from)) && before k t))) [
      | true ↦ λ f.
          let inside : before k t ≡ true = subst (λ b. before k (low b) ≡ true) (sym e) f in
          let within : below k end ≡ true = below_of k n end f i in
          ap (λ b. not (before k (low from)) && b) (within ∙ sym inside)
      | false ↦ λ f.
          let outside : before k t ≡ false = subst (λ b. before k (low b) ≡ false) (sym e) f in
          let begun : before k (low from) ≡ false = not_before (low from) t k (before_back (low from) t j) outside in
          elim (below k end) as (λ b. cond b ((not (before k (low from)) && b) ≡ true) ((not (before k (low from)) && b) ≡ (not (before k (low from)) && before k t))) [
            | true ↦ and_from _ _ (not_from_false _ begun) refl
            | false ↦ ap (λ b. not (before k (low from)) && b) (sym outside)
          ]
    ] refl
  where
    below_of : (a b : List ℕ) (to : Option (List ℕ)) → before a b ≡ true → below b to ≡ true → below a to ≡ true
    below_of a b None h i = refl
    below_of a b (Some t) h i = before_trans a b t h i

-- ---- lists

module _ {V : Type 0} where
  pub row_front : (xs : List (Range V)) (g : Range V) → IsRow (xs ++ g ∷ []) → IsRow xs × IsRange g × AllByRecursion (λ x. Follows x g) xs
  row_front [] g h = (tt, h.0, tt)
  row_front (x ∷ xs) g h =
      let r = row_front xs g h.2 in
      let a = all_pop (Follows x) xs g h.1 in
      ((h.0, a.0, r.0), r.1, (a.1, r.2))

  pub row_snoc : (xs : List (Range V)) (g : Range V) → IsRow xs → IsRange g → AllByRecursion (λ x. Follows x g) xs → IsRow (xs ++ g ∷ [])
  row_snoc [] g h r f = (r, tt, tt)
  row_snoc (x ∷ xs) g h r f = (h.0, all_push (Follows x) xs g h.1 f.0, row_snoc xs g h.2 r f.1)

  -- ---- values

  -- behind the ranges of a row there is no value
  pub none_behind : (row : List (Range V)) (from : Option (List ℕ)) (k : List ℕ) → Precede row from → before k (low from) ≡ false → row_value row k ≡ None
  none_behind [] from k h i = refl
  none_behind (g ∷ gs) from k h i =
      let out : in_range g.from g.to k ≡ false = and_right _ _ (past_end g.to from k h.0 i) in
      ap (λ b. cond b (Some g.value) (row_value gs k)) out ∙ none_behind gs from k h.1 i

  abbrev pub else_value : Option V → Option V → Option V
  else_value None y = y
  else_value (Some x) y = Some x

  else-none : (x : Option V) → else_value x None ≡ x
  else-none None = refl
  else-none (Some x) = refl

  pub row_value-append : (xs ys : List (Range V)) (k : List ℕ) → row_value (xs ++ ys) k ≡ else_value (row_value xs k) (row_value ys k)
  row_value-append [] ys k = refl
  row_value-append (x ∷ xs) ys k =
      elim (in_range x.from x.to k) as (λ b. cond b (Some x.value) (row_value (xs ++ ys) k) ≡ else_value (cond b (Some x.value) (row_value xs k)) (row_value ys k)) [
        | true ↦ refl
        | false ↦ row_value-append xs ys k
      ]

  one_value : (g : Range V) (k : List ℕ) (b : Bool) → in_range g.from g.to k ≡ b → row_value (g ∷ []) k ≡ cond b (Some g.value) None
  one_value g k b e = ap (λ c. cond c (Some g.value) None) e

  -- ---- a range behind the others

  put_at : (old : List (Range V)) (g : Range V) (k : List ℕ) → Precede old g.from
      → row_value (old ++ g ∷ []) k ≡ cond (in_range g.from g.to k) (Some g.value) (row_value old k)
  put_at old g k h =
      elim (in_range g.from g.to k) as (λ b. in_range g.from g.to k ≡ b → row_value (old ++ g ∷ []) k ≡ cond b (Some g.value) (row_value old k)) [
        | true ↦ λ e.
            row_value-append old (g ∷ []) k
            ∙ ap (λ x. else_value x (row_value (g ∷ []) k)) (none_behind old g.from k h (in_range_parts g.from g.to k e).0)
            ∙ one_value g k true e
        | false ↦ λ e.
            row_value-append old (g ∷ []) k
            ∙ ap (else_value (row_value old k)) (one_value g k false e)
            ∙ else-none (row_value old k)
      ] refl

  pub precede_then : (row : List (Range V)) (from to bound : Option (List ℕ)) → Precede row from → is_open from to ≡ true → ends_by to bound ≡ true → Precede row bound
  precede_then row from to bound h i j = all_weaker (λ g. ends_by g.to from ≡ true) (λ g. ends_by g.to bound ≡ true) row (λ g e. ends_then g.to from to bound e i j) h

  pub puts_apart : (old : List (Range V)) (last g : Range V) → IsRow (old ++ last ∷ []) → IsRange g → Precede (old ++ last ∷ []) g.from
      → (last.to ≡ g.from → last.value ≢ g.value) → Puts (old ++ last ∷ []) g ((old ++ last ∷ []) ++ g ∷ [])
  puts_apart old last g r is h ne =
      let p = row_front old last r in
      let q = all_pop (λ (x : Range V). ends_by x.to g.from ≡ true) old last h in
      let far = λ (x : Range V) (f : Follows x last). follows_far x last g f p.1 q.1 in
      record {
        row = row_snoc (old ++ last ∷ []) g r is
            (all_push (λ x. Follows x g) old last (all_weaker (λ x. Follows x last) (λ x. Follows x g) old far p.2) (record { apart = q.1; longest = ne }));
        at = λ k. put_at (old ++ last ∷ []) g k h;
        ends = λ bound e. all_push (λ x. ends_by x.to bound ≡ true) (old ++ last ∷ []) g (precede_then (old ++ last ∷ []) g.from g.to bound h is.holds e) e;
      }
    where
      follows_far : (x last g : Range V) → Follows x last → IsRange last → ends_by last.to g.from ≡ true → Follows x g
      follows_far x last g f is e =
          let apart : ends_by x.to g.from ≡ true = ends_then x.to last.from last.to g.from f.apart is.holds e in
          record { apart = apart; longest = λ same. absurd (never x.to last.from last.to g.from f.apart is.holds e same) }
        where
          never : (to from end bound : Option (List ℕ)) → ends_by to from ≡ true → is_open from end ≡ true → ends_by end bound ≡ true → to ≡ bound → ⊥
          never None from end bound h i j e = absurd (cc)
          never (Some t) from None bound h i j e = absurd (cc)
          never (Some t) from (Some d) None h i j e = absurd (cc)
          never (Some t) from (Some d) (Some b) h i j e =
              let less = before_then t d b (then_before t (low from) d (not-true _ h) i) (not-true _ j) in
              both_ways _ (before_self b) (subst (λ x. before (low x) b ≡ true) e less)

  pub puts_longer : (old : List (Range V)) (last g : Range V) → IsRow (old ++ last ∷ []) → IsRange g → Precede (old ++ last ∷ []) g.from
      → last.to ≡ g.from → last.value ≡ g.value → Puts (old ++ last ∷ []) g (old ++ record last { to = g.to } ∷ [])
  puts_longer old last g r is h touch same =
      let p = row_front old last r in
      let q = all_pop (λ (x : Range V). ends_by x.to g.from ≡ true) old last h in
      let longer : Range V = record last { to = g.to } in
      let opened : is_open last.from g.to ≡ true = open_then last.from last.to g.from g.to p.1.holds touch q.1 is.holds in
      record {
        row = row_snoc old longer p.0 (record { holds = opened; begins = p.1.begins; ends = is.ends })
            (all_weaker (λ x. Follows x last) (λ x. Follows x longer) old (λ x f. record { apart = f.apart; longest = f.longest }) p.2);
        at = λ k. longer_at k p.1.holds q.0 q.1;
        ends = λ bound e. all_push (λ x. ends_by x.to bound ≡ true) old longer (precede_then old g.from g.to bound q.0 is.holds e) e;
      }
    where
      longer_at : (k : List ℕ) → is_open last.from last.to ≡ true → Precede old g.from → ends_by last.to g.from ≡ true
          → row_value (old ++ record last { to = g.to } ∷ []) k ≡ cond (in_range g.from g.to k) (Some g.value) (row_value (old ++ last ∷ []) k)
      longer_at k holds front by =
          let t : cond (in_range g.from g.to k) (in_range last.from g.to k ≡ true) (in_range last.from g.to k ≡ in_range last.from last.to k) = longer_in last.from last.to g.from g.to k touch by is.holds holds in
          elim (in_range g.from g.to k) as (λ b. in_range g.from g.to k ≡ b → cond b (in_range last.from g.to k ≡ true) (in_range last.from g.to k ≡ in_range last.from last.to k)
          → row_value (old ++ record last { to = g.to } ∷ []) k ≡ cond b (Some g.value) (row_value (old ++ last ∷ []) k)) [
            | true ↦ λ e u.
                row_value-append old (record last { to = g.to } ∷ []) k
                ∙ ap (λ x. else_value x (row_value (record last { to = g.to } ∷ []) k)) (none_behind old g.from k front (in_range_parts g.from g.to k e).0)
                ∙ one_value (record last { to = g.to }) k true u
                ∙ ap Some same
            | false ↦ λ e u.
                row_value-append old (record last { to = g.to } ∷ []) k
                ∙ ap (λ b. else_value (row_value old k) (cond b (Some last.value) None)) u
                ∙ sym (row_value-append old (last ∷ []) k)
          ] refl t

  pub puts_longer_at : (old init new : List (Range V)) (last g longer : Range V) → old ≡ init ++ last ∷ [] → new ≡ init ++ longer ∷ [] → longer ≡ record last { to = g.to }
      → IsRow old → IsRange g → Precede old g.from → last.to ≡ g.from → last.value ≡ g.value → Puts old g new
  puts_longer_at old init new last g longer eo en el r is h touch same =
      let e : new ≡ init ++ record last { to = g.to } ∷ [] = en ∙ ap (λ x. init ++ x ∷ []) el in
      subst (λ o. Puts o g new) (sym eo)
      (subst (λ n. Puts (init ++ last ∷ []) g n) (sym e)
      (puts_longer init last g (subst (λ o. IsRow o) eo r) is (subst (λ o. Precede o g.from) eo h) touch same))

  pub puts_apart_at : (old init mid new : List (Range V)) (last g : Range V) → old ≡ init ++ last ∷ [] → mid ≡ init ++ last ∷ [] → new ≡ mid ++ g ∷ []
      → IsRow old → IsRange g → Precede old g.from → (last.to ≡ g.from → last.value ≢ g.value) → Puts old g new
  puts_apart_at old init mid new last g eo em en r is h ne =
      let e : new ≡ (init ++ last ∷ []) ++ g ∷ [] = en ∙ ap (λ x. x ++ g ∷ []) em in
      subst (λ o. Puts o g new) (sym eo)
      (subst (λ n. Puts (init ++ last ∷ []) g n) (sym e)
      (puts_apart init last g (subst (λ o. IsRow o) eo r) is (subst (λ o. Precede o g.from) eo h) ne))
