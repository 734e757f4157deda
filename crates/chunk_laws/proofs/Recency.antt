-- A row that is no newer than a point of its path is the row of that point.
use Rattle.std.proofs.Common.{◌≡◌, ◌⊎◌, inl, inr, ℕ, ◌<◌, Bool, true, false, cond, not, ◌&&◌, nat_lt, List, [], ◌∷◌, filter, Option, Some, None, refl, sym, ap, ◌∙◌, subst}
use Rattle.std.specs.List.{AllByRecursion}
use Rattle.std.proofs.lemmas.Bool.{and_parts, both_ways, cases_Bool, lt-ltb}
use Rattle.region_map.specs.Keys.{hash_of}
use Rattle.branch_history.specs.declared.version.Version.{Version}
use Rattle.branch_history.specs.Paths.{Branches, is_on, ancestor}
use Rattle.branch_history.specs.Histories.{IsHistory, IsInTime}
use Rattle.branch_history.proofs.PathLaws.{on_self, on_trans, on_linear}
use Rattle.branch_history.proofs.Times.{times_fall_within}
use Rattle.branch_history.proofs.Ancestors.{ancestor_last}
use Rattle.store_api.specs.declared.Row.{Row}
use Rattle.store_api.specs.Rows.{row_is_above}
use Rattle.chunk_laws.specs.Written.{Writes, IsWritten, IsTaken, HasRecency, LeavesItsTime, AreInOrder, row_after, is_on_path_to, is_beyond, path_row}

less_is : (t s : ℕ) → t < s → nat_lt t s ≡ true
less_is t s lt = lt-ltb t s lt

newer_by : (t s : ℕ) (row : Option Row) → t < s → HasRecency s row → row_is_above (Some t) row ≡ true
newer_by t s row lt has = ap (row_is_above (Some t)) has.row_is ∙ ap (nat_lt t) has.recency_is ∙ less_is t s lt

module _ {P : Type 0} (w : Writes P) (leaves : LeavesItsTime w) where
  -- what was taken later than a timestamp leaves a row as it was, or newer than the timestamp
  kept : (t : ℕ) (before : Option Row) (ps : List P) → AllByRecursion (λ p. t < (w.place p).timestamp) ps
      → (row_after w.step before ps ≡ before) ⊎ (row_is_above (Some t) (row_after w.step before ps) ≡ true)
  kept t before [] all = inl refl
  kept t before (p ∷ ps) all =
      elim (kept t (w.step before p) ps all.1) [
        | inl same ↦ elim (leaves before p) [
          | inl as_before ↦ inl (same ∙ as_before)
          | inr has ↦ inr (ap (row_is_above (Some t)) same ∙ newer_by t (w.place p).timestamp (w.step before p) all.0 has)
        ]
        | inr above ↦ inr above
      ]

  kept_old : (t : ℕ) (before : Option Row) (ps : List P) → AllByRecursion (λ p. t < (w.place p).timestamp) ps
      → row_is_above (Some t) (row_after w.step before ps) ≡ false → row_after w.step before ps ≡ before
  kept_old t before ps all old =
      elim (kept t before ps all) [
        | inl same ↦ same
        | inr above ↦ absurd (both_ways _ old above)
      ]

module _ {P : Type 0} (w : Writes P) (bs : Branches) (hashes : ℕ) (key : List ℕ) (history : IsHistory bs) (in_time : IsInTime bs (hash_of key hashes) key)
    (v a : Version) (has : is_on bs (hash_of key hashes) key v a ≡ true) where
  -- what is on the path of a version, and not on that of a point of it, was taken later than the point
  beyond : (x : Version) → IsTaken bs x → is_on bs (hash_of key hashes) key v x ≡ true → is_on bs (hash_of key hashes) key a x ≡ false → a.timestamp < x.timestamp
  beyond x taken on off =
      elim (on_linear bs (hash_of key hashes) key v a x history has on) [
        | inl at ↦ absurd (both_ways _ off at)
        | inr back ↦ elim (times_fall_within bs (hash_of key hashes) key taken.branch taken.birth x a history in_time taken.known taken.branch_is taken.later back) [
          | inl same ↦ absurd (both_ways _ off (subst (λ y. is_on bs (hash_of key hashes) key y x ≡ true) (sym same) (on_self bs (hash_of key hashes) key v x history on)))
          | inr lt ↦ lt
        ]
      ]

  -- what is later on no path of such a point is not on that of the point either
  later_off : (x y : Version) → is_on bs (hash_of key hashes) key v x ≡ true → is_on bs (hash_of key hashes) key a x ≡ false → is_on bs (hash_of key hashes) key x y ≡ false
      → is_on bs (hash_of key hashes) key a y ≡ false
  later_off x y on off none =
      elim (cases_Bool (is_on bs (hash_of key hashes) key a y)) [
        | inl at ↦ elim (on_linear bs (hash_of key hashes) key v a x history has on) [
          | inl there ↦ absurd (both_ways _ off there)
          | inr back ↦ absurd (both_ways _ none (on_trans bs (hash_of key hashes) key x a y history back at))
        ]
        | inr f ↦ f
      ]

  -- behind one that is not on the path of the point, none is
  none_of : (x : Version) → is_on bs (hash_of key hashes) key v x ≡ true → is_on bs (hash_of key hashes) key a x ≡ false → (ps : List P)
      → AllByRecursion (λ q. w.is_of key q ≡ true → is_on bs (hash_of key hashes) key x (w.place q) ≡ false) ps → filter (is_on_path_to w bs hashes key a) ps ≡ []
  none_of x on off [] all = refl
  none_of x on off (q ∷ qs) all =
      elim (is_on_path_to w bs hashes key a q) as (λ b. is_on_path_to w bs hashes key a q ≡ b
      → cond b (q ∷ filter (is_on_path_to w bs hashes key a) qs) (filter (is_on_path_to w bs hashes key a) qs) ≡ []) [
        | true ↦ λ e. let parts = and_parts _ _ e in absurd (both_ways _ (later_off x (w.place q) on off (all.0 parts.0)) parts.1)
        | false ↦ λ e. none_of x on off qs all.1
      ] refl

  all_beyond : (x : Version) → is_on bs (hash_of key hashes) key v x ≡ true → is_on bs (hash_of key hashes) key a x ≡ false → (ps : List P)
      → AllByRecursion (λ q. w.is_of key q ≡ true → is_on bs (hash_of key hashes) key x (w.place q) ≡ false) ps
      → AllByRecursion (λ q. w.is_of key q ≡ true → IsTaken bs (w.place q)) ps
      → AllByRecursion (λ q. a.timestamp < (w.place q).timestamp) (filter (is_on_path_to w bs hashes key v) ps)
  all_beyond x on off [] all taken = tt
  all_beyond x on off (q ∷ qs) all taken =
      elim (is_on_path_to w bs hashes key v q) as (λ b. is_on_path_to w bs hashes key v q ≡ b
      → AllByRecursion (λ q. a.timestamp < (w.place q).timestamp) (cond b (q ∷ filter (is_on_path_to w bs hashes key v) qs) (filter (is_on_path_to w bs hashes key v) qs))) [
        | true ↦ λ e.
            let parts = and_parts _ _ e in (
              beyond (w.place q) (taken.0 parts.0) parts.1 (later_off x (w.place q) on off (all.0 parts.0)),
              all_beyond x on off qs all.1 taken.1,
            )
        | false ↦ λ e. all_beyond x on off qs all.1 taken.1
      ] refl

  -- what is on the path of the point is on that of the version
  on_both : (p : P) → is_on_path_to w bs hashes key v p ≡ false → is_on_path_to w bs hashes key a p ≡ false
  on_both p f =
      elim (cases_Bool (is_on_path_to w bs hashes key a p)) [
        | inl e ↦
            let parts = and_parts _ _ e in
            absurd (both_ways _ f (ap (λ b. b && is_on bs (hash_of key hashes) key v (w.place p)) parts.0 ∙ on_trans bs (hash_of key hashes) key v a (w.place p) history has parts.1))
        | inr n ↦ n
      ]

  off_of : (p : P) → w.is_of key p ≡ true → is_on_path_to w bs hashes key a p ≡ false → is_on bs (hash_of key hashes) key a (w.place p) ≡ false
  off_of p of f = sym (ap (λ b. b && is_on bs (hash_of key hashes) key a (w.place p)) of) ∙ f

  agree : LeavesItsTime w → (before : Option Row) (ps : List P)
      → AllByRecursion (λ p. w.is_of key p ≡ true → IsTaken bs (w.place p)) ps → AreInOrder w bs hashes key ps
      → row_is_above (Some a.timestamp) (row_after w.step before (filter (is_on_path_to w bs hashes key v) ps)) ≡ false
      → row_after w.step before (filter (is_on_path_to w bs hashes key v) ps) ≡ row_after w.step before (filter (is_on_path_to w bs hashes key a) ps)
  agree leaves before [] taken order old = refl
  agree leaves before (p ∷ ps) taken order old =
      elim (is_on_path_to w bs hashes key v p) as (λ b. is_on_path_to w bs hashes key v p ≡ b
      → row_is_above (Some a.timestamp) (row_after w.step before (cond b (p ∷ filter (is_on_path_to w bs hashes key v) ps) (filter (is_on_path_to w bs hashes key v) ps))) ≡ false
      → row_after w.step before (cond b (p ∷ filter (is_on_path_to w bs hashes key v) ps) (filter (is_on_path_to w bs hashes key v) ps))
      ≡ row_after w.step before (cond (is_on_path_to w bs hashes key a p) (p ∷ filter (is_on_path_to w bs hashes key a) ps) (filter (is_on_path_to w bs hashes key a) ps))) [
        | true ↦ λ e. elim (is_on_path_to w bs hashes key a p) as (λ c. is_on_path_to w bs hashes key a p ≡ c
            → row_is_above (Some a.timestamp) (row_after w.step (w.step before p) (filter (is_on_path_to w bs hashes key v) ps)) ≡ false
            → row_after w.step (w.step before p) (filter (is_on_path_to w bs hashes key v) ps)
            ≡ row_after w.step before (cond c (p ∷ filter (is_on_path_to w bs hashes key a) ps) (filter (is_on_path_to w bs hashes key a) ps))) [
              | true ↦ λ f old. agree leaves (w.step before p) ps taken.1 order.1 old
              | false ↦ λ f old.
                  let parts = and_parts _ _ e in
                  let off = off_of p parts.0 f in
                  let first = beyond (w.place p) (taken.0 parts.0) parts.1 off in
                  let rest = all_beyond (w.place p) parts.1 off ps (order.0 parts.0) taken.1 in
                  kept_old w leaves a.timestamp before (p ∷ filter (is_on_path_to w bs hashes key v) ps) (first, rest) old
                  ∙ sym (ap (row_after w.step before) (none_of (w.place p) parts.1 off ps (order.0 parts.0)))
            ] refl
        | false ↦ λ e old.
            agree leaves before ps taken.1 order.1 old
            ∙ ap (λ c. row_after w.step before (cond c (p ∷ filter (is_on_path_to w bs hashes key a) ps) (filter (is_on_path_to w bs hashes key a) ps))) (sym (on_both p e))
      ] refl old

  -- behind one that is not on the path of the point, all on the path of the version lie beyond the point
  rest_beyond : (x : Version) → is_on bs (hash_of key hashes) key v x ≡ true → is_on bs (hash_of key hashes) key a x ≡ false → (ps : List P)
      → AllByRecursion (λ q. w.is_of key q ≡ true → is_on bs (hash_of key hashes) key x (w.place q) ≡ false) ps
      → filter (is_on_path_to w bs hashes key v) ps ≡ filter (is_beyond w bs hashes key a v) ps
  rest_beyond x on off [] all = refl
  rest_beyond x on off (q ∷ qs) all =
      elim (cases_Bool (w.is_of key q)) [
        | inl of ↦
            let none : is_on_path_to w bs hashes key a q ≡ false =
            ap (λ b. b && is_on bs (hash_of key hashes) key a (w.place q)) of ∙ later_off x (w.place q) on off (all.0 of) in
            tested (is_on_path_to w bs hashes key v q) (is_on_path_to w bs hashes key a q) q none (rest_beyond x on off qs all.1)
        | inr not_of ↦
            let none : is_on_path_to w bs hashes key a q ≡ false = ap (λ b. b && is_on bs (hash_of key hashes) key a (w.place q)) not_of in
            tested (is_on_path_to w bs hashes key v q) (is_on_path_to w bs hashes key a q) q none (rest_beyond x on off qs all.1)
      ]
    where
      tested : {xs ys : List P} (b c : Bool) (q : P) → c ≡ false → xs ≡ ys → cond b (q ∷ xs) xs ≡ cond (b && not c) (q ∷ ys) ys
      tested true true q none e = absurd (cc)
      tested true false q none e = ap (λ zs. q ∷ zs) e
      tested false c q none e = e

  goes_on : (before : Option Row) (ps : List P) → AreInOrder w bs hashes key ps
      → row_after w.step before (filter (is_on_path_to w bs hashes key v) ps)
      ≡ row_after w.step (row_after w.step before (filter (is_on_path_to w bs hashes key a) ps)) (filter (is_beyond w bs hashes key a v) ps)
  goes_on before [] order = refl
  goes_on before (p ∷ ps) order =
      elim (is_on_path_to w bs hashes key v p) as (λ b. is_on_path_to w bs hashes key v p ≡ b
      → row_after w.step before (cond b (p ∷ filter (is_on_path_to w bs hashes key v) ps) (filter (is_on_path_to w bs hashes key v) ps))
      ≡ row_after w.step (row_after w.step before (cond (is_on_path_to w bs hashes key a p) (p ∷ filter (is_on_path_to w bs hashes key a) ps) (filter (is_on_path_to w bs hashes key a) ps)))
      (cond (b && not (is_on_path_to w bs hashes key a p)) (p ∷ filter (is_beyond w bs hashes key a v) ps) (filter (is_beyond w bs hashes key a v) ps))) [
        | true ↦ λ e. elim (is_on_path_to w bs hashes key a p) as (λ c. is_on_path_to w bs hashes key a p ≡ c
            → row_after w.step (w.step before p) (filter (is_on_path_to w bs hashes key v) ps)
            ≡ row_after w.step (row_after w.step before (cond c (p ∷ filter (is_on_path_to w bs hashes key a) ps) (filter (is_on_path_to w bs hashes key a) ps)))
            (cond (not c) (p ∷ filter (is_beyond w bs hashes key a v) ps) (filter (is_beyond w bs hashes key a v) ps))) [
              | true ↦ λ f. goes_on (w.step before p) ps order.1
              | false ↦ λ f.
                  let parts = and_parts _ _ e in
                  let off : is_on bs (hash_of key hashes) key a (w.place p) ≡ false = sym (ap (λ b. b && is_on bs (hash_of key hashes) key a (w.place p)) parts.0) ∙ f in
                  ap (row_after w.step (w.step before p)) (rest_beyond (w.place p) parts.1 off ps (order.0 parts.0))
                  ∙ ap (λ xs. row_after w.step (row_after w.step before xs) (p ∷ filter (is_beyond w bs hashes key a v) ps))
                  (sym (none_of (w.place p) parts.1 off ps (order.0 parts.0)))
            ] refl
        | false ↦ λ e.
            goes_on before ps order.1
            ∙ ap (λ c. row_after w.step (row_after w.step before (cond c (p ∷ filter (is_on_path_to w bs hashes key a) ps) (filter (is_on_path_to w bs hashes key a) ps))) (filter (is_beyond w bs hashes key a v) ps))
            (sym (on_both p e))
      ] refl

-- the row of a version goes on from that of a point of its path
pub path_row-beyond : {P : Type 0} (w : Writes P) (bs : Branches) (hashes : ℕ) (key : List ℕ) (version point : Version) → IsWritten w bs hashes key
    → is_on bs (hash_of key hashes) key version point ≡ true
    → path_row w bs hashes key version ≡ row_after w.step (path_row w bs hashes key point) (filter (is_beyond w bs hashes key point version) w.taken)
path_row-beyond w bs hashes key version point written has = goes_on w bs hashes key written.history written.in_time version point has None w.taken written.in_order

-- the row of a version that is no newer than a point of its path
pub path_row-point : {P : Type 0} (w : Writes P) (bs : Branches) (hashes : ℕ) (key : List ℕ) (version point : Version) → IsWritten w bs hashes key
    → is_on bs (hash_of key hashes) key version point ≡ true
    → row_is_above (Some point.timestamp) (path_row w bs hashes key version) ≡ false
    → path_row w bs hashes key version ≡ path_row w bs hashes key point
path_row-point w bs hashes key version point written has old =
    agree w bs hashes key written.history written.in_time version point has written.leaves None w.taken written.taken written.in_order old

-- the rows of two versions that are no newer than their common ancestor
pub path_row-both : {P : Type 0} (w : Writes P) (bs : Branches) (hashes : ℕ) (key : List ℕ) (a b : Version) → IsWritten w bs hashes key
    → row_is_above (Some (ancestor bs (hash_of key hashes) key a b).timestamp) (path_row w bs hashes key a) ≡ false
    → row_is_above (Some (ancestor bs (hash_of key hashes) key a b).timestamp) (path_row w bs hashes key b) ≡ false
    → path_row w bs hashes key a ≡ path_row w bs hashes key b
path_row-both w bs hashes key a b written old_a old_b =
    let last = ancestor_last bs (hash_of key hashes) key a b written.history in
    let meet = ancestor bs (hash_of key hashes) key a b in
    path_row-point w bs hashes key a meet written last.first old_a ∙ sym (path_row-point w bs hashes key b meet written last.second old_b)
