-- The keys that a scan finds.
use Rattle.std.proofs.Common.{◌≡◌, ℕ, Bool, true, false, cond, ◌&&◌, ◌||◌, List, [], ◌∷◌, filter, Some, None, refl, sym, ap, ◌∙◌}
use Rattle.std.specs.declared.cmp.Ordering.TheVariants.{Less}
use Rattle.std.specs.List.{list_any, AllByRecursion}
use Rattle.std.specs.List.Sorted.{IsStrictlySortedBy}
use Rattle.std.specs.Ordering.{nat_cmp}
use Rattle.std.specs.Cmp.Lexicographic.{slice_cmp, texts_ties}
use Rattle.std.specs.Map.{keys_of}
use Rattle.std.specs.BTreeMap.{is_at}
use Rattle.std.proofs.lemmas.Map.Entries.{lookup_tail}
use Rattle.std.proofs.lemmas.Map.Keys.{sorted_tail}
use Rattle.region_map.specs.declared.region.Region.{Region}
use Rattle.region_map.specs.Keys.{hash_of}
use Rattle.region_map.specs.Maps.{Pieced, value_at}
use Rattle.store_api.specs.declared.Row.{Row}
use Rattle.store_api.specs.Rows.{Rows, AreOrdered, row_of, is_same_key, has_key, is_above, row_is_above, is_newer, newer_keys, key_is_newer}
use Rattle.store_api.proofs.AtKeys.{same_keys}
use Rattle.store_api.proofs.Maps.{has_first, none_behind}

any_first : (t : List ℕ → Bool) (n : Bool) (e : List ℕ × Row) (es : Rows) → list_any t (keys_of (cond n (e ∷ es) es)) ≡ ((n && t e.0) || list_any t (keys_of es))
any_first t true e es = refl
any_first t false e es = refl

found_first : (n h : Bool) → ((n && true) || (h && false)) ≡ n
found_first true h = refl
found_first false true = refl
found_first false false = refl

found_later : (n x : Bool) → ((n && false) || x) ≡ x
found_later true x = refl
found_later false x = refl

pub newer_keys-has : (part : Region) (above : Pieced ℕ) (rows : Rows) (key : List ℕ) → AreOrdered rows → list_any (is_same_key key) (newer_keys part above rows) ≡ key_is_newer part above rows key
newer_keys-has part above [] key o = elim (has_key part above.hashes key) as (λ b. false ≡ (b && false)) [ true ↦ refl | false ↦ refl ]
newer_keys-has part above (e ∷ es) key o =
    let bound = value_at above.pieces (hash_of key above.hashes) key in
    let rest = newer_keys-has part above es key (sorted_tail (slice_cmp nat_cmp) e.0 (keys_of es) o) in
    any_first (is_same_key key) (is_newer part above e) e (filter (is_newer part above) es)
    ∙ elim (is_same_key key e.0) as (λ b. is_same_key key e.0 ≡ b
    → ((is_newer part above e && b) || list_any (is_same_key key) (newer_keys part above es)) ≡ key_is_newer part above (e ∷ es) key) [
      | true ↦ λ t.
          let at : key ≡ e.0 = same_keys key e.0 (sym (texts_ties key e.0) ∙ t) in
          let none : row_of es key ≡ None = ap (row_of es) at ∙ none_behind e es o in
          let some : row_of (e ∷ es) key ≡ Some e.1 = ap (row_of (e ∷ es)) at ∙ has_first e es in
          ap (λ x. (is_newer part above e && true) || x) (rest ∙ ap (λ r. has_key part above.hashes key && row_is_above bound r) none)
          ∙ found_first (is_newer part above e) (has_key part above.hashes key)
          ∙ ap (λ k. has_key part above.hashes k && is_above (value_at above.pieces (hash_of k above.hashes) k) e.1.recency) (sym at)
          ∙ ap (λ r. has_key part above.hashes key && row_is_above bound r) (sym some)
      | false ↦ λ f.
          found_later (is_newer part above e) _ ∙ rest
          ∙ ap (λ r. has_key part above.hashes key && row_is_above bound r) (sym (lookup_tail (is_at (slice_cmp nat_cmp key)) e es (sym (texts_ties key e.0) ∙ f)))
    ] refl

all_filtered : (P : List ℕ → Type 0) (p : List ℕ × Row → Bool) (rows : Rows) → AllByRecursion P (keys_of rows) → AllByRecursion P (keys_of (filter p rows))
all_filtered P p [] all = tt
all_filtered P p (e ∷ es) all =
    elim (p e) as (λ b. AllByRecursion P (keys_of (cond b (e ∷ filter p es) (filter p es)))) [ true ↦ (all.0, all_filtered P p es all.1) | false ↦ all_filtered P p es all.1 ]

pub ordered-filter : (p : List ℕ × Row → Bool) (rows : Rows) → AreOrdered rows → AreOrdered (filter p rows)
unfolding IsStrictlySortedBy
ordered-filter p [] o = tt
ordered-filter p (e ∷ es) o =
    elim (p e) as (λ b. AreOrdered (cond b (e ∷ filter p es) (filter p es))) [
      | true ↦ (all_filtered (λ y. slice_cmp nat_cmp e.0 y ≡ Less) p es o.0, ordered-filter p es o.1)
      | false ↦ ordered-filter p es o.1
    ]
