-- Rows are a map, a scan a front, and versions a function of the pairs.
use Rattle.std.proofs.Common.{◌≡◌, ℕ, ◌<◌, ◌≤◌, List, [], ◌∷◌, zero, suc, take, length, true, false, Option, Some, None, refl, sym, ap, ◌∙◌, arith}
use Rattle.std.specs.declared.cmp.Ordering.TheVariants.{Less, Equal, Greater}
use Rattle.std.specs.Ordering.{nat_cmp, is_eq, ordering_reverse}
use Rattle.std.specs.Cmp.{eq_by_cmp_equiv}
use Rattle.std.specs.Cmp.Lexicographic.{slice_cmp}
use Rattle.std.specs.Map.{keys_of}
use Rattle.std.specs.BTreeMap.{is_at}
use Rattle.std.proofs.lemmas.Cmp.{nat_list_cmp_total, tied_itself}
use Rattle.std.proofs.lemmas.Map.{lookup-none}
use Rattle.std.proofs.lemmas.Map.Entries.{lookup_head, lookup_tail, none_past_head, none_below_head}
use Rattle.std.proofs.lemmas.Map.Keys.{IsDistinct-from_sorted, sorted_tail}
use Rattle.std.proofs.lemmas.Map.Lookups.{exact_bytes}
use Rattle.std.proofs.lemmas.Option.{same_Some}
use Rattle.store_api.specs.declared.Row.{Row}
use Rattle.store_api.specs.Rows.{Rows, AreOrdered, row_of}
use Rattle.store_api.proofs.AtKeys.{same_keys}

-- the shorter front of a longer one
pub take-take : {A : Type 0} (n m : ℕ) (xs : List A) → n ≤ m → take n xs ≡ take n (take m xs)
take-take zero m xs le = refl
take-take (suc n) zero xs le = absurd (omega arith)
take-take (suc n) (suc m) [] le = refl
take-take (suc n) (suc m) (x ∷ xs) le = let le' : n ≤ m = omega arith in ap (λ ys. x ∷ ys) (take-take n m xs le')

-- a front that falls short is all
pub take_short : {A : Type 0} (n m : ℕ) (xs : List A) → n ≤ m → length (take n xs) < n → take n xs ≡ take m xs
take_short zero m xs le lt = absurd (omega arith)
take_short (suc n) zero xs le lt = absurd (omega arith)
take_short (suc n) (suc m) [] le lt = refl
take_short (suc n) (suc m) (x ∷ xs) le lt =
    let le' : n ≤ m = omega arith in
    let lt' : length (take n xs) < n = omega arith in
    ap (λ ys. x ∷ ys) (take_short n m xs le' lt')

-- ---- rows with the same row at each key are the same

pub has_first : (x : List ℕ × Row) (xs : Rows) → row_of (x ∷ xs) x.0 ≡ Some x.1
has_first x xs = lookup_head (is_at (slice_cmp nat_cmp x.0)) x xs (ap is_eq (tied_itself nat_list_cmp_total x.0))

pub none_behind : (x : List ℕ × Row) (xs : Rows) → AreOrdered (x ∷ xs) → row_of xs x.0 ≡ None
none_behind x xs s =
    lookup-none (is_at (slice_cmp nat_cmp x.0)) xs
    (none_past_head (eq_by_cmp_equiv nat_list_cmp_total) x.0 x xs (IsDistinct-from_sorted (slice_cmp nat_cmp) _ s) (ap is_eq (tied_itself nat_list_cmp_total x.0)))

none_before : (k : List ℕ) (y : List ℕ × Row) (ys : Rows) → AreOrdered (y ∷ ys) → slice_cmp nat_cmp k y.0 ≡ Less → row_of (y ∷ ys) k ≡ None
none_before k y ys s lt = lookup-none (is_at (slice_cmp nat_cmp k)) (y ∷ ys) (none_below_head nat_list_cmp_total k y ys s lt)

some_none : {A : Type 0} {P : Type 0} (a : A) (o : Option A) → o ≡ Some a → o ≡ None → P
some_none a o e f = absurd (cc)

module _ (x y : List ℕ × Row) (xs ys : Rows) (s : AreOrdered (x ∷ xs)) (t : AreOrdered (y ∷ ys)) (same : (k : List ℕ) → row_of (x ∷ xs) k ≡ row_of (y ∷ ys) k) where
  same_first_key : x.0 ≡ y.0
  same_first_key =
      elim (slice_cmp nat_cmp x.0 y.0) as (λ r. slice_cmp nat_cmp x.0 y.0 ≡ r → x.0 ≡ y.0) [
        | Less ↦ λ e. some_none x.1 (row_of (x ∷ xs) x.0) (has_first x xs) (same x.0 ∙ none_before x.0 y ys t e)
        | Equal ↦ λ e. exact_bytes x.0 y.0 e
        | Greater ↦ λ e.
            some_none y.1 (row_of (y ∷ ys) y.0) (has_first y ys) (sym (same y.0) ∙ none_before y.0 x xs s (nat_list_cmp_total.antisymm y.0 x.0 ∙ ap ordering_reverse e))
      ] refl

  same_first_row : x.1 ≡ y.1
  same_first_row = same_Some x.1 y.1 (sym (has_first x xs) ∙ same x.0 ∙ ap (row_of (y ∷ ys)) same_first_key ∙ has_first y ys)

  same_behind : (k : List ℕ) → row_of xs k ≡ row_of ys k
  same_behind k =
      elim (is_at (slice_cmp nat_cmp k) x.0) as (λ b. is_at (slice_cmp nat_cmp k) x.0 ≡ b → row_of xs k ≡ row_of ys k) [
        | true ↦ λ e.
            let at_x : k ≡ x.0 = same_keys k x.0 e in
            let at_y : k ≡ y.0 = at_x ∙ same_first_key in
            ap (row_of xs) at_x ∙ none_behind x xs s ∙ sym (ap (row_of ys) at_y ∙ none_behind y ys t)
        | false ↦ λ e.
            sym (lookup_tail (is_at (slice_cmp nat_cmp k)) x xs e) ∙ same k
            ∙ lookup_tail (is_at (slice_cmp nat_cmp k)) y ys (ap (is_at (slice_cmp nat_cmp k)) (sym same_first_key) ∙ e)
      ] refl

pub same_rows : (a b : Rows) → AreOrdered a → AreOrdered b → ((k : List ℕ) → row_of a k ≡ row_of b k) → a ≡ b
same_rows [] [] s t same = refl
same_rows [] (y ∷ ys) s t same = some_none y.1 (row_of (y ∷ ys) y.0) (has_first y ys) (sym (same y.0))
same_rows (x ∷ xs) [] s t same = some_none x.1 (row_of (x ∷ xs) x.0) (has_first x xs) (same x.0)
same_rows (x ∷ xs) (y ∷ ys) s t same =
    let rest = same_rows xs ys (sorted_tail (slice_cmp nat_cmp) x.0 (keys_of xs) s) (sorted_tail (slice_cmp nat_cmp) y.0 (keys_of ys) t) (same_behind x y xs ys s t same) in
    λ i. (same_first_key x y xs ys s t same i, same_first_row x y xs ys s t same i) ∷ rest i
