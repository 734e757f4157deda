-- Keys in their order, with others among them.
use Rattle.std.proofs.Common.{◌≡◌, ℕ, zero, suc, ◌≤◌, Bool, true, false, cond, ◌||◌, List, [], ◌∷◌, ◌++◌, take, filter, Option, refl, sym, ap, ◌∙◌, subst, arith, append_assoc}
use Rattle.std.specs.declared.cmp.Ordering.{Ordering}
use Rattle.std.specs.declared.cmp.Ordering.TheVariants.{Less, Equal, Greater}
use Rattle.std.specs.List.{AllByRecursion, list_any}
use Rattle.std.specs.List.Sorted.{IsStrictlySortedBy}
use Rattle.std.specs.Ordering.{nat_cmp, match_ordering, ordering_reverse, is_lt}
use Rattle.std.specs.BTreeSet.{insert_key}
use Rattle.std.specs.Map.{keys_of}
use Rattle.std.specs.Cmp.Lexicographic.{slice_cmp, texts_ties}
use Rattle.std.proofs.lemmas.Bool.{and_parts}
use Rattle.std.proofs.lemmas.Cmp.{nat_list_cmp_total}
use Rattle.std.proofs.lemmas.Map.Keys.{sorted_head, sorted_tail}
use Rattle.std.proofs.lemmas.Map.Lookups.{exact_bytes}
use Rattle.region_map.specs.declared.region.Region.{Region}
use Rattle.region_map.specs.Regions.{before, below}
use Rattle.region_map.specs.Maps.{Pieced}
use Rattle.region_map.proofs.Order.{before_self, before_trans}
use Rattle.store_api.specs.declared.Row.{Row}
use Rattle.store_api.specs.Rows.{Rows, AreOrdered, is_same_key, has_key, is_newer, newer_keys, key_is_newer}
use Rattle.store_api.proofs.AtKeys.{same_keys}
use Rattle.store_api.proofs.Maps.{take-take}
use Rattle.store_api.proofs.Scans.{newer_keys-has, ordered-filter}
use Rattle.backfill_items.specs.Changed.{with_keys, chunk_keys, end_of}

abbrev Keys : Type 0
Keys = List (List ℕ)

abbrev order : List ℕ → List ℕ → Ordering
order = slice_cmp nat_cmp

abbrev insert : Keys → List ℕ → Keys
insert = insert_key (slice_cmp nat_cmp)

-- ---- a set that is filled from behind

insert-front : (front : Keys) (k : List ℕ) (ks : Keys) → IsStrictlySortedBy order (front ++ k ∷ ks) → insert ks k ≡ k ∷ ks
insert-front [] k [] s = refl
insert-front [] k (x ∷ xs) s = ap (λ r. match_ordering r (k ∷ x ∷ xs) (x ∷ xs) (x ∷ insert xs k)) (sorted_head order k (x ∷ xs) s).0
insert-front (y ∷ ys) k ks s = insert-front ys k ks (sorted_tail order y (ys ++ k ∷ ks) s)

pub pop-insert : (all from left set : Keys) (k : List ℕ) → IsStrictlySortedBy order all → from ++ set ≡ all → from ≡ left ++ k ∷ [] → left ++ insert set k ≡ all
pop-insert all from left set k s e p =
    let whole : left ++ k ∷ set ≡ all = sym (append_assoc left (k ∷ []) set) ∙ ap (λ xs. xs ++ set) (sym p) ∙ e in
    ap (λ xs. left ++ xs) (insert-front left k set (subst (IsStrictlySortedBy order) (sym whole) s)) ∙ whole

-- ---- the front of a set depends on the front of the keys to which others were added

take_both : (n : ℕ) (x : List ℕ) (xs : Keys) → take n (x ∷ xs) ≡ take n (x ∷ take n xs)
take_both zero x xs = refl
take_both (suc n) x xs = ap (λ ys. x ∷ ys) (let le : n ≤ suc n = omega arith in take-take n (suc n) xs le)

take-insert : (n : ℕ) (xs : Keys) (k : List ℕ) → take n (insert xs k) ≡ take n (insert (take n xs) k)
take-insert zero xs k = refl
take-insert (suc n) [] k = refl
take-insert (suc n) (x ∷ xs) k =
    elim (order k x) as (λ r. take (suc n) (match_ordering r (k ∷ x ∷ xs) (x ∷ xs) (x ∷ insert xs k)) ≡ take (suc n) (match_ordering r (k ∷ x ∷ take n xs) (x ∷ take n xs) (x ∷ insert (take n xs) k))) [
      | Less ↦ ap (λ ys. k ∷ ys) (take_both n x xs)
      | Equal ↦ ap (λ ys. x ∷ ys) (let le : n ≤ n = omega arith in take-take n n xs le)
      | Greater ↦ ap (λ ys. x ∷ ys) (take-insert n xs k)
    ]

pub take-with_keys : (n : ℕ) (xs ys ks : Keys) → take n xs ≡ take n ys → take n (with_keys xs ks) ≡ take n (with_keys ys ks)
take-with_keys n xs ys [] e = e
take-with_keys n xs ys (k ∷ ks) e =
    take-with_keys n (insert xs k) (insert ys k) ks (take-insert n xs k ∙ ap (λ zs. take n (insert zs k)) e ∙ sym (take-insert n ys k))

pub take-with_front : (n : ℕ) (xs ks : Keys) → take n (with_keys (take n xs) ks) ≡ take n (with_keys xs ks)
take-with_front n xs ks = take-with_keys n (take n xs) xs ks (let le : n ≤ n = omega arith in sym (take-take n n xs le))

-- ---- order

all_insert : (P : List ℕ → Type 0) (xs : Keys) (k : List ℕ) → AllByRecursion P xs → P k → AllByRecursion P (insert xs k)
all_insert P [] k all p = (p, tt)
all_insert P (x ∷ xs) k all p =
    elim (order k x) as (λ r. AllByRecursion P (match_ordering r (k ∷ x ∷ xs) (x ∷ xs) (x ∷ insert xs k))) [
      | Less ↦ (p, all)
      | Equal ↦ all
      | Greater ↦ (all.0, all_insert P xs k all.1 p)
    ]

pub all_with_keys : (P : List ℕ → Type 0) (xs ks : Keys) → AllByRecursion P xs → AllByRecursion P ks → AllByRecursion P (with_keys xs ks)
all_with_keys P xs [] all more = all
all_with_keys P xs (k ∷ ks) all more = all_with_keys P (insert xs k) ks (all_insert P xs k all more.0) more.1

pub all_taken : (P : List ℕ → Type 0) (n : ℕ) (xs : Keys) → AllByRecursion P xs → AllByRecursion P (take n xs)
all_taken P zero xs all = tt
all_taken P (suc n) [] all = tt
all_taken P (suc n) (x ∷ xs) all = (all.0, all_taken P n xs all.1)

precedes_later : (a b : List ℕ) (xs : Keys) → order a b ≡ Less → AllByRecursion (λ y. order b y ≡ Less) xs → AllByRecursion (λ y. order a y ≡ Less) xs
precedes_later a b [] lt all = tt
precedes_later a b (x ∷ xs) lt all = (nat_list_cmp_total.trans a b x lt all.0, precedes_later a b xs lt all.1)

turned : (x y : Ordering) → y ≡ ordering_reverse x → x ≡ Greater → y ≡ Less
turned x y e g = e ∙ ap ordering_reverse g

sorted_insert : (xs : Keys) (k : List ℕ) → IsStrictlySortedBy order xs → IsStrictlySortedBy order (insert xs k)
unfolding IsStrictlySortedBy
sorted_insert [] k s = (tt, tt)
sorted_insert (x ∷ xs) k s =
    elim (order k x) as (λ r. order k x ≡ r → IsStrictlySortedBy order (match_ordering r (k ∷ x ∷ xs) (x ∷ xs) (x ∷ insert xs k))) [
      | Less ↦ λ is. ((is, precedes_later k x xs is s.0), s)
      | Equal ↦ λ is. s
      | Greater ↦ λ is. (all_insert (λ y. order x y ≡ Less) xs k s.0 (turned (order k x) _ (nat_list_cmp_total.antisymm x k) is), sorted_insert xs k s.1)
    ] refl

pub sorted_with_keys : (xs ks : Keys) → IsStrictlySortedBy order xs → IsStrictlySortedBy order (with_keys xs ks)
sorted_with_keys xs [] s = s
sorted_with_keys xs (k ∷ ks) s = sorted_with_keys (insert xs k) ks (sorted_insert xs k s)

pub sorted_taken : (n : ℕ) (xs : Keys) → IsStrictlySortedBy order xs → IsStrictlySortedBy order (take n xs)
unfolding IsStrictlySortedBy
sorted_taken zero xs s = tt
sorted_taken (suc n) [] s = tt
sorted_taken (suc n) (x ∷ xs) s = (all_taken (λ y. order x y ≡ Less) n xs s.0, sorted_taken n xs s.1)

-- ---- which keys are there

twice : (b r : Bool) → (b || r) ≡ (b || (b || r))
twice true r = refl
twice false r = refl

swapped : (a b r : Bool) → (a || (b || r)) ≡ (b || (a || r))
swapped true true r = refl
swapped true false r = refl
swapped false true r = refl
swapped false false r = refl

either_first : (a b r : Bool) → (a || (b || r)) ≡ ((b || a) || r)
either_first true true r = refl
either_first true false r = refl
either_first false true r = refl
either_first false false r = refl

any_insert : (key : List ℕ) (xs : Keys) (k : List ℕ) → list_any (is_same_key key) (insert xs k) ≡ (is_same_key key k || list_any (is_same_key key) xs)
any_insert key [] k = refl
any_insert key (x ∷ xs) k =
    elim (order k x) as (λ r. order k x ≡ r → list_any (is_same_key key) (match_ordering r (k ∷ x ∷ xs) (x ∷ xs) (x ∷ insert xs k)) ≡ (is_same_key key k || (is_same_key key x || list_any (is_same_key key) xs))) [
      | Less ↦ λ is. refl
      | Equal ↦ λ is.
          twice (is_same_key key x) (list_any (is_same_key key) xs)
          ∙ ap (λ y. is_same_key key y || (is_same_key key x || list_any (is_same_key key) xs)) (sym (exact_bytes k x is))
      | Greater ↦ λ is.
          ap (λ b. is_same_key key x || b) (any_insert key xs k) ∙ swapped (is_same_key key x) (is_same_key key k) (list_any (is_same_key key) xs)
    ] refl

any_with_keys : (key : List ℕ) (xs ks : Keys) → list_any (is_same_key key) (with_keys xs ks) ≡ (list_any (is_same_key key) ks || list_any (is_same_key key) xs)
any_with_keys key xs [] = refl
any_with_keys key xs (k ∷ ks) =
    any_with_keys key (insert xs k) ks ∙ ap (λ b. list_any (is_same_key key) ks || b) (any_insert key xs k)
    ∙ either_first (list_any (is_same_key key) ks) (is_same_key key k) (list_any (is_same_key key) xs)

pub sorted_newer : (part : Region) (above : Pieced ℕ) (rows : Rows) → AreOrdered rows → IsStrictlySortedBy order (newer_keys part above rows)
sorted_newer part above rows o = ordered-filter (is_newer part above) rows o

-- ---- below its end a cut list is whole

less_before : (a b : List ℕ) → order a b ≡ Less → before a b ≡ true
unfolding before
less_before a b e = ap is_lt e

all_before : (key x : List ℕ) (xs : Keys) → before key x ≡ true → AllByRecursion (λ y. order x y ≡ Less) xs → AllByRecursion (λ y. before key y ≡ true) xs
all_before key x [] h all = tt
all_before key x (y ∷ ys) h all = (before_trans key x y h (less_before x y all.0), all_before key x ys h all.1)

other_before : (key x : List ℕ) → before key x ≡ true → is_same_key key x ≡ false
other_before key x h =
    elim (is_same_key key x) as (λ b. is_same_key key x ≡ b → b ≡ false) [
      | true ↦ λ e. let same : key ≡ x = same_keys key x (sym (texts_ties key x) ∙ e) in sym h ∙ ap (λ y. before y x) same ∙ before_self x
      | false ↦ λ e. refl
    ] refl

none_before : (key : List ℕ) (xs : Keys) → AllByRecursion (λ y. before key y ≡ true) xs → list_any (is_same_key key) xs ≡ false
none_before key [] all = refl
none_before key (x ∷ xs) all = ap (λ b. b || list_any (is_same_key key) xs) (other_before key x all.0) ∙ none_before key xs all.1

cut_has : (n : ℕ) (xs : Keys) (to : Option (List ℕ)) (key : List ℕ) → IsStrictlySortedBy order xs → below key (end_of n xs to) ≡ true → list_any (is_same_key key) (take n xs) ≡ list_any (is_same_key key) xs
cut_has zero [] to key s h = refl
cut_has zero (x ∷ xs) to key s h = sym (none_before key (x ∷ xs) (h, all_before key x xs h (sorted_head order x xs s)))
cut_has (suc n) [] to key s h = refl
cut_has (suc n) (x ∷ xs) to key s h = ap (λ b. is_same_key key x || b) (cut_has n xs to key (sorted_tail order x xs s) h)

pub pre_found : (part : Region) (above : Pieced ℕ) (rows : Rows) (n : ℕ) (key : List ℕ) → AreOrdered rows → below key (end_of n (newer_keys part above rows) part.to) ≡ true
    → list_any (is_same_key key) (take n (newer_keys part above rows)) ≡ key_is_newer part above rows key
pre_found part above rows n key o h = cut_has n (newer_keys part above rows) part.to key (sorted_newer part above rows o) h ∙ newer_keys-has part above rows key o

pub sorted_chunk : (part : Region) (above : Pieced ℕ) (rows : Rows) (pre : Keys) → AreOrdered rows → IsStrictlySortedBy order (chunk_keys part above rows pre)
sorted_chunk part above rows pre o = sorted_with_keys (newer_keys part above rows) pre (sorted_newer part above rows o)

pub chunk_found : (part : Region) (above : Pieced ℕ) (rows : Rows) (pre : Keys) (n : ℕ) (key : List ℕ) → AreOrdered rows → below key (end_of n (chunk_keys part above rows pre) part.to) ≡ true
    → list_any (is_same_key key) (take n (chunk_keys part above rows pre)) ≡ (list_any (is_same_key key) pre || key_is_newer part above rows key)
chunk_found part above rows pre n key o h =
    cut_has n (chunk_keys part above rows pre) part.to key (sorted_chunk part above rows pre o) h
    ∙ any_with_keys key (newer_keys part above rows) pre
    ∙ ap (λ b. list_any (is_same_key key) pre || b) (newer_keys-has part above rows key o)

-- ---- all of a cut list lies below its end, and in the part

end_above : (x : List ℕ) (n : ℕ) (xs : Keys) (to : Option (List ℕ)) → AllByRecursion (λ y. order x y ≡ Less) xs → below x to ≡ true → below x (end_of n xs to) ≡ true
end_above x zero [] to all h = h
end_above x zero (y ∷ ys) to all h = less_before x y all.0
end_above x (suc n) [] to all h = h
end_above x (suc n) (y ∷ ys) to all h = end_above x n ys to all.1 h

cut_below : (n : ℕ) (xs : Keys) (to : Option (List ℕ)) → IsStrictlySortedBy order xs → AllByRecursion (λ y. below y to ≡ true) xs → AllByRecursion (λ y. below y (end_of n xs to) ≡ true) (take n xs)
cut_below zero xs to s all = tt
cut_below (suc n) [] to s all = tt
cut_below (suc n) (x ∷ xs) to s all = (end_above x n xs to (sorted_head order x xs s) all.0, cut_below n xs to (sorted_tail order x xs s) all.1)

all_filtered : (P : List ℕ → Type 0) (p : List ℕ × Row → Bool) (rows : Rows) → ((e : List ℕ × Row) → p e ≡ true → P e.0) → AllByRecursion P (keys_of (filter p rows))
all_filtered P p [] h = tt
all_filtered P p (e ∷ es) h =
    elim (p e) as (λ b. p e ≡ b → AllByRecursion P (keys_of (cond b (e ∷ filter p es) (filter p es)))) [ true ↦ λ is. (h e is, all_filtered P p es h) | false ↦ λ is. all_filtered P p es h ] refl

pub newer_inside : (part : Region) (above : Pieced ℕ) (rows : Rows) → AllByRecursion (λ key. has_key part above.hashes key ≡ true) (newer_keys part above rows)
newer_inside part above rows = all_filtered (λ key. has_key part above.hashes key ≡ true) (is_newer part above) rows (λ e is. (and_parts _ _ is).0)

inside_below : (part : Region) (hashes : ℕ) (xs : Keys) → AllByRecursion (λ key. has_key part hashes key ≡ true) xs → AllByRecursion (λ key. below key part.to ≡ true) xs
inside_below part hashes [] all = tt
inside_below part hashes (x ∷ xs) all = ((and_parts _ _ (and_parts _ _ all.0).1).1, inside_below part hashes xs all.1)

pub pre_within : (part : Region) (above : Pieced ℕ) (rows : Rows) (n : ℕ) → AreOrdered rows
    → AllByRecursion (λ key. below key (end_of n (newer_keys part above rows) part.to) ≡ true) (take n (newer_keys part above rows))
pre_within part above rows n o =
    cut_below n (newer_keys part above rows) part.to (sorted_newer part above rows o) (inside_below part above.hashes (newer_keys part above rows) (newer_inside part above rows))

pub chunk_inside : (part : Region) (above : Pieced ℕ) (rows : Rows) (pre : Keys) → AllByRecursion (λ key. has_key part above.hashes key ≡ true) pre
    → AllByRecursion (λ key. has_key part above.hashes key ≡ true) (chunk_keys part above rows pre)
chunk_inside part above rows pre all = all_with_keys (λ key. has_key part above.hashes key ≡ true) (newer_keys part above rows) pre (newer_inside part above rows) all

pub chunk_within : (part : Region) (above : Pieced ℕ) (rows : Rows) (pre : Keys) (n : ℕ) → AreOrdered rows → AllByRecursion (λ key. has_key part above.hashes key ≡ true) pre
    → AllByRecursion (λ key. below key (end_of n (chunk_keys part above rows pre) part.to) ≡ true) (take n (chunk_keys part above rows pre))
chunk_within part above rows pre n o all =
    cut_below n (chunk_keys part above rows pre) part.to (sorted_chunk part above rows pre o) (inside_below part above.hashes (chunk_keys part above rows pre) (chunk_inside part above rows pre all))
