-- Two lists of stretches walked side by side.
use Rattle.std.proofs.Common.{◌≡◌, ℕ, ◌+◌, ◌-◌, ◌<◌, ◌≤◌, Bool, true, false, cond, ◌&&◌, not, List, [], ◌∷◌, length, drop, Option, Some, None, inl, inr, refl, sym, ap, ap₂, ◌∙◌, subst, arith}
use Rattle.std.proofs.lemmas.Bool.{not_from_false, both_ways, cases_lt}
use Rattle.std.proofs.lemmas.List.{drop_all, drop-drop}
use Rattle.region_map.specs.declared.row.Range.{Range}
use Rattle.region_map.specs.declared.stretch.Stretch.{Stretch}
use Rattle.region_map.specs.Regions.{before, low, below, in_range, is_bound, is_open, ends_by}
use Rattle.region_map.specs.Maps.{row_value, IsRow}
use Rattle.region_map.specs.Rows.{Precede, Puts, Emits, IsZipping, IsZipped, stretch_value, head_value, head_end, sooner, sooner_of}
use Rattle.region_map.proofs.Order.{before_nil, before_self, before_trans, before_back, before_then, before_neither, not_before}
use Rattle.region_map.proofs.Rows.{in_range_parts, none_behind, precede_then}

-- ---- one stretch comes out

-- what is not open has nothing in it
not_open : (from to : Option (List ℕ)) (k : List ℕ) → is_open from to ≡ false → before k (low from) ≡ false → below k to ≡ false
not_open from None k h i = absurd (cc)
not_open from (Some t) k h i = not_before t (low from) k h i

pub never_in : (from to : Option (List ℕ)) (k : List ℕ) → is_open from to ≡ false → in_range from to k ≡ false
never_in from to k h =
    elim (before k (low from)) as (λ b. before k (low from) ≡ b → (not b && below k to) ≡ false) [
      | true ↦ λ e. refl
      | false ↦ λ e. not_open from to k h e
    ] refl

ends_itself : (to : Option (List ℕ)) (bound : List ℕ) → to ≡ Some bound → ends_by to to ≡ true
ends_itself None bound e = absurd (cc)
ends_itself (Some t) bound e = not_from_false _ (before_self t)

module _ {V : Type 0} where
  pub emits_some : (old new : List (Range V)) (from to next : Option (List ℕ)) (value : Option V) (v : V) → value ≡ Some v
      → Puts old (record { from = from; to = to; value = v }) new → is_open from to ≡ true → next ≡ to → is_bound to ≡ true → Emits old from to value new next
  emits_some old new from to next value v e p o n b = record {
    row = p.row;
    at = λ k. p.at k ∙ ap (λ x. cond (in_range from to k) x (row_value old k)) (sym e);
    cursor = n ∙ ap (λ c. cond c to from) (sym o);
    ends = λ bound same. subst (λ x. Precede new x) (sym n) (p.ends to (ends_itself to bound same));
    bound = ap is_bound n ∙ b;
  }

  pub emits_none : (old : List (Range V)) (from to next : Option (List ℕ)) (value : Option V) → value ≡ None
      → IsRow old → Precede old from → is_open from to ≡ true → next ≡ to → is_bound to ≡ true → Emits old from to value old next
  emits_none old from to next value e r h o n b = record {
    row = r;
    at = λ k. nothing k;
    cursor = n ∙ ap (λ c. cond c to from) (sym o);
    ends = λ bound same. subst (λ x. Precede old x) (sym n) (precede_then old from to to h o (ends_itself to bound same));
    bound = ap is_bound n ∙ b;
  }
    where
      nothing : (k : List ℕ) → row_value old k ≡ cond (in_range from to k) value (row_value old k)
      nothing k =
          elim (in_range from to k) as (λ c. in_range from to k ≡ c → row_value old k ≡ cond c value (row_value old k)) [
            | true ↦ λ i. none_behind old from k h (in_range_parts from to k i).0 ∙ sym e
            | false ↦ λ i. refl
          ] refl

  pub emits_empty : (old : List (Range V)) (from to : Option (List ℕ)) (value : Option V)
      → IsRow old → Precede old from → is_bound from ≡ true → is_open from to ≡ false → Emits old from to value old from
  emits_empty old from to value r h b o = record {
    row = r;
    at = λ k. sym (ap (λ c. cond c value (row_value old k)) (never_in from to k o));
    cursor = sym (ap (λ c. cond c to from) o);
    ends = λ bound same. h;
    bound = b;
  }

  -- ---- the stretch that stands first

  pub head_at : (s : List (Stretch V)) (k : List ℕ) → below k (head_end s) ≡ true → stretch_value s k ≡ head_value s
  head_at [] k h = refl
  head_at (s ∷ ss) k h = ap (λ c. cond c s.value (stretch_value ss k)) h

  pub tail_at : (s : List (Stretch V)) (k e : List ℕ) → head_end s ≡ Some e → before k e ≡ false → stretch_value s k ≡ stretch_value (drop 1 s) k
  tail_at [] k e h i = refl
  tail_at (s ∷ ss) k e h i = ap (λ c. cond c s.value (stretch_value ss k)) (ap (below k) h ∙ i)

  pub next_at : (s : List (Stretch V)) (i : ℕ) (k e : List ℕ) → head_end (drop i s) ≡ Some e → before k e ≡ false → stretch_value (drop i s) k ≡ stretch_value (drop (i + 1) s) k
  next_at s i k e h b = tail_at (drop i s) k e h b ∙ ap (λ x. stretch_value x k) (drop-drop 1 i s)

  pub is_within : (s : List (Stretch V)) (i : ℕ) (e : List ℕ) → head_end (drop i s) ≡ Some e → i < length s
  is_within s i e h =
      elim (cases_lt i (length s)) [
        | inl lt ↦ lt
        | inr ge ↦ let f : head_end (drop i s) ≡ None = ap head_end (drop_all i s ge) in absurd (cc)
      ]

-- ---- the sooner of two ends

below_left : (x y : Option (List ℕ)) (k : List ℕ) → below k (sooner_of x y) ≡ true → below k x ≡ true
below_left None None k h = refl
below_left None (Some y) k h = refl
below_left (Some x) None k h = h
below_left (Some x) (Some y) k h =
    elim (before y x) as (λ c. before y x ≡ c → below k (cond c (Some y) (Some x)) ≡ true → before k x ≡ true) [
      | true ↦ λ e i. before_trans k y x i e
      | false ↦ λ e i. i
    ] refl h

below_right : (x y : Option (List ℕ)) (k : List ℕ) → below k (sooner_of x y) ≡ true → below k y ≡ true
below_right None None k h = refl
below_right None (Some y) k h = h
below_right (Some x) None k h = refl
below_right (Some x) (Some y) k h =
    elim (before y x) as (λ c. before y x ≡ c → below k (cond c (Some y) (Some x)) ≡ true → before k y ≡ true) [
      | true ↦ λ e i. i
      | false ↦ λ e i. before_then k x y i e
    ] refl h

-- where the first end is not the later one, it is the sooner one; and so the second
pub left_is : (x y : Option (List ℕ)) (e : List ℕ) → sooner_of x y ≡ Some e → sooner y x ≡ false → x ≡ Some e
left_is x y e h i = ap (λ c. cond c y x) (sym i) ∙ h

pub right_is : (x y : Option (List ℕ)) (e : List ℕ) → sooner_of x y ≡ Some e → sooner x y ≡ false → y ≡ Some e
right_is None None e h i = h
right_is None (Some y) e h i = h
right_is (Some x) None e h i = absurd (cc)
right_is (Some x) (Some y) e h i =
    elim (before y x) as (λ c. before y x ≡ c → cond c (Some y) (Some x) ≡ Some e → Some y ≡ Some e) [
      | true ↦ λ f g. g
      | false ↦ λ f g. ap Some (before_neither y x f i) ∙ g
    ] refl h

not_both : (x y : Option (List ℕ)) → sooner x y ≡ true → sooner y x ≡ true → ⊥
not_both None y h i = cc
not_both (Some x) None h i = cc
not_both (Some x) (Some y) h i = both_ways _ (before_back x y h) i

pub next_within : (m i p : ℕ) (d : Bool) → p ≡ cond d i (i + 1) → i ≤ m → (d ≡ false → i < m) → p ≤ m
next_within m i p true e h f = omega arith
next_within m i p false e h f = let g = f refl in omega arith

next_less : (m n i j p q : ℕ) (d e : Bool) → p ≡ cond d i (i + 1) → q ≡ cond e j (j + 1) → i ≤ m → j ≤ n → (d ≡ false → i < m) → (e ≡ false → j < n)
    → (d ≡ true → e ≡ true → ⊥) → (m - p) + (n - q) < (m - i) + (n - j)
next_less m n i j p q true true a b c d f g x = absurd (x refl refl)
next_less m n i j p q true false a b c d f g x = let w = g refl in omega arith
next_less m n i j p q false true a b c d f g x = let w = f refl in omega arith
next_less m n i j p q false false a b c d f g x = let v = f refl in let w = g refl in omega arith

pub zip_less : (x y : Option (List ℕ)) (m n i j p q : ℕ) → p ≡ cond (sooner y x) i (i + 1) → q ≡ cond (sooner x y) j (j + 1) → i ≤ m → j ≤ n
    → (sooner y x ≡ false → i < m) → (sooner x y ≡ false → j < n) → (m - p) + (n - q) < (m - i) + (n - j)
zip_less x y m n i j p q ep eq h k f g = next_less m n i j p q (sooner y x) (sooner x y) ep eq h k f g (λ u v. not_both x y v u)

-- behind the new bound is behind the old one, and behind the end
cursor_past : (from end next : Option (List ℕ)) (e k : List ℕ) → next ≡ cond (is_open from end) end from → end ≡ Some e → before k (low next) ≡ false
    → (before k (low from) ≡ false) × (before k e ≡ false)
cursor_past from end next e k n s h =
    elim (is_open from end) as (λ c. is_open from end ≡ c → next ≡ cond c end from → (before k (low from) ≡ false) × (before k e ≡ false)) [
      | true ↦ λ o m.
          let far : before k e ≡ false = subst (λ b. before k (low b) ≡ false) (m ∙ s) h in
          let opened : before (low from) e ≡ true = subst (λ b. below (low from) b ≡ true) s o in
          (not_before (low from) e k (before_back _ _ opened) far, far)
      | false ↦ λ o m.
          let far : before k (low from) ≡ false = subst (λ b. before k (low b) ≡ false) m h in
          (far, subst (λ b. below k b ≡ false) s (not_open from end k o far))
    ] refl n

-- before the new bound, and not before the old one, is before the end
cursor_below : (from end next : Option (List ℕ)) (e k : List ℕ) → next ≡ cond (is_open from end) end from → end ≡ Some e → before k (low next) ≡ true
    → before k (low from) ≡ false → below k end ≡ true
cursor_below from end next e k n s h i =
    elim (is_open from end) as (λ c. next ≡ cond c end from → below k end ≡ true) [
      | true ↦ λ m. subst (λ b. below k b ≡ true) (sym s) (subst (λ b. before k (low b) ≡ true) (m ∙ s) h)
      | false ↦ λ m. absurd (both_ways _ i (subst (λ b. before k (low b) ≡ true) m h))
    ] n

-- ---- the walk

module _ {V W X : Type 0} (f : Option V → Option W → Option X) (a : List (Stretch V)) (b : List (Stretch W)) where
  pub zip_begin : (row : List (Range X)) (from : Option (List ℕ)) → row ≡ [] → from ≡ None → IsZipping f a b 0 0 row from
  zip_begin row from e n = subst (λ r. IsZipping f a b 0 0 r from) (sym e) (subst (λ c. IsZipping f a b 0 0 [] c) (sym n) (record {
    row = tt;
    at = λ k h. absurd (both_ways _ (before_nil k) h);
    first = λ k h. refl;
    second = λ k h. refl;
    ends = tt;
    bound = refl;
  }))

  -- in the part that comes out the value is that of the two that stand first
  part_at : (i j : ℕ) (row : List (Range X)) (from end : Option (List ℕ)) (value : Option X) (k : List ℕ) → IsZipping f a b i j row from
      → end ≡ sooner_of (head_end (drop i a)) (head_end (drop j b)) → value ≡ f (head_value (drop i a)) (head_value (drop j b))
      → before k (low from) ≡ false → below k end ≡ true → value ≡ f (stretch_value a k) (stretch_value b k)
  part_at i j row from end value k z e v past under =
      let left = below_left (head_end (drop i a)) (head_end (drop j b)) k (subst (λ x. below k x ≡ true) e under) in
      let right = below_right (head_end (drop i a)) (head_end (drop j b)) k (subst (λ x. below k x ≡ true) e under) in
      v ∙ ap₂ f (sym (z.first k past ∙ head_at (drop i a) k left)) (sym (z.second k past ∙ head_at (drop j b) k right))

  -- the row after a part came out
  whole_at : (i j : ℕ) (row new : List (Range X)) (from end next : Option (List ℕ)) (value : Option X) (k : List ℕ) → IsZipping f a b i j row from
      → end ≡ sooner_of (head_end (drop i a)) (head_end (drop j b)) → value ≡ f (head_value (drop i a)) (head_value (drop j b))
      → Emits row from end value new next → (before k (low from) ≡ false → below k end ≡ true) → row_value new k ≡ f (stretch_value a k) (stretch_value b k)
  whole_at i j row new from end next value k z e v m under =
      m.at k ∙ elim (before k (low from)) as (λ c. before k (low from) ≡ c → (c ≡ false → below k end ≡ true)
      → cond (not c && below k end) value (row_value row k) ≡ f (stretch_value a k) (stretch_value b k)) [
        | true ↦ λ g u. z.at k g
        | false ↦ λ g u. ap (λ d. cond d value (row_value row k)) (u refl) ∙ part_at i j row from end value k z e v g (u refl)
      ] refl under

  pub zip_end : (i j : ℕ) (row new : List (Range X)) (from end next : Option (List ℕ)) (value : Option X) → IsZipping f a b i j row from
      → end ≡ sooner_of (head_end (drop i a)) (head_end (drop j b)) → value ≡ f (head_value (drop i a)) (head_value (drop j b))
      → Emits row from end value new next → end ≡ None → IsZipped f a b new
  zip_end i j row new from end next value z e v m n = record {
    row = m.row;
    at = λ k. whole_at i j row new from end next value k z e v m (λ _. ap (below k) n);
  }

  pub zip_step : (i j p q : ℕ) (row new : List (Range X)) (from end next : Option (List ℕ)) (value : Option X) (bound : List ℕ) → IsZipping f a b i j row from
      → end ≡ sooner_of (head_end (drop i a)) (head_end (drop j b)) → value ≡ f (head_value (drop i a)) (head_value (drop j b))
      → Emits row from end value new next → end ≡ Some bound
      → p ≡ cond (sooner (head_end (drop j b)) (head_end (drop i a))) i (i + 1) → q ≡ cond (sooner (head_end (drop i a)) (head_end (drop j b))) j (j + 1)
      → IsZipping f a b p q new next
  zip_step i j p q row new from end next value bound z e v m n ep eq =
      let here : sooner_of (head_end (drop i a)) (head_end (drop j b)) ≡ Some bound = sym e ∙ n in
      record {
        row = m.row;
        at = λ k h. whole_at i j row new from end next value k z e v m (cursor_below from end next bound k m.cursor n h);
        first = λ k h. let c = cursor_past from end next bound k m.cursor n h in
            z.first k c.0 ∙ subst (λ x. stretch_value (drop i a) k ≡ stretch_value (drop x a) k) (sym ep)
            (elim (sooner (head_end (drop j b)) (head_end (drop i a))) as (λ d. sooner (head_end (drop j b)) (head_end (drop i a)) ≡ d → stretch_value (drop i a) k ≡ stretch_value (drop (cond d i (i + 1)) a) k) [
              | true ↦ λ s. refl
              | false ↦ λ s. next_at a i k bound (left_is _ _ bound here s) c.1
            ] refl);
        second = λ k h. let c = cursor_past from end next bound k m.cursor n h in
            z.second k c.0 ∙ subst (λ x. stretch_value (drop j b) k ≡ stretch_value (drop x b) k) (sym eq)
            (elim (sooner (head_end (drop i a)) (head_end (drop j b))) as (λ d. sooner (head_end (drop i a)) (head_end (drop j b)) ≡ d → stretch_value (drop j b) k ≡ stretch_value (drop (cond d j (j + 1)) b) k) [
              | true ↦ λ s. refl
              | false ↦ λ s. next_at b j k bound (right_is _ _ bound here s) c.1
            ] refl);
        ends = m.ends bound n;
        bound = m.bound;
      }
