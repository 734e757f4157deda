-- What the lists of members are after each operation on the bits.
use Rattle.std.proofs.Common.{◌≡◌, ◌≢◌, ◌==◌, ℕ, zero, suc, ◌+◌, ◌*◌, ◌/◌, ◌%◌, ◌^◌, ◌<◌, ◌≤◌, Bool, true, false, cond, not, ◌&&◌, nat_lt, List, [], ◌∷◌, ◌++◌, length, map, filter, Some, refl, sym, ap, ◌∙◌, subst, inl, inr, le_refl, arith, add-zero, add-one, mod-lt, lit<, pow-suc, shr-shr}
use lib.Count.{ones, ones_in, ones_step, ones-le}
use Rattle.std.proofs.lemmas.Bool.{eq-eqb, ne_eqb, lt-ltb, le-ltb, cases_eq}
use Rattle.region_map.specs.declared.id.NodeId.{NodeId}
use Rattle.std.proofs.Common.{ap₂, zero-add, append-nil, zero-le, zero-mul, one-mul, pow_pos, bit_and, bit_or, w64, min, count_by, div-one, lt_of_le_of_lt, pos_of_ne-zero, mod-eq_of_lt, ◌-◌}
use Rattle.std.proofs.Math.Pow.{pow-lt}
use Rattle.std.proofs.lemmas.Nat.{and_le_r}
use Rattle.std.proofs.lemmas.Nat.Bits.{bit_at-zero, and_pow, bit_at_set_same, bit_at_set_other, bit_at_and, bit_at_not, bit_at-trailing_zeros, bit_at_clear_same, bit_at_clear_other}
use Rattle.std.proofs.lemmas.List.{map_push, length-map}
use Rattle.std.proofs.lemmas.List.Sums.{length-filter}
use Rattle.std.specs.Int.{bit_at, bit_not, trailing_zeros}
use Rattle.region_map.specs.Bits.{numbers_where, is_set, members}
use Rattle.region_map.specs.Nodes.{has, with_member, without, first, node_id}

-- a member below q, or above it, is another
has_below : (p : ℕ → Bool) (k n q : ℕ) → q < k → has (numbers_where p k n) q ≡ false
unfolding numbers_where
has_below p k zero q h = refl
has_below p k (suc n) q h =
    let rest = has_below p (suc k) n q (omega arith) in
    let ne : k == q ≡ false = ne_eqb k q (λ e. omega arith) in
    elim (p k) as (λ c. has (cond c (k ∷ numbers_where p (suc k) n) (numbers_where p (suc k) n)) q ≡ false) [ true ↦ rw (ne, rest) | false ↦ rest ]

pub has_above : (p : ℕ → Bool) (k n q : ℕ) → k + n ≤ q → has (numbers_where p k n) q ≡ false
unfolding numbers_where
has_above p k zero q h = refl
has_above p k (suc n) q h =
    let rest = has_above p (suc k) n q (omega arith) in
    let ne : k == q ≡ false = ne_eqb k q (λ e. omega arith) in
    elim (p k) as (λ c. has (cond c (k ∷ numbers_where p (suc k) n) (numbers_where p (suc k) n)) q ≡ false) [ true ↦ rw (ne, rest) | false ↦ rest ]

pub has_inside : (p : ℕ → Bool) (k n q : ℕ) → k ≤ q → q < k + n → has (numbers_where p k n) q ≡ p q
unfolding numbers_where
has_inside p k zero q h i = absurd (omega arith)
has_inside p k (suc n) q h i =
    elim (cases_eq k q) [
      | inl e ↦
          let yes : k == q ≡ true = eq-eqb k q e in
          let below : has (numbers_where p (suc k) n) q ≡ false = has_below p (suc k) n q (omega arith) in
          subst (λ v. has (cond (p k) (k ∷ numbers_where p (suc k) n) (numbers_where p (suc k) n)) q ≡ p v) e
          (elim (p k) as (λ c. has (cond c (k ∷ numbers_where p (suc k) n) (numbers_where p (suc k) n)) q ≡ c) [ true ↦ rw yes | false ↦ below ])
      | inr ne ↦
          let no : k == q ≡ false = ne_eqb k q ne in
          let rest = has_inside p (suc k) n q (omega arith) (omega arith) in
          elim (p k) as (λ c. has (cond c (k ∷ numbers_where p (suc k) n) (numbers_where p (suc k) n)) q ≡ p q) [ true ↦ rw (no, rest) | false ↦ rest ]
    ]

-- tests that agree from k on give the same numbers
pub same_where : (p r : ℕ → Bool) (k n : ℕ) → ((x : ℕ) → k ≤ x → x < k + n → p x ≡ r x) → numbers_where p k n ≡ numbers_where r k n
unfolding numbers_where
same_where p r k zero h = refl
same_where p r k (suc n) h =
    rw (h k (le_refl k) (omega arith), same_where p r (suc k) n (λ x a b. h x (omega arith) (omega arith)))

-- a number below all others goes first
with_below : (p : ℕ → Bool) (k n q : ℕ) → q < k → with_member (numbers_where p k n) q ≡ q ∷ numbers_where p k n
unfolding numbers_where
with_below p k zero q h = refl
with_below p k (suc n) q h =
    let rest = with_below p (suc k) n q (omega arith) in
    let lt : nat_lt q k ≡ true = lt-ltb q k h in
    elim (p k) as (λ c. with_member (cond c (k ∷ numbers_where p (suc k) n) (numbers_where p (suc k) n)) q ≡ q ∷ cond c (k ∷ numbers_where p (suc k) n) (numbers_where p (suc k) n)) [ true ↦ rw lt | false ↦ rest ]

-- one more number
pub where-with : (p r : ℕ → Bool) (k n q : ℕ) → r q ≡ true → ((x : ℕ) → x ≢ q → r x ≡ p x) → k ≤ q → q < k + n → numbers_where r k n ≡ with_member (numbers_where p k n) q
unfolding numbers_where
where-with p r k zero q at others h i = absurd (omega arith)
where-with p r k (suc n) q at others h i =
    elim (cases_eq k q) [
      | inl e ↦
          let at' : r k ≡ true = ap r e ∙ at in
          let later : numbers_where r (suc k) n ≡ numbers_where p (suc k) n = same_where r p (suc k) n (λ x a b. others x (λ f. omega arith)) in
          let no : nat_lt q k ≡ false = le-ltb q k (omega arith) in
          let yes : k == q ≡ true = eq-eqb k q e in
          let first : with_member (numbers_where p (suc k) n) q ≡ q ∷ numbers_where p (suc k) n = with_below p (suc k) n q (omega arith) in
          rw (at', later)
          (elim (p k) as (λ c. k ∷ numbers_where p (suc k) n ≡ with_member (cond c (k ∷ numbers_where p (suc k) n) (numbers_where p (suc k) n)) q) [
            | true ↦ rw (no, yes)
            | false ↦ rw (first, e)
          ])
      | inr ne ↦
          let rest = where-with p r (suc k) n q at others (omega arith) (omega arith) in
          let no : nat_lt q k ≡ false = le-ltb q k (omega arith) in
          let no' : k == q ≡ false = ne_eqb k q ne in
          rw (others k ne, rest)
          (elim (p k) as (λ c. cond c (k ∷ with_member (numbers_where p (suc k) n) q) (with_member (numbers_where p (suc k) n) q) ≡ with_member (cond c (k ∷ numbers_where p (suc k) n) (numbers_where p (suc k) n)) q) [
            | true ↦ rw (no, no')
            | false ↦ refl
          ])
    ]

-- those that pass two tests
pub where-filter : (p q r : ℕ → Bool) (k n : ℕ) → ((x : ℕ) → k ≤ x → x < k + n → r x ≡ (p x && q x)) → numbers_where r k n ≡ filter q (numbers_where p k n)
unfolding numbers_where
where-filter p q r k zero h = refl
where-filter p q r k (suc n) h =
    rw (h k (le_refl k) (omega arith), where-filter p q r (suc k) n (λ x a b. h x (omega arith) (omega arith)))
    (elim (p k) as (λ c. cond (c && q k) (k ∷ filter q (numbers_where p (suc k) n)) (filter q (numbers_where p (suc k) n)) ≡ filter q (cond c (k ∷ numbers_where p (suc k) n) (numbers_where p (suc k) n))) [
      | true ↦ refl
      | false ↦ refl
    ])

-- the next number
pub where_push : (p : ℕ → Bool) (k n : ℕ) → numbers_where p k (n + 1) ≡ numbers_where p k n ++ cond (p (k + n)) ((k + n) ∷ []) []
unfolding numbers_where
where_push p k zero = rw add-zero
where_push p k (suc n) =
    let later : suc k + n ≡ k + suc n = omega arith in
    let rest = rw later at (where_push p (suc k) n) in
    let more : suc n + 1 ≡ suc (n + 1) = omega arith in
    rw (more, rest)
    (elim (p k) as (λ c. cond c (k ∷ (numbers_where p (suc k) n ++ cond (p (k + suc n)) ((k + suc n) ∷ []) [])) (numbers_where p (suc k) n ++ cond (p (k + suc n)) ((k + suc n) ∷ []) []) ≡ cond c (k ∷ numbers_where p (suc k) n) (numbers_where p (suc k) n) ++ cond (p (k + suc n)) ((k + suc n) ∷ []) []) [ true ↦ refl | false ↦ refl ])

pub none_where : (p : ℕ → Bool) (k n : ℕ) → ((x : ℕ) → k ≤ x → x < k + n → p x ≡ false) → numbers_where p k n ≡ []
unfolding numbers_where
none_where p k zero h = refl
none_where p k (suc n) h = rw (h k (le_refl k) (omega arith)) (none_where p (suc k) n (λ x a b. h x (omega arith) (omega arith)))

pub first_where : (p : ℕ → Bool) (k n q : ℕ) → k ≤ q → q < k + n → p q ≡ true → ((x : ℕ) → k ≤ x → x < q → p x ≡ false) → first (numbers_where p k n) ≡ Some (node_id q)
unfolding numbers_where
first_where p k zero q h i at before = absurd (omega arith)
first_where p k (suc n) q h i at before =
    elim (cases_eq k q) [
      | inl e ↦ let at' : p k ≡ true = ap p e ∙ at in rw at' (ap (λ v. Some (node_id v)) e)
      | inr ne ↦ rw (before k (le_refl k) (omega arith)) (first_where p (suc k) n q (omega arith) (omega arith) at (λ x a b. before x (omega arith) b))
    ]

length-cond : (c : Bool) (k : ℕ) (ks : List ℕ) → length (cond c (k ∷ ks) ks) ≡ cond c 1 0 + length ks
length-cond true k ks = omega arith
length-cond false k ks = omega arith

digit : (x : ℕ) → x < 2 → cond (x == 1) 1 0 ≡ x
digit zero h = refl
digit (suc zero) h = refl
digit (suc (suc x)) h = absurd (omega arith)

-- how many bits are set
pub length-where : (b k n : ℕ) → b / 2 ^ k < 2 ^ n → length (numbers_where (is_set b) k n) ≡ ones (b / 2 ^ k)
unfolding numbers_where ones ones_in
length-where b k zero h = let e : b / 2 ^ k ≡ 0 = omega arith in rw e
length-where b k (suc n) h =
    let half : b / 2 ^ k / 2 ≡ b / 2 ^ suc k = shr-shr b k 1 ∙ ap (λ m. b / 2 ^ m) (add-one k) in
    let rest = length-where b (suc k) n (omega (arith, half, pow-suc 2 n)) in
    let l = length-cond (is_set b k) k (numbers_where (is_set b) (suc k) n) in
    let d = digit (bit_at b k) (mod-lt _ (lit< tt)) in
    let s = ones_step (b / 2 ^ k) in
    omega (arith, rest, l, d, s, ap ones half)

-- ---- what each method of a set does to the members

pub members-zero : members 0 ≡ []
unfolding members
members-zero = none_where (is_set 0) 0 64 (λ x a b. ap (λ v. v == 1) (bit_at-zero x))

pub has-members : (b q : ℕ) → q < 64 → has (members b) q ≡ is_set b q
unfolding members
has-members b q h = has_inside (is_set b) 0 64 q zero-le h

pub has-members_above : (b q : ℕ) → 64 ≤ q → has (members b) q ≡ false
unfolding members
has-members_above b q h = has_above (is_set b) 0 64 q h

shifted : (q : ℕ) → q < 64 → 1 * 2 ^ q % 2 ^ 64 ≡ 2 ^ q
shifted q h = rw one-mul (mod-eq_of_lt (pow-lt h))

nonzero : (x m : ℕ) → x < 2 → 0 < m → not (x * m == 0) ≡ (x == 1)
nonzero zero m h p = rw zero-mul
nonzero (suc zero) m h p = rw one-mul (let ne : m == 0 ≡ false = ne_eqb m 0 (λ e. omega arith) in rw ne)
nonzero (suc (suc x)) m h p = absurd (omega arith)

-- the test `bits & (1 << q) != 0`
pub is_set-test : (b q : ℕ) → q < 64 → not (bit_and b (1 * 2 ^ q % 2 ^ 64) == 0) ≡ is_set b q
is_set-test b q h =
    ap (λ v. not (bit_and b v == 0)) (shifted q h) ∙ ap (λ v. not (v == 0)) (and_pow b q)
    ∙ nonzero (bit_at b q) (2 ^ q) (mod-lt _ (lit< tt)) (pow_pos q)

pub has-test : (b q : ℕ) → q < 64 → not (bit_and b (1 * 2 ^ q % 2 ^ 64) == 0) ≡ has (members b) q
has-test b q h = is_set-test b q h ∙ sym (has-members b q h)

pub members_with : (b q : ℕ) → q < 64 → members (bit_or b (1 * 2 ^ q % 2 ^ 64)) ≡ with_member (members b) q
unfolding members
members_with b q h =
    where-with (is_set b) (is_set (bit_or b (1 * 2 ^ q % 2 ^ 64))) 0 64 q
    (ap (λ v. v == 1) (bit_at_set_same w64 b q h))
    (λ x ne. ap (λ v. v == 1) (bit_at_set_other w64 b q h x ne)) zero-le h

clears : (x y : ℕ) → x < 2 → y < 2 → (min x (1 - y) == 1) ≡ ((x == 1) && not (y == 1))
clears zero y h i = let e : min zero (1 - y) ≡ 0 = omega arith in rw e
clears (suc zero) zero h i = refl
clears (suc zero) (suc zero) h i = refl
clears (suc zero) (suc (suc y)) h i = absurd (omega arith)
clears (suc (suc x)) y h i = absurd (omega arith)

pub members_without : (a b : ℕ) → b < 2 ^ 64 → members (bit_and a (bit_not w64 b)) ≡ without (members a) (members b)
unfolding members
members_without a b h =
    where-filter (is_set a) (λ k. not (has (members b) k)) (is_set (bit_and a (bit_not w64 b))) 0 64
    (λ x l u.
    ap (λ v. v == 1) (bit_at_and a (bit_not w64 b) x ∙ ap (min (bit_at a x)) (bit_at_not w64 b x h u))
    ∙ clears (bit_at a x) (bit_at b x) (mod-lt _ (lit< tt)) (mod-lt _ (lit< tt))
    ∙ ap (λ v. is_set a x && not v) (sym (has-members b x u)))

common : (x y : ℕ) → x < 2 → y < 2 → (min x y == 1) ≡ ((y == 1) && (x == 1))
common zero zero h i = refl
common zero (suc zero) h i = refl
common zero (suc (suc y)) h i = absurd (omega arith)
common (suc zero) zero h i = refl
common (suc zero) (suc zero) h i = refl
common (suc zero) (suc (suc y)) h i = absurd (omega arith)
common (suc (suc x)) y h i = absurd (omega arith)

pub length-members : (b : ℕ) → b < 2 ^ 64 → length (members b) ≡ ones b
unfolding members
length-members b h = length-where b 0 64 (rw div-one h) ∙ ap ones (div-one b)

-- how many members two sets have in common
pub count_common : (a b : ℕ) → b < 2 ^ 64 → count_by (has (members a)) (members b) ≡ ones (bit_and a b)
unfolding members
count_common a b h =
    sym (length-filter (has (members a)) (members b))
    ∙ ap length (sym (where-filter (is_set b) (has (members a)) (is_set (bit_and a b)) 0 64
    (λ x l u.
    ap (λ v. v == 1) (bit_at_and a b x)
    ∙ common (bit_at a x) (bit_at b x) (mod-lt _ (lit< tt)) (mod-lt _ (lit< tt))
    ∙ ap (λ v. is_set b x && v) (sym (has-members a x u)))))
    ∙ length-members (bit_and a b) (lt_of_le_of_lt (and_le_r a b) h)

pub first-members : (b : ℕ) → b ≢ 0 → b < 2 ^ 64 → first (members b) ≡ Some (node_id (trailing_zeros w64 b))
unfolding members
first-members b ne h =
    let t = bit_at-trailing_zeros w64 b (pos_of_ne-zero ne) h in
    first_where (is_set b) 0 64 (trailing_zeros w64 b) zero-le t.0 (ap (λ v. v == 1) t.1) (λ x l u. ap (λ v. v == 1) (t.2 x u))

-- ---- the loop that lists the members

is_set_yes : (b q : ℕ) → q < 64 → bit_and b (1 * 2 ^ q % 2 ^ 64) ≢ 0 → is_set b q ≡ true
is_set_yes b q h ne = sym (is_set-test b q h) ∙ ap not (ne_eqb _ 0 ne)

is_set_no : (b q : ℕ) → q < 64 → bit_and b (1 * 2 ^ q % 2 ^ 64) ≡ 0 → is_set b q ≡ false
is_set_no b q h e = sym (is_set-test b q h) ∙ ap not (eq-eqb _ 0 e)

-- the members below a number
abbrev pub listed : ℕ → ℕ → List NodeId
listed b n = map node_id (numbers_where (is_set b) 0 n)

pub listed-zero : (b : ℕ) → listed b 0 ≡ []
unfolding numbers_where
listed-zero b = refl

pub listed_push : (b n : ℕ) → n < 64 → bit_and b (1 * 2 ^ n % 2 ^ 64) ≢ 0 → listed b (n + 1) ≡ listed b n ++ node_id n ∷ []
listed_push b n h ne = rw (where_push (is_set b) 0 n, zero-add, is_set_yes b n h ne) (map_push node_id (numbers_where (is_set b) 0 n) n)

pub listed_same : (b n : ℕ) → n < 64 → bit_and b (1 * 2 ^ n % 2 ^ 64) ≡ 0 → listed b (n + 1) ≡ listed b n
listed_same b n h e = rw (where_push (is_set b) 0 n, zero-add, is_set_no b n h e, append-nil)

pub listed_all : (b : ℕ) → listed b 64 ≡ map node_id (members b)
unfolding members
listed_all b = refl

-- ---- the iterator

-- the first number that passes, and the others
where-first : (p r : ℕ → Bool) (k n q : ℕ) → k ≤ q → q < k + n → p q ≡ true → r q ≡ false → ((x : ℕ) → k ≤ x → x < q → p x ≡ false) → ((x : ℕ) → x ≢ q → x < k + n → r x ≡ p x) → numbers_where p k n ≡ q ∷ numbers_where r k n
unfolding numbers_where
where-first p r k zero q h i at out before others = absurd (omega arith)
where-first p r k (suc n) q h i at out before others =
    elim (cases_eq k q) [
      | inl e ↦
          let at' : p k ≡ true = ap p e ∙ at in
          let out' : r k ≡ false = ap r e ∙ out in
          rw (at', out')
          (ap₂ (λ x xs. x ∷ xs) e (same_where p r (suc k) n (λ x a b. sym (others x (λ f. omega arith) (omega arith)))))
      | inr ne ↦
          let none : p k ≡ false = before k (le_refl k) (omega arith) in
          let none' : r k ≡ false = others k ne (omega arith) ∙ none in
          rw (none, none') (where-first p r (suc k) n q (omega arith) (omega arith) at out (λ x a b. before x (omega arith) b) (λ x a b. others x a (omega arith)))
    ]

pub members_first : (b : ℕ) → b ≢ 0 → b < 2 ^ 64 → members b ≡ trailing_zeros w64 b ∷ members (bit_and b (bit_not w64 (1 * 2 ^ trailing_zeros w64 b % 2 ^ 64)))
unfolding members
members_first b ne h =
    let t = bit_at-trailing_zeros w64 b (pos_of_ne-zero ne) h in
    let q = trailing_zeros w64 b in
    where-first (is_set b) (is_set (bit_and b (bit_not w64 (1 * 2 ^ q % 2 ^ 64)))) 0 64 q zero-le t.0
    (ap (λ v. v == 1) t.1) (ap (λ v. v == 1) (bit_at_clear_same w64 b q t.0)) (λ x l u. ap (λ v. v == 1) (t.2 x u))
    (λ x other u. ap (λ v. v == 1) (bit_at_clear_other w64 b q t.0 x u other))

pub members_few : (b : ℕ) → b < 2 ^ 64 → length (map node_id (members b)) ≤ 64
members_few b h = omega (arith, length-map (members b) node_id, length-members b h, ones-le 64 b h)
