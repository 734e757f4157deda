-- Two majorities of one set share a member.
use Rattle.std.proofs.Common.{◌≡◌, ◌==◌, ℕ, suc, ◌+◌, ◌<◌, ◌≤◌, Bool, true, false, cond, ◌&&◌, ◌||◌, List, [], ◌∷◌, length, filter, inl, inr, refl, ap, arith}
use Rattle.std.proofs.lemmas.Bool.{cases_Bool, and_parts, eq-eqb, or_left, or_right}
use Rattle.std.proofs.lemmas.List.Sums.{length-filter}
use Rattle.path_facts.specs.Runs.{has, IsMost}

-- those that pass one test and those that pass another are no more than all and those that pass both
overlap : (p q : ℕ → Bool) (xs : List ℕ) → length (filter p xs) + length (filter q xs) ≤ length xs + length (filter (λ x. p x && q x) xs)
overlap p q [] = omega arith
overlap p q (x ∷ xs) =
    let rest = overlap p q xs in
    elim (p x) as (λ c. length (cond c (x ∷ filter p xs) (filter p xs)) + length (cond (q x) (x ∷ filter q xs) (filter q xs)) ≤ length (x ∷ xs) + length (cond (c && q x) (x ∷ filter (λ y. p y && q y) xs) (filter (λ y. p y && q y) xs))) [
      | true ↦ elim (q x) as (λ d. length (x ∷ filter p xs) + length (cond d (x ∷ filter q xs) (filter q xs)) ≤ length (x ∷ xs) + length (cond d (x ∷ filter (λ y. p y && q y) xs) (filter (λ y. p y && q y) xs))) [ true ↦ omega (arith, rest) | false ↦ omega (arith, rest) ]
      | false ↦ elim (q x) as (λ d. length (filter p xs) + length (cond d (x ∷ filter q xs) (filter q xs)) ≤ length (x ∷ xs) + length (filter (λ y. p y && q y) xs)) [ true ↦ omega (arith, rest) | false ↦ omega (arith, rest) ]
    ]

-- where some pass, one does
some_passes : (p : ℕ → Bool) (xs : List ℕ) → 0 < length (filter p xs) → (n : ℕ) × (has xs n ≡ true) × (p n ≡ true)
some_passes p [] h = absurd (omega arith)
some_passes p (x ∷ xs) h =
    elim (p x) as (λ c. p x ≡ c → 0 < length (cond c (x ∷ filter p xs) (filter p xs)) → (n : ℕ) × (((x == n) || has xs n) ≡ true) × (p n ≡ true)) [
      | true ↦ λ passes l. (x, or_left (x == x) (has xs x) (eq-eqb x x refl), passes)
      | false ↦ λ fails l. let r = some_passes p xs l in (r.0, or_right (x == r.0) (has xs r.0) r.1, r.2)
    ] refl h

pub majorities_meet : (p q : ℕ → Bool) (of : List ℕ) → IsMost p of → IsMost q of → (n : ℕ) × (has of n ≡ true) × (p n ≡ true) × (q n ≡ true)
majorities_meet p q of h i =
    let o = overlap p q of in
    let r = some_passes (λ x. p x && q x) of (omega (arith, h, i, o, length-filter p of, length-filter q of)) in
    let both = and_parts _ _ r.2 in
    (r.0, r.1, both.0, both.1)

kept : (p : ℕ → Bool) (y : ℕ) (ys : List ℕ) → p y ≡ true → length (filter p (y ∷ ys)) ≡ suc (length (filter p ys))
kept p y ys e = ap (λ c. length (cond c (y ∷ filter p ys) (filter p ys))) e

left_out : (p : ℕ → Bool) (y : ℕ) (ys : List ℕ) → p y ≡ false → length (filter p (y ∷ ys)) ≡ length (filter p ys)
left_out p y ys e = ap (λ c. length (cond c (y ∷ filter p ys) (filter p ys))) e

-- where each member that passes one test passes another, no fewer pass that
fewer : (p q : ℕ → Bool) (xs ys : List ℕ) → ((n : ℕ) → has ys n ≡ true → has xs n ≡ true) → ((n : ℕ) → has xs n ≡ true → p n ≡ true → q n ≡ true)
    → length (filter p ys) ≤ length (filter q ys)
fewer p q xs [] s h = omega arith
fewer p q xs (y ∷ ys) s h =
    let rest = fewer p q xs ys (λ n i. s n (or_right (y == n) (has ys n) i)) h in
    elim (cases_Bool (p y)) [
      | inl passes ↦
          let also = h y (s y (or_left (y == y) (has ys y) (eq-eqb y y refl))) passes in
          omega (arith, rest, kept p y ys passes, kept q y ys also)
      | inr fails ↦ elim (cases_Bool (q y)) [
        | inl passes ↦ omega (arith, rest, left_out p y ys fails, kept q y ys passes)
        | inr also ↦ omega (arith, rest, left_out p y ys fails, left_out q y ys also)
      ]
    ]

pub most_pass : (p q : ℕ → Bool) (of : List ℕ) → IsMost p of → ((n : ℕ) → has of n ≡ true → p n ≡ true → q n ≡ true) → IsMost q of
most_pass p q of m h = omega (arith, m, fewer p q of of (λ n i. i) h, length-filter p of, length-filter q of)
