-- Two majorities of one set share a member.
use Rattle.std.proofs.Common.{◌≡◌, ◌==◌, ℕ, ◌+◌, ◌*◌, ◌<◌, ◌≤◌, Bool, true, false, cond, ◌&&◌, ◌||◌, List, [], ◌∷◌, length, filter, count_by, refl, ap, ◌∙◌, arith}
use Rattle.std.proofs.lemmas.Bool.{eq-eqb, ltb-true, and_parts, or_right}
use Rattle.std.proofs.lemmas.List.Sums.{length-filter}
use Rattle.region_map.specs.Nodes.{has, is_majority}

-- those that pass one test and those that pass another are no more than all and those that pass both
overlap : (p q : ℕ → Bool) (xs : List ℕ) → length (filter p xs) + length (filter q xs) ≤ length xs + length (filter (λ x. p x && q x) xs)
overlap p q [] = omega arith
overlap p q (x ∷ xs) =
    let rest = overlap p q xs in
    elim (p x) as (λ c. length (cond c (x ∷ filter p xs) (filter p xs)) + length (cond (q x) (x ∷ filter q xs) (filter q xs)) ≤ length (x ∷ xs) + length (cond (c && q x) (x ∷ filter (λ y. p y && q y) xs) (filter (λ y. p y && q y) xs))) [
      | true ↦ elim (q x) as (λ d. length (x ∷ filter p xs) + length (cond d (x ∷ filter q xs) (filter q xs)) ≤ length (x ∷ xs) + length (cond d (x ∷ filter (λ y. p y && q y) xs) (filter (λ y. p y && q y) xs))) [ true ↦ omega (arith, rest) | false ↦ omega (arith, rest) ]
      | false ↦ elim (q x) as (λ d. length (filter p xs) + length (cond d (x ∷ filter q xs) (filter q xs)) ≤ length (x ∷ xs) + length (filter (λ y. p y && q y) xs)) [ true ↦ omega (arith, rest) | false ↦ omega (arith, rest) ]
    ]

-- where some pass, one does
some_passes : (p : ℕ → Bool) (xs : List ℕ) → 0 < length (filter p xs) → (n : ℕ) × (has xs n ≡ true) × (p n ≡ true)
some_passes p [] h = absurd (omega arith)
some_passes p (x ∷ xs) h =
    elim (p x) as (λ c. p x ≡ c → 0 < length (cond c (x ∷ filter p xs) (filter p xs)) → (n : ℕ) × (((x == n) || has xs n) ≡ true) × (p n ≡ true)) [
      | true ↦ λ yes l. (x, ap (λ b. b || has xs x) (eq-eqb x x refl), yes)
      | false ↦ λ no l. let r = some_passes p xs l in (r.0, ap (λ b. (x == r.0) || b) r.1 ∙ or_right (x == r.0) true refl, r.2)
    ] refl h

pub majorities_meet : (a b of : List ℕ) → is_majority a of ≡ true → is_majority b of ≡ true → (n : ℕ) × (has of n ≡ true) × (has a n ≡ true) × (has b n ≡ true)
majorities_meet a b of h i =
    let m : length of < 2 * count_by (has a) of = ltb-true _ _ h in
    let n : length of < 2 * count_by (has b) of = ltb-true _ _ i in
    let o = overlap (has a) (has b) of in
    let r = some_passes (λ x. has a x && has b x) of (omega (arith, m, n, o, length-filter (has a) of, length-filter (has b) of)) in
    let both = and_parts _ _ r.2 in
    (r.0, r.1, both.0, both.1)
