-- Logs whose every entry came from the leader of its term.
use Rattle.std.proofs.Common.{◌≡◌, ◌==◌, ℕ, zero, suc, ◌+◌, ◌-◌, ◌<◌, ◌≤◌, true, false, cond, ◌&&◌, ◌⊎◌, inl, inr, List, [], ◌∷◌, ◌++◌, length, take, drop, slice_get, Some, refl, sym, ap, subst, ◌∙◌, arith, append_assoc, take-append-drop, length-append, length-take, length-drop, take-add, drop-drop, ap₂, nat_le}
use Rattle.std.proofs.lemmas.List.{take-append-le, take-take, take_all}
use Rattle.std.proofs.lemmas.Bool.{cond_both, eqb-true, eq-eqb, leb-true, and_parts, or_cases, cases_lt, eqb-false}
use Rattle.std.proofs.lemmas.List.Sums.{common_prefix_len-le}
use Rattle.raft_vote.specs.declared.log.LogEntry.{LogEntry}
use Rattle.raft_vote.specs.Log.{term_of, term_at}
use Rattle.raft_append.specs.Merge.{fits, agreeing, merged}

-- ---- places in lists

slice_get-append : {X : Type 0} (xs ys : List X) (k : ℕ) → k < length xs → slice_get (xs ++ ys) k ≡ slice_get xs k
slice_get-append [] ys k h = absurd (omega arith)
slice_get-append (x ∷ xs) ys zero h = refl
slice_get-append (x ∷ xs) ys (suc k) h = slice_get-append xs ys k (omega arith)

slice_get_last : {X : Type 0} (xs : List X) (y : X) → slice_get (xs ++ y ∷ []) (length xs) ≡ Some y
slice_get_last [] y = refl
slice_get_last (x ∷ xs) y = slice_get_last xs y

slice_get-drop : {X : Type 0} (xs : List X) (n k : ℕ) → slice_get (drop n xs) k ≡ slice_get xs (n + k)
slice_get-drop xs zero k = let e : 0 + k ≡ k = omega arith in rw e
slice_get-drop [] (suc n) k = refl
slice_get-drop (x ∷ xs) (suc n) k = let e : suc n + k ≡ suc (n + k) = omega arith in rw e (slice_get-drop xs n k)

slice_get-take : {X : Type 0} (n k : ℕ) (xs : List X) → k < n → slice_get (take n xs) k ≡ slice_get xs k
slice_get-take zero k xs h = absurd (omega arith)
slice_get-take (suc n) k [] h = refl
slice_get-take (suc n) zero (x ∷ xs) h = refl
slice_get-take (suc n) (suc k) (x ∷ xs) h = slice_get-take n k xs (omega arith)

pub term_at-append : {E : Type 0} (xs ys : List (LogEntry E)) (i : ℕ) → i ≤ length xs → term_at (xs ++ ys) i ≡ term_at xs i
term_at-append xs ys zero h = refl
term_at-append xs ys (suc i) h = ap term_of (slice_get-append xs ys i (omega arith))

pub term_at_last : {E : Type 0} (xs : List (LogEntry E)) (e : LogEntry E) → term_at (xs ++ e ∷ []) (length xs + 1) ≡ e.term
term_at_last xs e = let s : length xs + 1 ≡ suc (length xs) = omega arith in rw s (ap term_of (slice_get_last xs e))

pub term_at-take : {E : Type 0} (n i : ℕ) (xs : List (LogEntry E)) → i ≤ n → term_at (take n xs) i ≡ term_at xs i
term_at-take n zero xs h = refl
term_at-take n (suc i) xs h = ap term_of (slice_get-take n i xs (omega arith))

-- ---- the same front

pub same_terms : {E : Type 0} (n i : ℕ) (xs ys : List (LogEntry E)) → take n xs ≡ take n ys → i ≤ n → term_at xs i ≡ term_at ys i
same_terms n i xs ys e h = sym (term_at-take n i xs h) ∙ ap (λ l. term_at l i) e ∙ term_at-take n i ys h

pub shorter : {X : Type 0} (i n : ℕ) (xs ys : List X) → take n xs ≡ take n ys → i ≤ n → take i xs ≡ take i ys
shorter i n xs ys e h = sym (take-take i n xs h) ∙ ap (take i) e ∙ take-take i n ys h

-- the same front is as long
pub as_long : {X : Type 0} (i : ℕ) (xs ys : List X) → take i xs ≡ take i ys → i ≤ length xs → i ≤ length ys
as_long i xs ys e h = omega (arith, ap length e, length-take i xs, length-take i ys)

-- a list and what is behind it
pub front_of : {X : Type 0} (xs ys : List X) (i : ℕ) → i ≤ length xs → take i (xs ++ ys) ≡ take i xs
front_of xs ys i h = take-append-le i xs ys h

-- ---- terms do not fall

pub record Rises {E : Type 0} (log : List (LogEntry E)) : Type 0 where
  pub at : (i k : ℕ) → i ≤ k → k ≤ length log → term_at log i ≤ term_at log k

-- no term is above this one
pub record IsUpTo {E : Type 0} (log : List (LogEntry E)) (term : ℕ) : Type 0 where
  pub at : (i : ℕ) → i ≤ length log → term_at log i ≤ term

pub IsUpTo-more : {E : Type 0} (log : List (LogEntry E)) (t u : ℕ) → t ≤ u → IsUpTo log t → IsUpTo log u
IsUpTo-more log t u h b = record { at = λ i l. let e = b.at i l in omega (arith, e, h) }

pub Rises-push : {E : Type 0} (log : List (LogEntry E)) (x : LogEntry E) → Rises log → IsUpTo log x.term → Rises (log ++ x ∷ [])
Rises-push log x r b =
    record {
      at = λ i k h l.
          elim (cases_lt (length log) k) [
            | inl past ↦
                let last : k ≡ length log + 1 = omega (arith, length-append log (x ∷ [])) in
                let end : term_at (log ++ x ∷ []) k ≡ x.term = ap (term_at (log ++ x ∷ [])) last ∙ term_at_last log x in
                elim (cases_lt (length log) i) [
                  | inl past_i ↦
                      let same : i ≡ k = omega arith in
                      let e : term_at (log ++ x ∷ []) i ≡ term_at (log ++ x ∷ []) k = ap (term_at (log ++ x ∷ [])) same in
                      omega (arith, e)
                  | inr within_i ↦
                      let e : term_at (log ++ x ∷ []) i ≡ term_at log i = term_at-append log (x ∷ []) i within_i in
                      let f = b.at i within_i in
                      omega (arith, e, f, end)
                ]
            | inr within ↦
                let e : term_at (log ++ x ∷ []) i ≡ term_at log i = term_at-append log (x ∷ []) i (omega arith) in
                let f : term_at (log ++ x ∷ []) k ≡ term_at log k = term_at-append log (x ∷ []) k within in
                let g = r.at i k h within in
                omega (arith, e, f, g)
          ];
    }

pub IsUpTo-push : {E : Type 0} (log : List (LogEntry E)) (x : LogEntry E) → IsUpTo log x.term → IsUpTo (log ++ x ∷ []) x.term
IsUpTo-push log x b =
    record {
      at = λ i l.
          elim (cases_lt (length log) i) [
            | inl past ↦
                let last : i ≡ length log + 1 = omega (arith, length-append log (x ∷ [])) in
                let end : term_at (log ++ x ∷ []) i ≡ x.term = ap (term_at (log ++ x ∷ [])) last ∙ term_at_last log x in
                omega (arith, end)
            | inr within ↦
                let e : term_at (log ++ x ∷ []) i ≡ term_at log i = term_at-append log (x ∷ []) i within in
                let f = b.at i within in
                omega (arith, e, f)
          ];
    }

-- ---- where entries agree in term

agree_at : {E : Type 0} (a b : List (LogEntry E)) (k : ℕ) → k < agreeing a b → term_of (slice_get a k) ≡ term_of (slice_get b k)
agree_at [] b k h = absurd (omega arith)
agree_at (x ∷ a) [] k h = absurd (omega arith)
agree_at (x ∷ a) (y ∷ b) zero h =
    elim (x.term == y.term) as (λ c. x.term == y.term ≡ c → 0 < cond c (1 + agreeing a b) 0 → x.term ≡ y.term) [
      | true ↦ λ e _. eqb-true x.term y.term e
      | false ↦ λ _ (l : 0 < 0). absurd (omega (arith, l))
    ] refl h
agree_at (x ∷ a) (y ∷ b) (suc k) h =
    elim (x.term == y.term) as (λ c. suc k < cond c (1 + agreeing a b) 0 → term_of (slice_get a k) ≡ term_of (slice_get b k)) [
      | true ↦ λ l. agree_at a b k (omega (arith, l))
      | false ↦ λ (l : suc k < 0). absurd (omega (arith, l))
    ] h

-- the same front agrees
agree_front : {E : Type 0} (k : ℕ) (a b : List (LogEntry E)) → take k a ≡ take k b → k ≤ length a → k ≤ agreeing a b
agree_front zero a b e h = omega arith
agree_front (suc k) [] b e h = absurd (omega arith)
agree_front (suc k) (x ∷ a) [] e h = absurd (cc e)
agree_front {E = E} (suc k) (x ∷ a) (y ∷ b) e h =
    let first : x ≡ y = cc in
    let rest : take k a ≡ take k b = cc in
    let test : x.term == y.term ≡ true = eq-eqb x.term y.term (ap (λ (z : LogEntry E). z.term) first) in
    let more = agree_front k a b rest (omega arith) in
    rw test (omega (arith, more))

take-drop : {X : Type 0} (n k : ℕ) (xs : List X) → take k (drop n xs) ≡ drop n (take (n + k) xs)
take-drop zero k xs = let e : 0 + k ≡ k = omega arith in rw e
take-drop (suc n) zero [] = let e : suc n + 0 ≡ suc n = omega arith in rw e
take-drop (suc n) (suc k) [] = let e : suc n + suc k ≡ suc (n + suc k) = omega arith in rw e
take-drop (suc n) k (x ∷ xs) = let e : suc n + k ≡ suc (n + k) = omega arith in rw e (take-drop n k xs)

-- behind an index, logs with the same front agree as far as it goes
pub agree_behind : {E : Type 0} (prev m : ℕ) (a b : List (LogEntry E)) → take m a ≡ take m b → m ≤ length a → m - prev ≤ agreeing (drop prev a) (drop prev b)
agree_behind prev m a b e h =
    elim (cases_lt m prev) [
      | inl below ↦ omega arith
      | inr above ↦
          let n : prev + (m - prev) ≡ m = omega arith in
          let front : take (m - prev) (drop prev a) ≡ take (m - prev) (drop prev b) =
          take-drop prev (m - prev) a ∙ ap (λ k. drop prev (take k a)) n ∙ ap (drop prev) e ∙ ap (λ k. drop prev (take k b)) (sym n) ∙ sym (take-drop prev (m - prev) b) in
          agree_front (m - prev) (drop prev a) (drop prev b) front (omega (arith, length-drop prev a))
    ]

-- a place that fits is in the log
pub fits_within : {E : Type 0} (log : List (LogEntry E)) (prev prev_term : ℕ) → fits log prev prev_term ≡ true → prev ≤ length log
fits_within log prev prev_term f =
    elim (or_cases (prev == 0) (nat_le prev (length log) && (term_at log prev == prev_term)) f) [
      | inl zero_at ↦ omega (arith, eqb-true prev 0 zero_at)
      | inr there ↦ leb-true prev (length log) (and_parts _ _ there).0
    ]

-- ---- two logs that are the same wherever they have an entry of the same term at an index

pub record Match {E : Type 0} (a b : List (LogEntry E)) : Type 0 where
  pub at : (i : ℕ) → i ≤ length a → i ≤ length b → term_at a i ≡ term_at b i → take i a ≡ take i b

-- what a log becomes where it takes the entries of another one, y, behind a place that fits
pub record Merged {E : Type 0} (own y : List (LogEntry E)) (now : List (LogEntry E)) : Type 0 where
  pub is : (now ≡ own) ⊎ (now ≡ y)
  pub has : take (length y) now ≡ y
  pub keeps : (a : ℕ) (whole : List (LogEntry E)) → take (length y) whole ≡ y → a ≤ length own → take a own ≡ take a whole → take a now ≡ take a whole

module _ {E : Type 0} (own y : List (LogEntry E)) (prev : ℕ) (m : Match own y) (lo : prev ≤ length own) (ly : prev ≤ length y) where
  -- where the terms behind prev agree, the logs do
  agree_to : (same : ℕ) → same ≡ agreeing (drop prev own) (drop prev y) → take prev own ≡ take prev y → take (prev + same) own ≡ take (prev + same) y
  agree_to zero e front = let z : prev + 0 ≡ prev = omega arith in rw z front
  agree_to (suc k) e front =
      let n : prev + suc k ≡ suc (prev + k) = omega arith in
      let short = common_prefix_len-le (λ (x z : LogEntry E). x.term == z.term) (drop prev own) (drop prev y) in
      let here : term_of (slice_get own (prev + k)) ≡ term_of (slice_get y (prev + k)) =
      ap term_of (sym (slice_get-drop own prev k)) ∙ agree_at (drop prev own) (drop prev y) k (omega (arith, e)) ∙ ap term_of (slice_get-drop y prev k) in
      rw n (m.at (suc (prev + k)) (omega (arith, short.0, e, length-drop prev own)) (omega (arith, short.1, e, length-drop prev y)) here)

  -- the fronts are the same where the entry before them fits
  pub fits_front : fits own prev (term_at y prev) ≡ true → take prev own ≡ take prev y
  fits_front f =
      elim (or_cases (prev == 0) (nat_le prev (length own) && (term_at own prev == term_at y prev)) f) [
        | inl zero_at ↦ let z : prev ≡ 0 = eqb-true prev 0 zero_at in rw z
        | inr there ↦ m.at prev lo ly (eqb-true (term_at own prev) (term_at y prev) (and_parts _ _ there).1)
      ]

  -- the log stays, since it has all of y
  stays : take prev own ≡ take prev y → agreeing (drop prev own) (drop prev y) ≡ length (drop prev y) → take (length y) own ≡ y
  stays front all =
      let n : prev + length (drop prev y) ≡ length y = omega (arith, length-drop prev y) in
      ap (λ k. take k own) (sym n) ∙ ap (λ k. take (prev + k) own) (sym all) ∙ agree_to (agreeing (drop prev own) (drop prev y)) refl front
      ∙ ap (λ k. take (prev + k) y) all ∙ ap (λ k. take k y) n ∙ take_all (length y) y (omega arith)

  becomes : take prev own ≡ take prev y → take prev own ++ (take (agreeing (drop prev own) (drop prev y)) (drop prev own) ++ drop (agreeing (drop prev own) (drop prev y)) (drop prev y)) ≡ y
  becomes front =
      let same = agreeing (drop prev own) (drop prev y) in
      sym (append_assoc (take prev own) (take same (drop prev own)) (drop same (drop prev y)))
      ∙ ap₂ (λ u v. u ++ v) (sym (take-add prev same own) ∙ agree_to same refl front) (drop-drop same prev y)
      ∙ take-append-drop (prev + same) y

  -- where y is cut short, the log has nothing in common with more than it
  cut : (agreeing (drop prev own) (drop prev y) ≡ length (drop prev y) → ⊥) → (a : ℕ) (whole : List (LogEntry E)) → take (length y) whole ≡ y → a ≤ length own → take a own ≡ take a whole → a ≤ length y
  cut some a whole front l e =
      elim (cases_lt (length y) a) [
        | inl past ↦
            let all : take (length y) own ≡ take (length y) y = shorter (length y) a own whole e (omega arith) ∙ front ∙ sym (take_all (length y) y (omega arith)) in
            let more = agree_behind prev (length y) own y all (omega arith) in
            let short = common_prefix_len-le (λ (x z : LogEntry E). x.term == z.term) (drop prev own) (drop prev y) in
            absurd (some (omega (arith, more, short.1, length-drop prev y)))
        | inr within ↦ within
      ]

  pub merged_is : take prev own ≡ take prev y → Merged own y (take prev own ++ merged (drop prev own) (drop prev y))
  merged_is front =
      let same = agreeing (drop prev own) (drop prev y) in
      cond_both (same == length (drop prev y)) (drop prev own) (take same (drop prev own) ++ drop same (drop prev y)) (λ (r : List (LogEntry E)). Merged own y (take prev own ++ r))
      (λ e.
      let all = stays front (eqb-true same (length (drop prev y)) e) in
      let now : take prev own ++ drop prev own ≡ own = take-append-drop prev own in
      subst (Merged own y) (sym now) (record { is = inl refl; has = all; keeps = λ a whole f l e. e }))
      (λ e.
      let some = eqb-false same (length (drop prev y)) e in
      subst (Merged own y) (sym (becomes front)) (record {
        is = inr refl;
        has = take_all (length y) y (omega arith);
        keeps = λ a whole f l e.
            let short = cut some a whole f l e in
            ap (take a) (sym f) ∙ take-take a (length y) whole short;
      }))
