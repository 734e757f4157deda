-- What is written at the first place that passes, or behind all, is put there.
use Rattle.std.proofs.Common.{◌≡◌, ℕ, suc, ◌+◌, ◌<◌, ◌≤◌, Bool, true, false, cond, not, nat_lt, List, [], ◌∷◌, ◌++◌, length, get_or, set, position, Some, None, refl, sym, ap, ◌∙◌, arith}
use Rattle.std.specs.List.{position_or_len}
use Rattle.std.proofs.lemmas.Bool.{ltb-true, ltb-false}
use Rattle.coordinator.specs.Acks.{put}

module _ {X : Type 0} (p : X → Bool) (change : X → X) (new : X) where
  at_place : (xs : List X) (d : X) → position_or_len p xs < length xs → set xs (position_or_len p xs) (change (get_or xs (position_or_len p xs) d)) ≡ put p change new xs
  at_place [] d l = absurd (omega arith)
  at_place (x ∷ xs) d l =
      let n = position_or_len p xs in
      let e : 1 + n ≡ suc n = omega arith in
      elim (p x) as (λ c. cond (not c) (1 + n) 0 < length (x ∷ xs)
      → set (x ∷ xs) (cond (not c) (1 + n) 0) (change (get_or (x ∷ xs) (cond (not c) (1 + n) 0) d)) ≡ cond c (change x ∷ xs) (x ∷ put p change new xs)) [
        | true ↦ λ h. refl
        | false ↦ λ h. ap (λ m. set (x ∷ xs) m (change (get_or (x ∷ xs) m d))) e ∙ ap (λ l. x ∷ l) (at_place xs d (omega arith))
      ] l

  behind : (xs : List X) → length xs ≤ position_or_len p xs → xs ++ new ∷ [] ≡ put p change new xs
  behind [] l = refl
  behind (x ∷ xs) l =
      let n = position_or_len p xs in
      elim (p x) as (λ c. length (x ∷ xs) ≤ cond (not c) (1 + n) 0 → (x ∷ xs) ++ new ∷ [] ≡ cond c (change x ∷ xs) (x ∷ put p change new xs)) [
        | true ↦ λ h. absurd (omega arith)
        | false ↦ λ h. ap (λ l. x ∷ l) (behind xs (omega arith))
      ] l

  pub put_found : (xs : List X) (i : ℕ) (x : X) → position p xs ≡ Some i → get_or xs i x ≡ x → set xs i (change x) ≡ put p change new xs
  put_found xs i x e g =
      let n = position_or_len p xs in
      elim (nat_lt n (length xs)) as (λ c. nat_lt n (length xs) ≡ c → cond c (Some n) None ≡ Some i → set xs i (change x) ≡ put p change new xs) [
        | true ↦ λ l h. let same : n ≡ i = cc in
            ap (λ y. set xs i (change y)) (sym g) ∙ ap (λ m. set xs m (change (get_or xs m x))) (sym same) ∙ at_place xs x (ltb-true _ _ l)
        | false ↦ λ l h. absurd (cc)
      ] refl e

  pub put_missing : (xs : List X) → position p xs ≡ None → xs ++ new ∷ [] ≡ put p change new xs
  put_missing xs e =
      let n = position_or_len p xs in
      elim (nat_lt n (length xs)) as (λ c. nat_lt n (length xs) ≡ c → cond c (Some n) None ≡ None → xs ++ new ∷ [] ≡ put p change new xs) [
        | true ↦ λ l h. absurd (cc)
        | false ↦ λ l h. behind xs (ltb-false _ _ l)
      ] refl e
