-- The results of acting on changes, in order.
use Rattle.std.proofs.Common.{◌≡◌, ◌∙◌, ℕ, zero, suc, ◌+◌, ◌-◌, ◌<◌, ◌≤◌, List, [], ◌∷◌, ◌++◌, length, get_or, Some, None, inl, inr, refl, sym, ap, ap₂, arith, slice_get, append-nil, append_assoc}
use Rattle.std.proofs.lemmas.Bool.{cases_lt}
use Rattle.std.proofs.lemmas.Bool.Decides.{nat_tests}
use Rattle.std.proofs.lemmas.List.{length_push, get_or_push, get_or_append_left}
use Rattle.std.proofs.lemmas.Option.{slice_get-get_or}
use Rattle.contract_types.specs.declared.change.Change.{Change}
use Rattle.contract_types.specs.declared.applied.Applied.{Applied}
use Rattle.contract_types.specs.Configs.{ConfigState}
use Rattle.table_log.specs.Fitting.{changes_of}
use Rattle.table_log.specs.Logs.{LogState, result_at, results_from, results, caught_up, viewed}

module _ (config : ConfigState) (changes : List Change) where
  pub results_count : (first n : ℕ) → length (results_from config changes first n) ≡ n
  results_count first zero = refl
  results_count first (suc n) = length_push (results_from config changes first n) (result_at config changes (first + n)) ∙ ap (λ k. k + 1) (results_count first n) ∙ omega arith

  pub results_joined : (first m n : ℕ) → results_from config changes first (m + n) ≡ results_from config changes first m ++ results_from config changes (first + m) n
  results_joined first m zero =
      let e : m + 0 ≡ m = omega arith in
      ap (results_from config changes first) e ∙ sym (append-nil (results_from config changes first m))
  results_joined first m (suc n) =
      let xs = results_from config changes first m in
      let ys = results_from config changes (first + m) n in
      let e : m + suc n ≡ suc (m + n) = omega arith in
      let f : first + (m + n) ≡ first + m + n = omega arith in
      ap (results_from config changes first) e
      ∙ ap (λ zs. zs ++ result_at config changes (first + (m + n)) ∷ []) (results_joined first m n)
      ∙ append_assoc xs ys (result_at config changes (first + (m + n)) ∷ [])
      ∙ ap (λ k. xs ++ (ys ++ result_at config changes k ∷ [])) f

  each_at : (first n k : ℕ) (d : Change × Applied) → k < n → get_or (results_from config changes first n) k d ≡ result_at config changes (first + k)
  each_at first zero k d l = absurd (omega arith)
  each_at first (suc n) k d l =
      let xs = results_from config changes first n in
      let y = result_at config changes (first + n) in
      elim (cases_lt k n) [
        | inl m ↦ get_or_append_left xs (y ∷ []) d k (omega (arith, results_count first n)) ∙ each_at first n k d m
        | inr m ↦
            let same : n ≡ k = omega arith in
            get_or_push xs y d k (results_count first n ∙ same) ∙ ap (λ j. result_at config changes (first + j)) same
      ]

  pub results_each : (first n k : ℕ) → k < n → slice_get (results_from config changes first n) k ≡ Some (result_at config changes (first + k))
  results_each first n k l =
      let d = result_at config changes (first + k) in
      slice_get-get_or (results_from config changes first n) k d (omega (arith, results_count first n)) ∙ ap Some (each_at first n k d l)

  -- one more in the loop that acts on them
  pub results_more : (first place : ℕ) (xs ys : List (Change × Applied)) (r : Change × Applied) → first ≤ place → xs ≡ results_from config changes first (place - first) → r ≡ result_at config changes place → ys ≡ xs ++ r ∷ []
      → ys ≡ results_from config changes first (place + 1 - first)
  results_more first place xs ys r l e is more =
      let count : place + 1 - first ≡ suc (place - first) = omega (arith, l) in
      let last : place ≡ first + (place - first) = omega (arith, l) in
      more
      ∙ ap₂ (λ (zs : List (Change × Applied)) (z : Change × Applied). zs ++ z ∷ []) e (is ∙ ap (result_at config changes) last)
      ∙ ap (results_from config changes first) (sym count)

pub nothing_left : (s : LogState) → viewed (caught_up s) ≡ None
nothing_left s = grind (arith, nat_tests)

pub no_results_left : (s : LogState) → results (caught_up s) ≡ []
no_results_left s =
    let e : s.raft.view - s.raft.view ≡ 0 = omega arith in
    ap (results_from s.config (changes_of s.raft.log) s.raft.view) e
