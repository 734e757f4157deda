-- How many elements of a list pass a test.
use Rattle.std.proofs.Common.{◌≡◌, ◌≤◌, Bool, true, false, cond, List, count_by, refl, arith}
use Rattle.std.proofs.lemmas.List.Sums.{sum_by-le-sum_by}

-- one element counts at most once
pub counts_at_most_once : (b : Bool) → cond b 1 0 ≤ 1
counts_at_most_once true = omega arith
counts_at_most_once false = omega arith

-- where each element that passes one test passes another, no fewer pass it
pub more_pass : {X : Type 0} (p q : X → Bool) (xs : List X) → ((x : X) → p x ≡ true → q x ≡ true) → count_by p xs ≤ count_by q xs
more_pass p q xs h =
    sum_by-le-sum_by (λ x. cond (p x) 1 0) (λ x. cond (q x) 1 0) xs
    (λ x. elim (p x) as (λ c. p x ≡ c → cond c 1 0 ≤ cond (q x) 1 0) [ true ↦ λ e. let yes : q x ≡ true = h x e in rw yes (omega arith) | false ↦ λ _. omega arith ] refl)
