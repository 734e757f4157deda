-- The numbers below one more number.
use Rattle.std.proofs.Common.{◌≡◌, ℕ, zero, suc, ◌+◌, ◌<◌, ◌==◌, true, false, ◌&&◌, cond, nat_lt, List, [], ◌∷◌, ◌++◌, refl, ap, ◌∙◌, arith}
use Rattle.std.proofs.lemmas.Bool.{le-ltb, lt-ltb, ne_eqb}
use Rattle.std.specs.List.{AllByRecursion, list_all}
use Rattle.region_map.specs.Nodes.{with_member}
use Rattle.contract_types.specs.Setup.{nodes_below}

abbrev pub AllBelow : ℕ → List ℕ → Type 0
AllBelow n xs = AllByRecursion (λ k. k < n) xs

-- a number above all members goes last
with_member_last : (xs : List ℕ) (n : ℕ) → AllBelow n xs → with_member xs n ≡ xs ++ n ∷ []
with_member_last [] n h = refl
with_member_last (k ∷ ks) n h =
    let below : k < n = h.0 in
    let lt : nat_lt n k ≡ false = le-ltb n k (omega arith) in
    let ne : (k == n) ≡ false = ne_eqb k n (λ e. omega arith) in
    ap (λ c. cond c (n ∷ k ∷ ks) (cond (k == n) (k ∷ ks) (k ∷ with_member ks n))) lt
    ∙ ap (λ c. cond c (k ∷ ks) (k ∷ with_member ks n)) ne ∙ ap (λ (l : List ℕ). k ∷ l) (with_member_last ks n h.1)

below_push : (xs : List ℕ) (n : ℕ) → AllBelow n xs → AllBelow (suc n) (xs ++ n ∷ [])
below_push [] n h = (omega arith, tt)
below_push (k ∷ ks) n h = (let below : k < n = h.0 in omega arith, below_push ks n h.1)

pub all_below : (n : ℕ) → AllBelow n (nodes_below n)
all_below zero = tt
all_below (suc n) = below_push (nodes_below n) n (all_below n)

pub with_member-nodes_below : (n : ℕ) → with_member (nodes_below n) n ≡ nodes_below (n + 1)
with_member-nodes_below n = with_member_last (nodes_below n) n (all_below n) ∙ ap nodes_below (let e : suc n ≡ n + 1 = omega arith in e)

all_within : (n : ℕ) (xs : List ℕ) → AllBelow n xs → list_all (λ k. nat_lt k n) xs ≡ true
all_within n [] h = refl
all_within n (k ∷ ks) h = ap (λ b. b && list_all (λ j. nat_lt j n) ks) (lt-ltb k n h.0) ∙ all_within n ks h.1

-- the numbers below a number are below it
pub below_within : (n : ℕ) → list_all (λ k. nat_lt k n) (nodes_below n) ≡ true
below_within n = all_within n (nodes_below n) (all_below n)
