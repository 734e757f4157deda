-- One shard of all keys is a configuration.
use Rattle.std.proofs.Common.{◌≡◌, ◌==◌, ℕ, zero, suc, ◌<◌, Bool, true, false, cond, ◌&&◌, ◌||◌, not, nat_lt, nat_le, List, [], ◌∷◌, length, map, inl, inr, refl, sym, ap, ◌∙◌, arith, length-append}
use Rattle.std.specs.List.{filter, AllByRecursion}
use Rattle.std.proofs.lemmas.Bool.{lt-ltb, eq-eqb, ne_eqb, or_right, cases_lt}
use Rattle.std.proofs.lemmas.Bool.Decides.{nat_tests}
use Rattle.std.proofs.lemmas.List.Folds.{list_any-append}
use Rattle.std.proofs.lemmas.List.Sums.{length-filter}
use Rattle.list_laws.proofs.Counts.{counts_at_most_once}
use Rattle.region_map.specs.declared.id.NodeId.{NodeId}
use Rattle.region_map.specs.Nodes.{has, without, node_id}
use Rattle.region_map.specs.Regions.{before, in_region}
use Rattle.region_map.proofs.Order.{before_nil}
use Rattle.contract_types.specs.Configs.{IsConfig, are_nodes, is_bad_region}
use Rattle.contract_types.specs.Setup.{nodes_below, all_keys, whole}
use Rattle.contract_types.proofs.Below.{AllBelow, all_below}

-- what passes nowhere keeps nothing
filter_none : {T : Type 0} (p : T → Bool) (xs : List T) → AllByRecursion (λ x. p x ≡ false) xs → filter p xs ≡ []
filter_none p [] all = refl
filter_none p (x ∷ xs) all = ap (λ b. cond b (x ∷ filter p xs) (filter p xs)) all.0 ∙ filter_none p xs all.1

-- numbers below n are nodes of a table with n nodes
past_none : (n : ℕ) (xs : List ℕ) → AllBelow n xs → AllByRecursion (λ (x : NodeId). nat_le n x.0 ≡ false) (map node_id xs)
past_none n [] all = tt
past_none n (x ∷ xs) all = (let l : x < n = all.0 in grind (arith, nat_tests), past_none n xs all.1)

nodes_are : (n : ℕ) → are_nodes n (nodes_below n) ≡ true
nodes_are n =
    let p : NodeId → Bool = λ x. nat_le n x.0 in
    ap (λ k. k == 0) (sym (length-filter p (map node_id (nodes_below n))) ∙ ap length (filter_none p (map node_id (nodes_below n)) (past_none n (nodes_below n) (all_below n))))

has_below : (n k : ℕ) → k < n → has (nodes_below n) k ≡ true
has_below zero k l = absurd (omega arith)
has_below (suc n) k l =
    list_any-append (λ j. j == k) (nodes_below n) (n ∷ [])
    ∙ elim (cases_lt k n) [
      | inl m ↦ ap (λ b. b || ((n == k) || false)) (has_below n k m)
      | inr m ↦ or_right (has (nodes_below n) k) ((n == k) || false) (ap (λ b. b || false) (eq-eqb n k (let e : n ≡ k = omega arith in e)))
    ]

all_had : (n : ℕ) (xs : List ℕ) → AllBelow n xs → AllByRecursion (λ k. not (has (nodes_below n) k) ≡ false) xs
all_had n [] all = tt
all_had n (x ∷ xs) all = (ap not (has_below n x all.0), all_had n xs all.1)

some_below : (n : ℕ) → 0 < n → (length (nodes_below n) == 0) ≡ false
some_below zero l = absurd (omega arith)
some_below (suc n) l = ne_eqb _ _ (λ e. let f = length-append (nodes_below n) (n ∷ []) in omega arith)

good_region : (hashes : ℕ) → 0 < hashes → is_bad_region hashes (all_keys hashes) ≡ false
good_region hashes l = grind (arith, nat_tests)

whole_roles : (a b c d e : Bool) → a ≡ false → b ≡ false → c ≡ true → d ≡ false → e ≡ true
    → (((true && not (a || false)) && not ((b || not c) || false)) && not ((d || not e) || false)) ≡ true
whole_roles a b c d e f g h i j = rw (f, g, h, i, j) refl

in_all : (hashes h : ℕ) (k : List ℕ) → h < hashes → in_region (all_keys hashes) h k ≡ true
in_all hashes h k l =
    let i = lt-ltb h hashes l in
    let n : nat_le 0 h ≡ true = grind (arith, nat_tests) in
    all_true (nat_le 0 h) (nat_lt h hashes) (before k []) n i (before_nil k)
  where
    all_true : (a b c : Bool) → a ≡ true → b ≡ true → c ≡ false → ((a && b) && (not c && true)) ≡ true
    all_true a b c x y z = rw (x, y, z) refl

pub whole_is_config : (nodes hashes : ℕ) → 0 < nodes → 0 < hashes → IsConfig (whole nodes hashes)
whole_is_config nodes hashes some any = record {
  roles = whole_roles (is_bad_region hashes (all_keys hashes)) (length (nodes_below nodes) == 0) (are_nodes nodes (nodes_below nodes))
      (nat_lt 0 (length (without (nodes_below nodes) (nodes_below nodes)))) (has (nodes_below nodes) 0)
      (good_region hashes any) (some_below nodes some) (nodes_are nodes)
      (ap (λ xs. nat_lt 0 (length xs)) (filter_none (λ k. not (has (nodes_below nodes) k)) (nodes_below nodes) (all_had nodes (nodes_below nodes) (all_below nodes))))
      (has_below nodes 0 some);
  apart = λ (h, k, l). absurd (let m = counts_at_most_once (in_region (all_keys hashes) h k) in omega arith);
  whole = λ (h, k, l, e). absurd (let m = sym (ap (λ b. cond b 1 0) (in_all hashes h k l)) ∙ e in omega arith);
}
