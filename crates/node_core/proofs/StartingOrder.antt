-- Where an execution is put among others that are in table order.
use Rattle.std.proofs.Common.{◌≡◌, ℕ, suc, ◌+◌, ◌≤◌, Bool, true, false, cond, not, nat_lt, List, [], ◌∷◌, ◌++◌, take, drop, length, position, Some, None, refl, sym, ap, ◌∙◌, subst, arith}
use Rattle.std.specs.List.{position_or_len}
use Rattle.std.proofs.lemmas.Bool.{ltb-false}
use Rattle.contract_types.specs.declared.contract.Contract.{Contract}
use Rattle.primary_exec.specs.Execution.{Execution}
use Rattle.node_core.specs.Starting.{place_of, placed}

-- whether an execution comes behind the one that is put
abbrev pub behind : List Contract → Execution → Execution → Bool
behind contracts x y = nat_lt (place_of contracts x.contract.id) (place_of contracts y.contract.id)

place : List Contract → Execution → List Execution → ℕ
place contracts x ys = position_or_len (behind contracts x) ys

placed_first : (contracts : List Contract) (x : Execution) (ys : List Execution)
    → placed contracts x ys ≡ take (place contracts x ys) ys ++ x ∷ drop (place contracts x ys) ys
unfolding place
placed_first contracts x [] = refl
placed_first contracts x (y ∷ ys) =
    let next : 1 + place contracts x ys ≡ suc (place contracts x ys) = omega arith in
    elim (behind contracts x y) as (λ c. cond c (x ∷ y ∷ ys) (y ∷ placed contracts x ys)
    ≡ take (cond (not c) (1 + place contracts x ys) 0) (y ∷ ys) ++ x ∷ drop (cond (not c) (1 + place contracts x ys) 0) (y ∷ ys)) [
      | true ↦ refl
      | false ↦ ap (λ zs. y ∷ zs) (placed_first contracts x ys) ∙ ap (λ n. take n (y ∷ ys) ++ x ∷ drop n (y ∷ ys)) (sym next)
    ]

pub placed_before : (contracts : List Contract) (x : Execution) (ys : List Execution) (i : ℕ)
    → position (behind contracts x) ys ≡ Some i → placed contracts x ys ≡ take i ys ++ x ∷ drop i ys
unfolding place
placed_before contracts x ys i e =
    elim (nat_lt (place contracts x ys) (length ys)) as (λ c. cond c (Some (place contracts x ys)) None ≡ Some i → placed contracts x ys ≡ take i ys ++ x ∷ drop i ys) [
      | true ↦ λ s. let same : place contracts x ys ≡ i = cc in
          subst (λ n. placed contracts x ys ≡ take n ys ++ x ∷ drop n ys) same (placed_first contracts x ys)
      | false ↦ λ s. absurd (cc)
    ] e

placed_last : (contracts : List Contract) (x : Execution) (ys : List Execution) → length ys ≤ place contracts x ys → placed contracts x ys ≡ ys ++ x ∷ []
unfolding place
placed_last contracts x [] l = refl
placed_last contracts x (y ∷ ys) l =
    elim (behind contracts x y) as (λ c. suc (length ys) ≤ cond (not c) (1 + place contracts x ys) 0 → cond c (x ∷ y ∷ ys) (y ∷ placed contracts x ys) ≡ y ∷ ys ++ x ∷ []) [
      | true ↦ λ l. absurd (omega arith)
      | false ↦ λ l. ap (λ zs. y ∷ zs) (placed_last contracts x ys (omega arith))
    ] l

pub placed_behind : (contracts : List Contract) (x : Execution) (ys : List Execution) → position (behind contracts x) ys ≡ None → placed contracts x ys ≡ ys ++ x ∷ []
unfolding place
placed_behind contracts x ys e =
    elim (nat_lt (place contracts x ys) (length ys)) as (λ c. nat_lt (place contracts x ys) (length ys) ≡ c → cond c (Some (place contracts x ys)) None ≡ None → placed contracts x ys ≡ ys ++ x ∷ []) [
      | true ↦ λ l s. absurd (cc)
      | false ↦ λ l s. placed_last contracts x ys (ltb-false _ _ l)
    ] refl e
