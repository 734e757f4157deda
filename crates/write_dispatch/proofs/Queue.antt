-- What waits, after one more and after one is taken.
use Rattle.std.proofs.Common.{◌≡◌, ℕ, suc, ◌+◌, ◌<◌, ◌≤◌, true, false, cond, not, nat_lt, List, [], ◌∷◌, ◌++◌, length, take, drop, remove, slice_get, position, Some, None, refl, sym, ap, ◌∙◌, subst, arith}
use Rattle.std.specs.List.{position_or_len}
use Rattle.std.proofs.lemmas.Bool.{and_parts, and_from, ltb-true, ltb-false}
use Rattle.std.proofs.lemmas.List.{drop-drop, drop-take, drop-append-le, length-take-le}
use Rattle.std.proofs.lemmas.Option.{slice_get_past}
use Rattle.register_laws.specs.declared.operation.OpId.{OpId}
use Rattle.write_dispatch.specs.declared.decided.Decided.{Decided}
use Rattle.write_dispatch.specs.Dispatch.{is_of, pending_of, without_op, all_below, all_above, is_rising}

-- an element of the rest is taken out of the rest
pub drop-remove : {X : Type 0} (head index : ℕ) (xs : List X) → head + index ≤ length xs → drop head (remove xs (head + index)) ≡ remove (drop head xs) index
drop-remove head index xs h =
    let front : length (take (head + index) xs) ≡ head + index = length-take-le (head + index) xs h in
    let places : head + suc index ≡ suc (head + index) = omega arith in
    drop-append-le head (take (head + index) xs) (drop (suc (head + index)) xs) (omega arith)
    ∙ ap (λ ys. ys ++ drop (suc (head + index)) xs) (drop-take head index xs)
    ∙ ap (λ ys. take index (drop head xs) ++ ys) (ap (λ n. drop n xs) (sym places) ∙ sym (drop-drop (suc index) head xs))

-- ---- the timestamps rise

all_above-push : (at : ℕ) (ds : List Decided) (d : Decided) → all_above at ds ≡ true → nat_lt at d.at ≡ true → all_above at (ds ++ d ∷ []) ≡ true
all_above-push at [] d h k = and_from _ _ k refl
all_above-push at (e ∷ es) d h k = let parts = and_parts (nat_lt at e.at) (all_above at es) h in and_from _ _ parts.0 (all_above-push at es d parts.1 k)

pub is_rising-push : (ds : List Decided) (d : Decided) → is_rising ds ≡ true → all_below d.at ds ≡ true → is_rising (ds ++ d ∷ []) ≡ true
is_rising-push [] d h k = refl
is_rising-push (e ∷ es) d h k =
    let parts = and_parts (all_above e.at es) (is_rising es) h in
    let below = and_parts (nat_lt e.at d.at) (all_below d.at es) k in
    and_from _ _ (all_above-push e.at es d parts.0 below.0) (is_rising-push es d parts.1 below.1)

pub all_above-without_op : (at : ℕ) (ds : List Decided) (op : OpId) → all_above at ds ≡ true → all_above at (without_op ds op) ≡ true
all_above-without_op at [] op h = refl
all_above-without_op at (e ∷ es) op h =
    let parts = and_parts (nat_lt at e.at) (all_above at es) h in
    elim (is_of op e.op) as (λ c. all_above at (cond c es (e ∷ without_op es op)) ≡ true) [ true ↦ parts.1 | false ↦ and_from _ _ parts.0 (all_above-without_op at es op parts.1) ]

pub is_rising-without_op : (ds : List Decided) (op : OpId) → is_rising ds ≡ true → is_rising (without_op ds op) ≡ true
is_rising-without_op [] op h = refl
is_rising-without_op (e ∷ es) op h =
    let parts = and_parts (all_above e.at es) (is_rising es) h in
    elim (is_of op e.op) as (λ c. is_rising (cond c es (e ∷ without_op es op)) ≡ true) [ true ↦ parts.1 | false ↦ and_from _ _ (all_above-without_op e.at es op parts.0) (is_rising-without_op es op parts.1) ]

-- ---- the least pending one of an operation, by its place

place : OpId → List Decided → ℕ
place op ds = position_or_len (λ (d : Decided). is_of op d.op) ds

slice_get-place : (ds : List Decided) (op : OpId) → slice_get ds (place op ds) ≡ pending_of ds op
unfolding place
slice_get-place [] op = refl
slice_get-place (d ∷ ds) op =
    let e : 1 + place op ds ≡ suc (place op ds) = omega arith in
    elim (is_of op d.op) as (λ c. slice_get (d ∷ ds) (cond (not c) (1 + place op ds) 0) ≡ cond c (Some d) (pending_of ds op)) [
      | true ↦ refl
      | false ↦ ap (λ n. slice_get (d ∷ ds) n) e ∙ slice_get-place ds op
    ]

remove-place : (ds : List Decided) (op : OpId) → remove ds (place op ds) ≡ without_op ds op
unfolding place
remove-place [] op = refl
remove-place (d ∷ ds) op =
    let e : 1 + place op ds ≡ suc (place op ds) = omega arith in
    elim (is_of op d.op) as (λ c. remove (d ∷ ds) (cond (not c) (1 + place op ds) 0) ≡ cond c ds (d ∷ without_op ds op)) [
      | true ↦ refl
      | false ↦ ap (λ n. remove (d ∷ ds) n) e ∙ ap (λ ys. d ∷ ys) (remove-place ds op)
    ]

-- what a place found by the operation says
pub record IsPlace (ds : List Decided) (op : OpId) (i : ℕ) : Type 0 where
  pub within : i < length ds
  pub found : slice_get ds i ≡ pending_of ds op
  pub left : remove ds i ≡ without_op ds op

pub place_found : (ds : List Decided) (op : OpId) (i : ℕ) → position (λ (d : Decided). is_of op d.op) ds ≡ Some i → IsPlace ds op i
unfolding place
place_found ds op i e =
    elim (nat_lt (place op ds) (length ds)) as (λ c. nat_lt (place op ds) (length ds) ≡ c → cond c (Some (place op ds)) None ≡ Some i → IsPlace ds op i) [
      | true ↦ λ l s. let same : place op ds ≡ i = cc in
          subst (λ n. IsPlace ds op n) same (record { within = ltb-true _ _ l; found = slice_get-place ds op; left = remove-place ds op })
      | false ↦ λ l s. absurd (cc)
    ] refl e

pub place_missing : (ds : List Decided) (op : OpId) → position (λ (d : Decided). is_of op d.op) ds ≡ None → pending_of ds op ≡ None
unfolding place
place_missing ds op e =
    elim (nat_lt (place op ds) (length ds)) as (λ c. nat_lt (place op ds) (length ds) ≡ c → cond c (Some (place op ds)) None ≡ None → pending_of ds op ≡ None) [
      | true ↦ λ l s. absurd (cc)
      | false ↦ λ l s. sym (slice_get-place ds op) ∙ slice_get_past ds (place op ds) (ltb-false _ _ l)
    ] refl e
