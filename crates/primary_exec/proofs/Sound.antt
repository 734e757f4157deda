-- What each row keeps of an execution's bounds.
use Rattle.std.proofs.Common.{◌≡◌, ℕ, ◌+◌, ◌^◌, ◌<◌, true, false, cond, ◌&&◌, nat_lt, nat_le, List, [], ◌∷◌, ◌++◌, map, filter, length, take, drop, refl, ap, ◌∙◌, arith, append-nil}
use Rattle.std.proofs.lemmas.List.{drop_all, take_all}
use Rattle.std.proofs.lemmas.Bool.{cond_both, and_parts, and_from, ltb-true, lt-ltb, leb-false, or_parts}
use Rattle.std.proofs.lemmas.List.Elements.{All-from_recursion, recursion_from_All}
use Rattle.std.specs.List.{AllByRecursion}
use Rattle.region_map.specs.declared.id.NodeId.{NodeId}
use Rattle.register_laws.specs.declared.operation.OpId.{OpId}
use Rattle.contract_types.specs.declared.contract.Contract.{Contract}
use Rattle.exec_types.specs.declared.message.SessionName.{SessionName}
use Rattle.write_dispatch.specs.declared.decided.Decided.{Decided}
use Rattle.write_dispatch.specs.Dispatch.{Acks, is_decided, behind_first, is_of, without_op, all_below}
use Rattle.primary_exec.specs.declared.session.Session.{Session}
use Rattle.primary_exec.specs.Execution.{IsSound, has_room, with_sent, is_session, with_acked, parts_end_numbers}

pub below-without_op : (at : ℕ) (ds : List Decided) (op : OpId) → all_below at ds ≡ true → all_below at (without_op ds op) ≡ true
below-without_op at [] op h = refl
below-without_op at (d ∷ ds) op h =
    let both = and_parts (nat_lt d.at at) (all_below at ds) h in
    cond_both (is_of op d.op) ds (d ∷ without_op ds op) (λ (l : List Decided). all_below at l ≡ true)
    (λ _. both.1) (λ _. and_from (nat_lt d.at at) (all_below at (without_op ds op)) both.0 (below-without_op at ds op both.1))

pub below-push : (at : ℕ) (ds : List Decided) (d : Decided) → all_below at ds ≡ true → d.at ≡ at → all_below (at + 1) (ds ++ d ∷ []) ≡ true
below-push at [] d h e = and_from (nat_lt d.at (at + 1)) true (lt-ltb d.at (at + 1) (omega arith)) refl
below-push at (x ∷ ds) d h e =
    let both = and_parts (nat_lt x.at at) (all_below at ds) h in
    let below : x.at < at = ltb-true x.at at both.0 in
    and_from (nat_lt x.at (at + 1)) (all_below (at + 1) (ds ++ d ∷ [])) (lt-ltb x.at (at + 1) (omega arith)) (below-push at ds d both.1 e)

pub below-next : (at : ℕ) (ds : List Decided) → all_below at ds ≡ true → all_below (at + 1) ds ≡ true
below-next at [] h = refl
below-next at (x ∷ ds) h =
    let both = and_parts (nat_lt x.at at) (all_below at ds) h in
    let below : x.at < at = ltb-true x.at at both.0 in
    and_from (nat_lt x.at (at + 1)) (all_below (at + 1) ds) (lt-ltb x.at (at + 1) (omega arith)) (below-next at ds both.1)

pub below-behind_first : (at : ℕ) (acks : Acks) (c : Contract) (me : ℕ) (ds : List Decided) → all_below at ds ≡ true → all_below at (behind_first acks c me ds) ≡ true
below-behind_first at acks c me [] h = refl
below-behind_first at acks c me (d ∷ ds) h =
    cond_both (is_decided acks c me d.at) ds (d ∷ ds) (λ (l : List Decided). all_below at l ≡ true) (λ _. (and_parts (nat_lt d.at at) (all_below at ds) h).1) (λ _. h)

-- a session whose parts have numbers below the end
abbrev pub IsBounded : Session → Type 0
IsBounded s = s.sent < 2 ^ 62

sent_bounded : (xs : List Session) → parts_end_numbers xs ≡ false → AllByRecursion IsBounded (map with_sent (filter has_room xs))
sent_bounded [] h = tt
sent_bounded (x ∷ xs) h =
    let parts = or_parts (has_room x && nat_le (2 ^ 62) (x.sent + 1)) (parts_end_numbers xs) h in
    elim (has_room x) as (λ c. (c && nat_le (2 ^ 62) (x.sent + 1)) ≡ false → AllByRecursion IsBounded (map with_sent (cond c (x ∷ filter has_room xs) (filter has_room xs)))) [
      | true ↦ λ e. (leb-false (2 ^ 62) (x.sent + 1) e, sent_bounded xs parts.1)
      | false ↦ λ _. sent_bounded xs parts.1
    ] parts.0

acked_bounded : (from : NodeId) (name : SessionName) (upto : ℕ) (xs : List Session) → AllByRecursion IsBounded xs → AllByRecursion IsBounded (map (with_acked from name upto) xs)
acked_bounded from name upto [] h = tt
acked_bounded from name upto (x ∷ xs) h =
    (cond_both (is_session from name x) _ x IsBounded (λ _. h.0) (λ _. h.0), acked_bounded from name upto xs h.1)

pub IsSound-below : (last : ℕ) (waiting rest : List Decided) (sessions : List Session) → IsSound last waiting sessions → ((at : ℕ) → all_below at waiting ≡ true → all_below at rest ≡ true) → IsSound last rest sessions
IsSound-below last waiting rest sessions h f = record { numbers = h.numbers; waiting_below = f (last + 1) h.waiting_below; parts = h.parts }

pub IsSound-sent : (last : ℕ) (waiting : List Decided) (sessions : List Session) → last < 2 ^ 62 → all_below (last + 1) waiting ≡ true → parts_end_numbers sessions ≡ false → IsSound last waiting (map with_sent (filter has_room sessions))
IsSound-sent last waiting sessions fits below parts =
    record {
      numbers = fits;
      waiting_below = below;
      parts = All-from_recursion IsBounded (map with_sent (filter has_room sessions)) (sent_bounded sessions parts);
    }

pub IsSound-acked : (from : NodeId) (name : SessionName) (upto last : ℕ) (waiting : List Decided) (sessions : List Session) → IsSound last waiting sessions → IsSound last waiting (map (with_acked from name upto) sessions)
IsSound-acked from name upto last waiting sessions h =
    record { numbers = h.numbers; waiting_below = h.waiting_below; parts = All-from_recursion IsBounded (map (with_acked from name upto) sessions) (acked_bounded from name upto sessions (recursion_from_All IsBounded sessions h.parts)) }

-- a slice of a vector that was written whole is all of the vector
pub whole_slice : {A : Type 0} (n : ℕ) (xs ys : List A) → length ys ≡ n → length xs ≡ length ys → take n (xs ++ drop (length xs) ys) ≡ xs
whole_slice n xs ys e f =
    let none : drop (length xs) ys ≡ [] = drop_all (length xs) ys (omega arith) in
    ap (λ (l : List _). take n (xs ++ l)) none ∙ ap (take n) (append-nil xs) ∙ take_all n xs (omega arith)
