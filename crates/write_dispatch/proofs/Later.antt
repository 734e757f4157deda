-- Later acks, and earlier timestamps.
use Rattle.std.proofs.Common.{◌≡◌, ◌==◌, ℕ, ◌*◌, ◌<◌, ◌≤◌, true, false, cond, ◌&&◌, ◌||◌, nat_lt, List, [], length, Option, Some, None, option_map, slice_set, refl, sym, ap, ◌∙◌, subst, arith}
use Rattle.std.proofs.lemmas.Bool.{cond_both, and_parts, and_from, eqb-true, eqb-false, ltb-true, ltb-false, lt-ltb, false≢true}
use Rattle.std.proofs.lemmas.Bool.Decides.{nat_tests}
use lib.ListN.{replicate}
use Rattle.std.proofs.lemmas.List.{get_or-replicate, get_or-set_same, get_or-set_other, get_or_past}
use Rattle.list_laws.proofs.Counts.{more_pass}
use Rattle.contract_types.specs.declared.contract.Contract.{Contract}
use Rattle.write_dispatch.specs.declared.decided.KeptAck.{KeptAck}
use Rattle.write_dispatch.specs.Dispatch.{Acks, no_acks, ack_of, exceeds, with_ack, reaches, is_counted, counted_of, is_temp_majority, is_decided}
use Rattle.write_dispatch.specs.Later.{keeps_pace}

pub no_acks-none : (server : ℕ) → ack_of no_acks server ≡ None
unfolding no_acks
no_acks-none server =
    elim (nat_lt server 64) as (λ c. nat_lt server 64 ≡ c → ack_of (replicate 64 None) server ≡ None) [
      | true ↦ λ e. get_or-replicate 64 server None None (ltb-true _ _ e)
      | false ↦ λ e. get_or_past (replicate 64 None) server None (ltb-false _ _ e)
    ] refl

pub no_acks-length : length no_acks ≡ 64
unfolding no_acks
no_acks-length = refl

-- ---- one server's ack

set_same : (acks : Acks) (server : ℕ) (kept : Option KeptAck) → server < length acks → ack_of (slice_set acks server kept) server ≡ kept
set_same acks server kept l = get_or-set_same acks server kept None l

set_other : (acks : Acks) (server other : ℕ) (kept : Option KeptAck) → (other ≡ server → ⊥) → ack_of (slice_set acks server kept) other ≡ ack_of acks other
set_other acks server other kept apart = get_or-set_other acks server other kept None apart

pub with_ack-other : (acks : Acks) (server view at other : ℕ) → (other ≡ server → ⊥) → ack_of (with_ack acks server view at) other ≡ ack_of acks other
with_ack-other acks server view at other apart =
    cond_both (exceeds view at (ack_of acks server)) (slice_set acks server (Some (record { view = view; at = at }))) acks (λ (a : Acks). ack_of a other ≡ ack_of acks other) (λ _. set_other acks server other _ apart) (λ _. refl)

exceeds-itself : (view at : ℕ) → exceeds view at (Some (record { view = view; at = at })) ≡ false
exceeds-itself view at = grind (arith, nat_tests)

pub with_ack-again : (acks : Acks) (server view at : ℕ) → server < length acks → with_ack (with_ack acks server view at) server view at ≡ with_ack acks server view at
with_ack-again acks server view at l =
    cond_both (exceeds view at (ack_of acks server)) (slice_set acks server (Some (record { view = view; at = at }))) acks (λ (a : Acks). with_ack a server view at ≡ a)
    (λ _. ap (λ b. cond b (slice_set (slice_set acks server (Some (record { view = view; at = at }))) server (Some (record { view = view; at = at }))) (slice_set acks server (Some (record { view = view; at = at })))) (ap (exceeds view at) (set_same acks server (Some (record { view = view; at = at })) l) ∙ exceeds-itself view at))
    (λ e. ap (λ b. cond b (slice_set acks server (Some (record { view = view; at = at }))) acks) e)

-- ---- a later ack

reaches-later : (kept : Option KeptAck) (view at since moment : ℕ) → exceeds view at kept ≡ true → keeps_pace view at kept ≡ true → reaches kept since moment ≡ true → reaches (Some (record { view = view; at = at })) since moment ≡ true
reaches-later None view at since moment e k r = absurd (false≢true r)
reaches-later (Some kept) view at since moment e k r = grind (arith, nat_tests)

within : (acks : Acks) (server since moment : ℕ) → reaches (ack_of acks server) since moment ≡ true → server < length acks
within acks server since moment r =
    elim (nat_lt server (length acks)) as (λ c. nat_lt server (length acks) ≡ c → server < length acks) [
      | true ↦ λ e. ltb-true _ _ e
      | false ↦ λ e. absurd (false≢true (ap (λ kept. reaches kept since moment) (sym (get_or_past acks server None (ltb-false _ _ e))) ∙ r))
    ] refl

own-later : (acks : Acks) (server view at since moment : ℕ) → keeps_pace view at (ack_of acks server) ≡ true → reaches (ack_of acks server) since moment ≡ true → reaches (ack_of (with_ack acks server view at) server) since moment ≡ true
own-later acks server view at since moment k r =
    cond_both (exceeds view at (ack_of acks server)) (slice_set acks server (Some (record { view = view; at = at }))) acks (λ (a : Acks). reaches (ack_of a server) since moment ≡ true)
    (λ e. ap (λ kept. reaches kept since moment) (set_same acks server (Some (record { view = view; at = at })) (within acks server since moment r)) ∙ reaches-later (ack_of acks server) view at since moment e k r)
    (λ _. r)

ack-later : (acks : Acks) (server view at since moment counted : ℕ) → keeps_pace view at (ack_of acks server) ≡ true → reaches (ack_of acks counted) since moment ≡ true → reaches (ack_of (with_ack acks server view at) counted) since moment ≡ true
ack-later acks server view at since moment counted k r =
    elim (counted == server) as (λ c. (counted == server) ≡ c → reaches (ack_of (with_ack acks server view at) counted) since moment ≡ true) [
      | true ↦ λ e. let same : server ≡ counted = sym (eqb-true counted server e) in
          subst (λ n. reaches (ack_of (with_ack acks server view at) n) since moment ≡ true) same (own-later acks server view at since moment k (subst (λ n. reaches (ack_of acks n) since moment ≡ true) (sym same) r))
      | false ↦ λ e. ap (λ kept. reaches kept since moment) (with_ack-other acks server view at counted (eqb-false counted server e)) ∙ r
    ] refl

pub counted-later : (acks : Acks) (server view at since me moment counted : ℕ) → keeps_pace view at (ack_of acks server) ≡ true → is_counted acks since me moment counted ≡ true → is_counted (with_ack acks server view at) since me moment counted ≡ true
counted-later acks server view at since me moment counted k r =
    elim (counted == me) as (λ c. (c || reaches (ack_of acks counted) since moment) ≡ true → (c || reaches (ack_of (with_ack acks server view at) counted) since moment) ≡ true) [
      | true ↦ λ _. refl
      | false ↦ λ e. ack-later acks server view at since moment counted k e
    ] r

-- ---- counts

pub count-later : (acks : Acks) (server view at since me moment : ℕ) (set : List ℕ) → keeps_pace view at (ack_of acks server) ≡ true → counted_of acks since me moment set ≤ counted_of (with_ack acks server view at) since me moment set
count-later acks server view at since me moment set k =
    more_pass (is_counted acks since me moment) (is_counted (with_ack acks server view at) since me moment) set (λ n e. counted-later acks server view at since me moment n k e)

reaches-earlier : (kept : Option KeptAck) (since earlier later : ℕ) → earlier ≤ later → reaches kept since later ≡ true → reaches kept since earlier ≡ true
reaches-earlier None since earlier later l r = r
reaches-earlier (Some kept) since earlier later l r = grind (arith, nat_tests)

counted-earlier : (acks : Acks) (since me earlier later n : ℕ) → earlier ≤ later → is_counted acks since me later n ≡ true → is_counted acks since me earlier n ≡ true
counted-earlier acks since me earlier later n l r =
    elim (n == me) as (λ c. (c || reaches (ack_of acks n) since later) ≡ true → (c || reaches (ack_of acks n) since earlier) ≡ true) [
      | true ↦ λ _. refl
      | false ↦ λ e. reaches-earlier (ack_of acks n) since earlier later l e
    ] r

count-earlier : (acks : Acks) (since me earlier later : ℕ) (set : List ℕ) → earlier ≤ later → counted_of acks since me later set ≤ counted_of acks since me earlier set
count-earlier acks since me earlier later set l =
    more_pass (is_counted acks since me later) (is_counted acks since me earlier) set (λ n e. counted-earlier acks since me earlier later n l e)

-- ---- majorities

majority-more : (of few more : ℕ) → few ≤ more → nat_lt of (2 * few) ≡ true → nat_lt of (2 * more) ≡ true
majority-more of few more l e = let m : of < 2 * few = ltb-true of (2 * few) e in lt-ltb of (2 * more) (omega arith)

-- what is decided by some counts is decided by counts of each set that are not lower
decided-more : (few more : List ℕ → ℕ) (set : List ℕ) (temp : Option (List ℕ)) → ((s : List ℕ) → few s ≤ more s)
    → (nat_lt (length set) (2 * few set) && is_temp_majority (option_map (λ s. (few s, length s)) temp)) ≡ true
    → (nat_lt (length set) (2 * more set) && is_temp_majority (option_map (λ s. (more s, length s)) temp)) ≡ true
decided-more few more set None h e = let parts = and_parts (nat_lt (length set) (2 * few set)) true e in and_from _ _ (majority-more (length set) (few set) (more set) (h set) parts.0) refl
decided-more few more set (Some t) h e =
    let parts = and_parts (nat_lt (length set) (2 * few set)) (nat_lt (length t) (2 * few t)) e in
    and_from _ _ (majority-more (length set) (few set) (more set) (h set) parts.0) (majority-more (length t) (few t) (more t) (h t) parts.1)

pub decided-later : (acks : Acks) (server view at me moment : ℕ) (contract : Contract) → keeps_pace view at (ack_of acks server) ≡ true → is_decided acks contract me moment ≡ true → is_decided (with_ack acks server view at) contract me moment ≡ true
decided-later acks server view at me moment contract k d =
    decided-more (counted_of acks contract.since me moment) (counted_of (with_ack acks server view at) contract.since me moment) contract.voters contract.temp_voters (λ s. count-later acks server view at contract.since me moment s k) d

pub decided-earlier : (acks : Acks) (me earlier later : ℕ) (contract : Contract) → earlier ≤ later → is_decided acks contract me later ≡ true → is_decided acks contract me earlier ≡ true
decided-earlier acks me earlier later contract l d =
    decided-more (counted_of acks contract.since me later) (counted_of acks contract.since me earlier) contract.voters contract.temp_voters (λ s. count-earlier acks contract.since me earlier later s l) d
