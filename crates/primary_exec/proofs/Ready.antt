-- When an execution is ready.
use Rattle.std.proofs.Common.{◌≡◌, ℕ, ◌+◌, ◌*◌, true, false, cond, ◌&&◌, ◌||◌, nat_lt, List, [], ◌∷◌, map, length, Option, Some, None, option_map, refl, ap, ◌∙◌, sym, eq-eqb}
use Rattle.std.proofs.lemmas.Bool.{cond_both, and_parts, false≢true}
use Rattle.region_map.specs.declared.id.NodeId.{NodeId}
use Rattle.exec_types.specs.declared.message.Got.{Got}
use Rattle.contract_types.specs.declared.contract.Contract.{Contract}
use Rattle.write_dispatch.specs.Dispatch.{Acks, ack_of, reaches, counted_of, is_temp_majority, is_decided}
use Rattle.primary_exec.specs.declared.asking.Asking.{Asking}
use Rattle.primary_exec.specs.Execution.{Execution, started, decided, is_live, with_acked, with_stands, got_row, is_synced, is_handed, hand_over_of, becomes_ready}

-- the primary counts itself
counted_alone : (acks : Acks) (since me at : ℕ) (set : List ℕ) → set ≡ me ∷ [] → counted_of acks since me at set ≡ 1
counted_alone acks since me at set e = ap (counted_of acks since me at) e ∙ ap (λ b. 0 + cond (b || reaches (ack_of acks me) since at) 1 0) (eq-eqb me me refl)

decided_alone : (acks : Acks) (c : Contract) (me at : ℕ) → c.voters ≡ me ∷ [] → c.temp_voters ≡ None → is_decided acks c me at ≡ true
decided_alone acks c me at alone none =
    let temp : Option (List ℕ) → Option (ℕ × ℕ) = option_map (λ set. (counted_of acks c.since me at set, length set)) in
    ap (λ n. nat_lt (length c.voters) (2 * n) && is_temp_majority (temp c.temp_voters)) (counted_alone acks c.since me at c.voters alone)
    ∙ ap (λ (l : List ℕ). nat_lt (length l) 2 && is_temp_majority (temp c.temp_voters)) alone
    ∙ ap (λ (o : Option (List ℕ)). is_temp_majority (temp o)) none

pub alone_is_ready : (a : Asking) (me : NodeId) (initial : ℕ) → a.contract.voters ≡ me.0 ∷ [] → a.contract.temp_voters ≡ None → hand_over_of a.contract.primary ≡ None
    → (decided (started a me initial)).ready ≡ true
alone_is_ready a me initial alone none stays =
    let x : Execution = started a me initial in
    ap (λ b. b && is_handed x (hand_over_of a.contract.primary)) (decided_alone x.dispatch.acks a.contract me.0 (initial + 1) alone none)
    ∙ ap (is_handed x) stays

synced : (x : Execution) (o : Option ℕ) → is_synced x o ≡ true → (at : ℕ) × (o ≡ Some at) × (is_decided x.dispatch.acks x.contract x.me.0 at ≡ true)
synced x None h = absurd (false≢true h)
synced x (Some at) h = (at, refl, h)

pub ready_once_synced : (x : Execution) → x.ready ≡ false → (decided x).ready ≡ true → (at : ℕ) × (x.sync ≡ Some at) × (is_decided x.dispatch.acks x.contract x.me.0 at ≡ true)
ready_once_synced x before after =
    let becomes : becomes_ready x ≡ true = ap (λ b. b || becomes_ready x) (sym before) ∙ after in
    synced x x.sync (and_parts (is_synced x x.sync) (is_handed x (hand_over_of x.contract.primary)) becomes).0

pub stays_ready : (x : Execution) → x.ready ≡ true → (decided x).ready ≡ true
stays_ready x h = ap (λ b. b || becomes_ready x) h

pub got_keeps_ready : (x : Execution) (from : NodeId) (got : Got) → (got_row x from got).ready ≡ x.ready
got_keeps_ready x from got =
    cond_both (is_live x from got.session) (record x { sessions = map (with_acked from got.session got.upto) x.sessions; dispatch = with_stands x.dispatch from got got.stands }) x
    (λ (y : Execution). y.ready ≡ x.ready) (λ _. refl) (λ _. refl)
