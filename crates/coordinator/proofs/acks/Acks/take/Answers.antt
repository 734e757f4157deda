use Rattle.std.proofs.Common.{◌≡◌, [], ◌∷◌, ◌++◌, position, set, Some, None, ap, sym, ◌∙◌}
use Rattle.region_map.specs.Equal.{same_id}
use Rattle.coordinator.specs.declared.acks.ContractAcks.{ContractAcks}
use Rattle.coordinator.specs.Acks.{with_server_ack, with_ack}
use Rattle.coordinator.proofs.Puts.{put_found, put_missing}
use Rattle.coordinator.proofs.acks.Acks.take.Goals as goal

pub returns-in_ok-put-in-Some-clause-ok : goal.returns-in_ok-put-in-Some-clause-ok
returns-in_ok-put-in-Some-clause-ok c =
    let items = c.self.inside.contracts.items in
    let old : ContractAcks = c.index_mut.result.now in
    let at : position (λ (k : ContractAcks). same_id k.contract c.args.contract) items ≡ Some c.in-Some.place =
    ap (position (λ (k : ContractAcks). same_id k.contract c.args.contract)) (sym c.deref.ensures.value) ∙ sym c.place_of.ensures ∙ c.in-Some.is in
    ap (λ l. set items c.in-Some.place (record old { acks = l })) c.in_ok-put-in-Some.ensures.ok
    ∙ put_found (λ (k : ContractAcks). same_id k.contract c.args.contract) (λ k. record k { acks = with_server_ack c.args.server c.args.ack k.acks })
    (record { contract = c.args.contract; acks = record { server = c.args.server; ack = c.args.ack } ∷ [] })
    items c.in-Some.place old at (sym c.index_mut.ensures.value)
    ∙ ap (with_ack c.args.contract c.args.server c.args.ack) c.self.view_is

pub returns-in_ok-push-in-None-clause-ok : goal.returns-in_ok-push-in-None-clause-ok
returns-in_ok-push-in-None-clause-ok c =
    let items = c.self.inside.contracts.items in
    let at : position (λ (k : ContractAcks). same_id k.contract c.args.contract) items ≡ None =
    ap (position (λ (k : ContractAcks). same_id k.contract c.args.contract)) (sym c.deref.ensures.value) ∙ sym c.place_of.ensures ∙ c.in-None.is in
    c.in_ok-push-in-None.ensures.items
    ∙ ap (λ l. items ++ record { contract = c.args.contract; acks = l } ∷ []) c.in_ok-acks-in-None.ensures
    ∙ put_missing (λ (k : ContractAcks). same_id k.contract c.args.contract) (λ k. record k { acks = with_server_ack c.args.server c.args.ack k.acks })
    (record { contract = c.args.contract; acks = record { server = c.args.server; ack = c.args.ack } ∷ [] }) items at
    ∙ ap (with_ack c.args.contract c.args.server c.args.ack) c.self.view_is
