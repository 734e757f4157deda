use Rattle.std.proofs.Common.{◌≡◌, ◌==◌, position, Some, None, ap, sym, ◌∙◌}
use Rattle.contract_types.specs.declared.ack.ServerAck.{ServerAck}
use Rattle.coordinator.specs.Acks.{with_server_ack}
use Rattle.coordinator.proofs.Puts.{put_found, put_missing}
use Rattle.coordinator.proofs.server_acks.ServerAcks.put.Goals as goal

pub returns-in-Some-clause-ok : goal.returns-in-Some-clause-ok
returns-in-Some-clause-ok c =
    let items = c.self.inside.items.items in
    let at : position (λ (a : ServerAck). a.server.0 == c.args.server.0) items ≡ Some c.in-Some.place =
    ap (position (λ (a : ServerAck). a.server.0 == c.args.server.0)) (sym c.deref.ensures.value) ∙ sym c.place_of.ensures ∙ c.in-Some.is in
    put_found (λ (a : ServerAck). a.server.0 == c.args.server.0) (λ a. record a { ack = c.args.ack }) (record { server = c.args.server; ack = c.args.ack })
    items c.in-Some.place c.index_mut.result.now at (sym c.index_mut.ensures.value)
    ∙ ap (with_server_ack c.args.server c.args.ack) c.self.view_is

pub returns-in_ok-push-in-None-clause-ok : goal.returns-in_ok-push-in-None-clause-ok
returns-in_ok-push-in-None-clause-ok c =
    let items = c.self.inside.items.items in
    let at : position (λ (a : ServerAck). a.server.0 == c.args.server.0) items ≡ None =
    ap (position (λ (a : ServerAck). a.server.0 == c.args.server.0)) (sym c.deref.ensures.value) ∙ sym c.place_of.ensures ∙ c.in-None.is in
    c.in_ok-push-in-None.ensures.items
    ∙ put_missing (λ (a : ServerAck). a.server.0 == c.args.server.0) (λ a. record a { ack = c.args.ack }) (record { server = c.args.server; ack = c.args.ack }) items at
    ∙ ap (with_server_ack c.args.server c.args.ack) c.self.view_is
