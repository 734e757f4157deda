use Rattle.std.proofs.Common.{◌≡◌, ◌+◌, ◌<◌, ◌^◌, List, map, filter, false, arith, ap, ◌∙◌, sym, subst}
use Rattle.primary_exec.specs.declared.session.Session.{Session}
use Rattle.primary_exec.specs.Execution.{IsSound, has_room, with_sent, parts_end_numbers}
use Rattle.primary_exec.proofs.Sound.{IsSound-sent}
use Rattle.primary_exec.proofs.primary.Primary.request.Goals as goal

pub invariant_of-self : goal.invariant_of-self
invariant_of-self g c =
    let last = c.self.inside.last in
    let sessions : c.in_ok-sessions.sessions.items ≡ map with_sent (filter has_room c.self.inside.sessions.items) =
    c.in_ok-sessions.ensures.sessions ∙ ap (λ (l : List Session). map with_sent (filter has_room l)) c.deref-2.ensures.value in
    let parts : parts_end_numbers c.self.inside.sessions.items ≡ false = ap parts_end_numbers (sym c.deref.ensures.value) ∙ sym c.ends_numbers.ensures ∙ c.if-ends_numbers.false in
    let fits : last + 1 < 2 ^ 62 = omega arith in
    let sound = IsSound-sent (last + 1) c.dispatch.new.pending.waiting c.self.inside.sessions.items fits c.dispatch.ensures.kept.below parts in
    (subst (λ (l : List Session). IsSound (last + 1) c.dispatch.new.pending.waiting l) (sym sessions) sound, c.dispatch.ensures.kept.reads_of)

pub invariant_of-self-2 : goal.invariant_of-self-2
invariant_of-self-2 g c =
    let last = c.self.inside.last in
    let sessions : c.in_ok-sessions.sessions.items ≡ map with_sent (filter has_room c.self.inside.sessions.items) =
    c.in_ok-sessions.ensures.sessions ∙ ap (λ (l : List Session). map with_sent (filter has_room l)) c.deref-2.ensures.value in
    let parts : parts_end_numbers c.self.inside.sessions.items ≡ false = ap parts_end_numbers (sym c.deref.ensures.value) ∙ sym c.ends_numbers.ensures ∙ c.if-ends_numbers.false in
    let fits : last + 1 < 2 ^ 62 = omega arith in
    let sound = IsSound-sent (last + 1) c.dispatch.new.pending.waiting c.self.inside.sessions.items fits c.dispatch.ensures.kept.below parts in
    (subst (λ (l : List Session). IsSound (last + 1) c.dispatch.new.pending.waiting l) (sym sessions) sound, c.dispatch.ensures.kept.reads_of)
