-- A flush goes on delivery by delivery.
use Rattle.std.proofs.Common.{◌≡◌, ◌+◌, ◌-◌, ℕ, Option, Some, None, refl, sym, ap, ◌∙◌, subst}
use Rattle.contract_types.specs.Setup.{SetupState}
use Rattle.contract_types.specs.declared.limits.Which.{Which}
use Rattle.world_core.specs.runs.Run.{message_at}
use Rattle.world_steps.specs.Waiting.{waiting}
use Rattle.table_play.specs.Play.{Played, is_over, play_arrival, flush_by, most_deliveries}
use Rattle.table_play.specs.Steps.{played_at, HasPartOf}
use Rattle.table_play.proofs.Grows.{on_err, keeps_part, flush_adds}
use Rattle.table_play.proofs.Flushes.{left_before, left_at_last, flush_stops, flush_meets, flush_goes, delivered}
use Rattle.table_play.proofs.events.flush.Goals as goal

pub returns-in_default-clause-ok : goal.returns-in_default-clause-ok
returns-in_default-clause-ok c =
    let inv = c.loop-count.invariant in
    let setup = c.args.world.now.setup in
    let only = c.args.only.now in
    let p = played_at c.loop-count.world c.loop-count.down.items c.loop-count.refused.items None in
    let waits : waiting setup p.past p.lost only ≡ None = ap (λ (s : SetupState). waiting s p.past p.lost only) (sym inv.1) ∙ sym (c.in_default.ensures inv.0) in
    sym (flush_stops (most_deliveries - c.loop-count._count) setup only p c.args.line waits) ∙ inv.2

pub returns-in_err-which-clause-err : goal.returns-in_err-which-clause-err
returns-in_err-which-clause-err c =
    let inv = c.loop-count.invariant in
    let setup = c.args.world.now.setup in
    let only = c.args.only.now in
    let line = c.args.line in
    let left = most_deliveries - c.loop-count._count in
    let p = played_at c.loop-count.world c.loop-count.down.items c.loop-count.refused.items None in
    on_err c.from_residual.result (subst (λ (q : Played). HasPartOf c.arrival.new.world q) inv.2
    (keeps_part c.loop-count.world c.arrival.new.world (flush_by left setup only p line) (flush_adds left setup only p line) c.in_err-which.ensures.err))

pub returns-in-Some-2-clause-ok : goal.returns-in-Some-2-clause-ok
returns-in-Some-2-clause-ok c =
    let inv = c.loop-count.invariant in
    let setup = c.args.world.now.setup in
    let only = c.args.only.now in
    let line = c.args.line in
    let number = c.in-Some.message in
    let which = c.in-Some-2.which in
    let left = most_deliveries - (c.loop-count._count + 1) in
    let p = played_at c.loop-count.world c.loop-count.down.items c.loop-count.refused.items None in
    let q = played_at c.arrival.new.world c.arrival.new.down.items c.arrival.new.refused.items (Some which) in
    let waits : waiting setup p.past p.lost only ≡ Some number = ap (λ (s : SetupState). waiting s p.past p.lost only) (sym inv.1) ∙ sym (c.in-Some.ensures inv.0) in
    let is : q ≡ delivered setup p line number =
    ap (λ (met : Option Which). played_at c.arrival.new.world c.arrival.new.down.items c.arrival.new.refused.items met) (sym c.in-Some-2.is) ∙ c.in_ok-which.ensures.ok
    ∙ ap (λ (s : SetupState). play_arrival s p line number (message_at p.past number)) inv.1 in
    sym (flush_meets left setup only p q line number which waits is refl) ∙ ap (λ (n : ℕ). flush_by n setup only p line) (sym (left_before c.loop-count._count c.loop-count-test.true)) ∙ inv.2

pub loop-count-preserved : goal.loop-count-preserved
loop-count-preserved c =
    let inv = c.loop-count.invariant in
    let setup = c.args.world.now.setup in
    let only = c.args.only.now in
    let line = c.args.line in
    let number = c.in-Some.message in
    let left = most_deliveries - (c.loop-count._count + 1) in
    let p = played_at c.loop-count.world c.loop-count.down.items c.loop-count.refused.items None in
    let q = played_at c.arrival.new.world c.arrival.new.down.items c.arrival.new.refused.items None in
    let waits : waiting setup p.past p.lost only ≡ Some number = ap (λ (s : SetupState). waiting s p.past p.lost only) (sym inv.1) ∙ sym (c.in-Some.ensures inv.0) in
    let is : q ≡ delivered setup p line number =
    ap (λ (met : Option Which). played_at c.arrival.new.world c.arrival.new.down.items c.arrival.new.refused.items met) (sym c.in_default-2.is) ∙ c.in_ok-which.ensures.ok
    ∙ ap (λ (s : SetupState). play_arrival s p line number (message_at p.past number)) inv.1 in (
      c.in_ok-which.ensures.on (ap is_over c.in_default-2.is),
      c.in_ok-which.ensures.setup ∙ inv.1,
      sym (flush_goes left setup only p q line number waits is refl) ∙ ap (λ (n : ℕ). flush_by n setup only p line) (sym (left_before c.loop-count._count c.loop-count-test.true)) ∙ inv.2,
    )

pub returns-clause-ok : goal.returns-clause-ok
returns-clause-ok c =
    let inv = c.loop-count.invariant in
    let p = played_at c.loop-count.world c.loop-count.down.items c.loop-count.refused.items None in
    sym (ap (λ (n : ℕ). flush_by n c.args.world.now.setup c.args.only.now p c.args.line) (left_at_last c.loop-count._count c.loop-count-test.false)) ∙ inv.2
