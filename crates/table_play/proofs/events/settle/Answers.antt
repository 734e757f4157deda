-- The rounds go on one by one.
use Rattle.std.proofs.Common.{◌≡◌, ◌+◌, ◌-◌, ℕ, Option, Some, None, refl, sym, ap, ◌∙◌, subst}
use Rattle.contract_types.specs.Setup.{SetupState}
use Rattle.contract_types.specs.declared.limits.Which.{Which}
use Rattle.table_play.specs.Play.{Played, is_over, play_round, play_rounds}
use Rattle.table_play.specs.Steps.{played_at, HasPartOf}
use Rattle.table_play.proofs.Grows.{on_err, round_part}
use Rattle.table_play.proofs.Flushes.{rounds_before, rounds_last, rounds_meet, rounds_go}
use Rattle.table_play.proofs.events.settle.Goals as goal

pub returns-in_err-which-clause-err : goal.returns-in_err-which-clause-err
returns-in_err-which-clause-err c =
    let inv = c.loop-count.invariant in
    let setup = c.args.world.now.setup in
    let only = c.args.only.now in
    let line = c.args.line in
    let left = c.args.rounds - (c.loop-count._count + 1) in
    let p = played_at c.loop-count.world c.loop-count.down.items c.loop-count.refused.items None in
    let part : HasPartOf c.round.new.world (play_round setup only p line) = subst (λ (s : SetupState). HasPartOf c.round.new.world (play_round s only p line)) inv.1 c.in_err-which.ensures.err in
    let rest : HasPartOf c.round.new.world (play_rounds (c.args.rounds - c.loop-count._count) setup only p line) =
    subst (λ (n : ℕ). HasPartOf c.round.new.world (play_rounds n setup only p line)) (sym (rounds_before c.args.rounds c.loop-count._count c.loop-count-test.true))
    (round_part left setup only p line c.round.new.world part) in
    on_err c.from_residual.result (subst (λ (q : Played). HasPartOf c.round.new.world q) inv.2 rest)

pub returns-in-Some-clause-ok : goal.returns-in-Some-clause-ok
returns-in-Some-clause-ok c =
    let inv = c.loop-count.invariant in
    let setup = c.args.world.now.setup in
    let only = c.args.only.now in
    let line = c.args.line in
    let which = c.in-Some.which in
    let left = c.args.rounds - (c.loop-count._count + 1) in
    let p = played_at c.loop-count.world c.loop-count.down.items c.loop-count.refused.items None in
    let q = played_at c.round.new.world c.round.new.down.items c.round.new.refused.items (Some which) in
    let is : q ≡ play_round setup only p line =
    ap (λ (met : Option Which). played_at c.round.new.world c.round.new.down.items c.round.new.refused.items met) (sym c.in-Some.is) ∙ c.in_ok-which.ensures.ok
    ∙ ap (λ (s : SetupState). play_round s only p line) inv.1 in
    sym (rounds_meet left setup only p q line which is refl) ∙ ap (λ (n : ℕ). play_rounds n setup only p line) (sym (rounds_before c.args.rounds c.loop-count._count c.loop-count-test.true)) ∙ inv.2

pub loop-count-preserved : goal.loop-count-preserved
loop-count-preserved c =
    let inv = c.loop-count.invariant in
    let setup = c.args.world.now.setup in
    let only = c.args.only.now in
    let line = c.args.line in
    let left = c.args.rounds - (c.loop-count._count + 1) in
    let p = played_at c.loop-count.world c.loop-count.down.items c.loop-count.refused.items None in
    let q = played_at c.round.new.world c.round.new.down.items c.round.new.refused.items None in
    let is : q ≡ play_round setup only p line =
    ap (λ (met : Option Which). played_at c.round.new.world c.round.new.down.items c.round.new.refused.items met) (sym c.in_default.is) ∙ c.in_ok-which.ensures.ok
    ∙ ap (λ (s : SetupState). play_round s only p line) inv.1 in (
      c.in_ok-which.ensures.on (ap is_over c.in_default.is),
      c.in_ok-which.ensures.setup ∙ inv.1,
      sym (rounds_go left setup only p q line is refl) ∙ ap (λ (n : ℕ). play_rounds n setup only p line) (sym (rounds_before c.args.rounds c.loop-count._count c.loop-count-test.true)) ∙ inv.2,
    )

pub returns-clause-ok : goal.returns-clause-ok
returns-clause-ok c =
    let inv = c.loop-count.invariant in
    let p = played_at c.loop-count.world c.loop-count.down.items c.loop-count.refused.items None in
    sym (ap (λ (n : ℕ). play_rounds n c.args.world.now.setup c.args.only.now p c.args.line) (rounds_last c.args.rounds c.loop-count._count c.loop-count-test.false)) ∙ inv.2
