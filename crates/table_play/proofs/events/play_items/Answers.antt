-- The words go on one by one, and a call that wants memory leaves a part of what they make.
use Rattle.std.proofs.Common.{◌≡◌, Option, Some, None, refl, sym, ap, ◌∙◌, subst}
use Rattle.contract_types.specs.Setup.{SetupState}
use Rattle.contract_types.specs.declared.limits.Which.{Which}
use Rattle.script_text.specs.Sound.{fits_table}
use Rattle.table_play.specs.Play.{Played, is_over, play_word}
use Rattle.table_play.specs.Steps.{played_at, HasPartOf}
use Rattle.table_play.proofs.Grows.{on_err, items_part}
use Rattle.table_play.proofs.Flushes.{items_meet, items_go, fits_at}
use Rattle.table_play.proofs.events.play_items.Goals as goal

pub play_word-requires-clause-fits : goal.play_word-requires-clause-fits
play_word-requires-clause-fits c =
    let inv = c.loop-item.invariant in
    let item = c.item-item.result in
    ap (λ (s : SetupState). fits_table s item.word) inv.1
    ∙ fits_at c.args.world.now.setup c.args.items.now c.loop-item.item-index item c.loop-item-test.true c.item-item.is c.requires.fits

pub returns-in_err-which-clause-err : goal.returns-in_err-which-clause-err
returns-in_err-which-clause-err c =
    let inv = c.loop-item.invariant in
    let world = c.play_word.new.world in
    let item = c.item-item.result in
    let p = played_at c.loop-item.world c.loop-item.down.items c.loop-item.refused.items None in
    let word = subst (λ (s : SetupState). HasPartOf world (play_word s p item.line item.word)) inv.1 c.in_err-which.ensures.err in
    let rest = items_part c.args.world.now.setup p c.args.items.now c.loop-item.item-index item world c.loop-item-test.true c.item-item.is word in
    on_err c.from_residual.result (subst (λ (q : Played). HasPartOf world q) inv.2 rest)

pub returns-in-Some-clause-ok : goal.returns-in-Some-clause-ok
returns-in-Some-clause-ok c =
    let inv = c.loop-item.invariant in
    let setup = c.args.world.now.setup in
    let item = c.item-item.result in
    let which = c.in-Some.which in
    let p = played_at c.loop-item.world c.loop-item.down.items c.loop-item.refused.items None in
    let q = played_at c.play_word.new.world c.play_word.new.down.items c.play_word.new.refused.items (Some which) in
    let is : q ≡ play_word setup p item.line item.word =
    ap (λ (met : Option Which). played_at c.play_word.new.world c.play_word.new.down.items c.play_word.new.refused.items met) (sym c.in-Some.is) ∙ c.in_ok-which.ensures.ok
    ∙ ap (λ (s : SetupState). play_word s p item.line item.word) inv.1 in
    sym (items_meet setup p q c.args.items.now c.loop-item.item-index item which c.loop-item-test.true c.item-item.is is refl) ∙ inv.2

pub loop-item-preserved : goal.loop-item-preserved
loop-item-preserved c =
    let inv = c.loop-item.invariant in
    let setup = c.args.world.now.setup in
    let item = c.item-item.result in
    let p = played_at c.loop-item.world c.loop-item.down.items c.loop-item.refused.items None in
    let q = played_at c.play_word.new.world c.play_word.new.down.items c.play_word.new.refused.items None in
    let is : q ≡ play_word setup p item.line item.word =
    ap (λ (met : Option Which). played_at c.play_word.new.world c.play_word.new.down.items c.play_word.new.refused.items met) (sym c.in_default.is) ∙ c.in_ok-which.ensures.ok
    ∙ ap (λ (s : SetupState). play_word s p item.line item.word) inv.1 in (
      c.in_ok-which.ensures.on (ap is_over c.in_default.is),
      c.in_ok-which.ensures.setup ∙ inv.1,
      sym (items_go setup p q c.args.items.now c.loop-item.item-index item c.loop-item-test.true c.item-item.is is refl) ∙ inv.2,
    )
