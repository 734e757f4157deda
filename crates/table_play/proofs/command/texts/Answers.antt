use Rattle.std.proofs.Common.{◌∙◌, ap, map}
use Rattle.table_play.proofs.Texts.{one_more}
use Rattle.table_play.proofs.command.texts.Goals as goal

pub loop-word-preserved : goal.loop-word-preserved
loop-word-preserved c =
    ap (map (λ text. text.now)) c.in_ok-push.ensures.items
    ∙ one_more (λ text. text.now) (λ word. word.items) c.loop-word.texts.items c.in-Ok.text c.args.words.now c.loop-word.word-index c.word-item.result c.loop-word.invariant c.loop-word-test.true c.word-item.is (c.in-Ok.ensures.cases.0 ∙ c.as_slice.ensures.value)
