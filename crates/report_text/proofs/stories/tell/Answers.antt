use Rattle.std.proofs.Common.{ap, ◌∙◌, ◌++◌}
use Rattle.report_text.specs.Stories.{told_op}
use Rattle.report_text.proofs.Telling.{tell-one}
use Rattle.report_text.proofs.stories.tell.Goals as goal

pub returns : goal.returns
returns c = λ other.
    tell-one c.args.texts.now c.take_text-text.new.texts c.insert.new.self c.args.key.now c.in_ok-copy.copy other (told_op c.args.op.0) c.add_op.new.self c.in_ok-copy.ensures (c.in_ok-insert.ensures.updates.0 other) (c.take_text-text.ensures.gone other) (c.in_ok-add_op.ensures ∙ ap (λ front. front ++ told_op c.args.op.0) c.take_text-text.ensures.text)
