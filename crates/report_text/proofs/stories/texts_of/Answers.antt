use Rattle.std.proofs.Common.{ap, sym, ◌∙◌, List, take, reverse}
use Rattle.node_core.specs.declared.journal.Entry.{Entry}
use Rattle.journal_story.specs.runs.Story.{points}
use Rattle.report_text.specs.Stories.{text_at, points_text}
use Rattle.report_text.proofs.Lists.{reverse-more_read}
use Rattle.report_text.proofs.Telling.{tell-entry}
use Rattle.report_text.proofs.stories.texts_of.Goals as goal

pub loop-entry-preserved : goal.loop-entry-preserved
loop-entry-preserved c = λ key.
    tell-entry c.args.table.now c.args.known.now.past key c.entry-item.result (reverse (take c.loop-entry.entry-index c.entries-entries.result.now)) (text_at c.loop-entry.texts key) (text_at c.tell_entry.new.texts key) (c.loop-entry.invariant key) (c.in_ok-tell_entry.ensures key)
    ∙ ap (λ (es : List Entry). points_text c.args.table.now c.args.known.now.past key (points es)) (sym (reverse-more_read c.entries-entries.result.now c.loop-entry.entry-index c.entry-item.result c.loop-entry-test.true c.entry-item.is))
