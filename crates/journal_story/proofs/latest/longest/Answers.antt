use Rattle.std.proofs.Common.{map, reverse, ◌∙◌}
use Rattle.journal_story.proofs.Viewing.{longest-more}
use Rattle.journal_story.proofs.latest.longest.Goals as goal

pub loop-node-preserved : goal.loop-node-preserved
loop-node-preserved c =
    c.longer-longest.ensures
    ∙ longest-more (reverse c.args.entries.now) c.loop-node.node (map (λ r. r.now) c.loop-node.longest.items) (map (λ r. r.now) c.in_ok-viewed_by.field-0.items) c.loop-node.invariant c.in_ok-viewed_by.ensures
