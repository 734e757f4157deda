use Rattle.std.proofs.Common.{◌++◌, ap, ◌∙◌}
use Rattle.backfill_items.proofs.KeySets.{pop-insert}
use Rattle.backfill_items.proofs.key_set.set_of.Goals as goal

pub taking-preserved : goal.taking-preserved
taking-preserved c =
    ap (λ xs. c.pop.new.self.items ++ xs) c.in_ok-insert.ensures.keys
    ∙ pop-insert c.args.keys.items c.taking.keys.items c.pop.new.self.items c.taking.set.keys c.in-Some.key c.requires c.taking.invariant c.in-Some.ensures.items
