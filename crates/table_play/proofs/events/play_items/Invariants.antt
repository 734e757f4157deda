use Rattle.std.proofs.Common.{◌≡◌, None, drop}
use Rattle.table_play.specs.Play.{play_items}
use Rattle.table_play.specs.Steps.{played_at}
use Rattle.table_play.proofs.events.play_items.Given as goal

abbrev pub invariant-loop-item : goal.invariant-loop-item
invariant-loop-item l =
    (l.world.ended ≡ None)
    × (l.world.setup ≡ l.fn.world.setup)
    × (play_items l.fn.world.setup (played_at l.world l.down.items l.refused.items None) (drop l.item-index l.items)
    ≡ play_items l.fn.world.setup (played_at l.fn.world l.fn.down.items l.fn.refused.items None) l.items)
