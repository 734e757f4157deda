-- What is left of the flush goes on from the world as it is.
use Rattle.std.proofs.Common.{◌≡◌, ◌-◌, None}
use Rattle.table_play.specs.Play.{flush_by, most_deliveries}
use Rattle.table_play.specs.Steps.{played_at}
use Rattle.table_play.proofs.events.flush.Given as goal

abbrev pub invariant-loop-count : goal.invariant-loop-count
invariant-loop-count l =
    (l.world.ended ≡ None)
    × (l.world.setup ≡ l.fn.world.setup)
    × (flush_by (most_deliveries - l._count) l.fn.world.setup l.only (played_at l.world l.down.items l.refused.items None) l.line
    ≡ flush_by most_deliveries l.fn.world.setup l.only (played_at l.fn.world l.fn.down.items l.fn.refused.items None) l.line)
