-- The rounds that are left go on from the world as it is.
use Rattle.std.proofs.Common.{◌≡◌, ◌-◌, None}
use Rattle.table_play.specs.Play.{play_rounds}
use Rattle.table_play.specs.Steps.{played_at}
use Rattle.table_play.proofs.events.settle.Given as goal

abbrev pub invariant-loop-count : goal.invariant-loop-count
invariant-loop-count l =
    (l.world.ended ≡ None)
    × (l.world.setup ≡ l.fn.world.setup)
    × (play_rounds (l.rounds - l._count) l.fn.world.setup l.only (played_at l.world l.down.items l.refused.items None) l.line
    ≡ play_rounds l.rounds l.fn.world.setup l.only (played_at l.fn.world l.fn.down.items l.fn.refused.items None) l.line)
