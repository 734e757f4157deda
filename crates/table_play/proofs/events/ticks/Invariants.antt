-- The nodes that are left tick from the world as it is.
use Rattle.std.proofs.Common.{◌≡◌, true, nat_lt, map, None}
use Rattle.std.specs.List.{list_all}
use Rattle.region_map.specs.declared.id.NodeId.{NodeId}
use Rattle.table_play.specs.Play.{play_ticks}
use Rattle.table_play.specs.Steps.{played_at}
use Rattle.table_play.proofs.events.ticks.Given as goal

abbrev pub invariant-loop-node : goal.invariant-loop-node
invariant-loop-node l =
    (l.world.ended ≡ None)
    × (l.world.setup ≡ l.fn.world.setup)
    × (list_all (λ n. nat_lt n l.fn.world.setup.nodes) (map (λ (n : NodeId). n.0) l.node-iterator) ≡ true)
    × (play_ticks l.fn.world.setup (played_at l.world l.down.items l.refused.items None) l.line (map (λ (n : NodeId). n.0) l.node-iterator)
    ≡ play_ticks l.fn.world.setup (played_at l.fn.world l.fn.down.items l.fn.refused.items None) l.line l.only)
