use Rattle.std.proofs.Common.{◌≡◌, drop}
use Rattle.serde_json.specs.View.{items_view}
use Rattle.script_text.specs.Shapes.{are_shards}
use Rattle.script_text.proofs.shapes.are_shards.Given as goal

abbrev pub invariant-loop-item : goal.invariant-loop-item
invariant-loop-item l = are_shards (items_view (drop l.item-index l.items)) ≡ are_shards (items_view l.items)
