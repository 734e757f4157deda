use Rattle.std.proofs.Common.{◌≡◌, [], drop}
use Rattle.serde_json.specs.View.{items_view}
use Rattle.script_text.specs.Members.{nodes_with}
use Rattle.script_text.proofs.shards.set_of.Given as goal

abbrev pub invariant-loop-item : goal.invariant-loop-item
invariant-loop-item l = nodes_with l.set (items_view (drop l.item-index l.items)) ≡ nodes_with [] (items_view l.items)
