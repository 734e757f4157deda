use Rattle.std.proofs.Common.{◌≡◌, drop}
use Rattle.serde_json.specs.View.{items_view}
use Rattle.script_text.specs.Grammar.{after_these, shards_from}
use Rattle.script_text.proofs.shards.shards_from.Given as goal

abbrev pub invariant-loop-item : goal.invariant-loop-item
invariant-loop-item l = after_these l.shards.items (shards_from l.hashes (items_view (drop l.item-index l.items))) ≡ shards_from l.hashes (items_view l.items)
