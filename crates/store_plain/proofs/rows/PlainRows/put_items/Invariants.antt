use Rattle.std.proofs.Common.{◌≡◌, drop}
use Rattle.store_api.specs.Rows.{with_items}
use Rattle.store_plain.proofs.rows.PlainRows.put_items.Given as goal

abbrev pub invariant-loop-item : goal.invariant-loop-item
invariant-loop-item l = with_items l.self (drop l.item-index l.items) ≡ with_items l.fn.self l.items
