use Rattle.std.proofs.Common.{◌≡◌, ◌≤◌, map, take, drop, length}
use Rattle.backfill_items.specs.Changed.{item_of}
use Rattle.backfill_items.proofs.chunk.first_items.Given as goal

abbrev pub invariant-loop-key : goal.invariant-loop-key
invariant-loop-key g l = record {
  items : l.items.items ≡ map (item_of (g.T.Store.rows l.store)) (take (length l.items.items) l.fn.keys.keys);
  rest : l.key-iterator ≡ drop (length l.items.items) l.fn.keys.keys;
  few : length l.items.items ≤ l.limit;
}
