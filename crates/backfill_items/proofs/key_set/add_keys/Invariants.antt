use Rattle.std.proofs.Common.{◌≡◌, drop}
use Rattle.backfill_items.specs.Changed.{with_keys}
use Rattle.backfill_items.proofs.key_set.add_keys.Given as goal

abbrev pub invariant-loop-key : goal.invariant-loop-key
invariant-loop-key l = with_keys l.set.keys (drop l.key-index l.keys) ≡ with_keys l.fn.set.keys l.keys
