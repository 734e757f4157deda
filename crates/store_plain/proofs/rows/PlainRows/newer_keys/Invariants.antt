use Rattle.std.proofs.Common.{◌≡◌, ◌≤◌, ◌++◌, length}
use Rattle.store_api.specs.Rows.{newer_keys}
use Rattle.store_plain.proofs.rows.PlainRows.newer_keys.Given as goal

abbrev pub invariant-loop-key : goal.invariant-loop-key
invariant-loop-key l = record {
  found : l.keys.items ++ newer_keys l.part l.above l.key-iterator ≡ newer_keys l.part l.above l.fn.self;
  few : length l.keys.items ≤ l.limit;
}
