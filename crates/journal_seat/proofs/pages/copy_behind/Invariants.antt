use Rattle.std.proofs.Common.{◌≡◌, ◌++◌, ◌+◌, ◌-◌, ◌≤◌, length, take, vec_len, vec_capacity}
use Rattle.journal_seat.proofs.pages.copy_behind.Given as goal

abbrev pub invariant-loop-entry : goal.invariant-loop-entry
invariant-loop-entry g l = record {
  copied : l.into.items ≡ l.fn.into.items ++ take l.entry-index l.lacking;
  room : vec_len l.into + (length l.lacking - l.entry-index) ≤ vec_capacity l.into;
}
