use Rattle.std.proofs.Common.{◌≡◌}
use Rattle.journal_seat.specs.Book.{IsIdle}
use Rattle.seat_tests.proofs.tests.refused.Given as goal

abbrev pub invariant-loop-number : goal.invariant-loop-number
invariant-loop-number g l = record {
  table : l.mine.table_id ≡ l.initial.mine.table_id;
  idle : IsIdle l.mine.me;
  number : l.mine.me.0.number ≡ 0;
}
