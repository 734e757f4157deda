use Rattle.std.proofs.Common.{◌≡◌}
use Rattle.journal_seat.specs.Book.{IsIdle}
use Rattle.seat_tests.specs.Made.{HasMade}
use Rattle.seat_tests.proofs.two.append_all.Given as goal

abbrev pub invariant-loop-entry : goal.invariant-loop-entry
invariant-loop-entry g l = record {
  can : (goal.iterator-loop-entry g).can_next l.entry-iterator;
  ends : (goal.iterator-loop-entry g).is_finite l.entry-iterator;
  table : l.seat.table_id ≡ l.initial.seat.table_id;
  id : l.seat.id ≡ l.initial.seat.id;
  idle : IsIdle l.seat.me;
  made : HasMade l.initial.seat.me.0 l.yielded l.seat.me.0;
}
