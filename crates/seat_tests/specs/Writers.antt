-- What a writer does.
use Rattle.std.specs.Prelude.{◌≡◌, ◌+◌, [], ◌∷◌, ◌++◌, length, IfSome}
use Rattle.journal_seat.specs.declared.book.Book.{Book}
use Rattle.journal_seat.specs.Book.{IsIdle}
use Rattle.journal_seat.specs.Calls.{IsSeatOf, IsSameSeat}
use Rattle.seat_tests.specs.declared.mark.Mark.{Mark}
use Rattle.seat_tests.specs.declared.writers.Writer.{Writer}

-- the seat is of this book, and may add its entry
abbrev pub IsReady : Book Mark → Writer → Type 0
IsReady book w = IsSeatOf book w.seat × IsIdle w.seat.me × (w.entry.seat ≡ w.seat.me.0.number)

-- with a place, the entry is the last one that the seat made, and stands there
abbrev pub HasWritten : Writer → Writer → Type 0
HasWritten old new =
    IsSameSeat old.seat new.seat
    × IsIdle new.seat.me
    × (new.entry ≡ old.entry)
    × (new.seat.me.0.number ≡ old.seat.me.0.number)
    × IfSome new.place (λ place. (new.seat.me.0.made ≡ old.seat.me.0.made ++ old.entry ∷ []) × (length new.seat.me.0.seen ≡ place + 1))
