-- What the calls of a book tell.
use Rattle.std.specs.Prelude.{◌≡◌, ℕ, ◌+◌, true, false, if◌then◌else◌, nat_le, nat_lt, List, [], ◌∷◌, ◌++◌, length, Option, Some, None}
use Rattle.std.specs.List.{sum_by, All}
use Rattle.journal_seat.specs.declared.book.Book.{Book}
use Rattle.journal_seat.specs.declared.book.BookLimits.{BookLimits}
use Rattle.journal_seat.specs.declared.book.BookFull.{BookFull}
use Rattle.journal_seat.specs.declared.book.BookFull.TheVariants.{Entries, Weight}
use Rattle.journal_seat.specs.declared.book.AppendRefused.{AppendRefused}
use Rattle.journal_seat.specs.declared.book.AppendRefused.TheVariants.{Full, OutOfMemory}
use Rattle.atomic_table.specs.declared.shared.Seat.{Seat}
use Rattle.journal_seat.specs.declared.view.View.{View}
use Rattle.journal_seat.specs.Book.{made_by, is_among, are_among, ended_numbers, IsKnown, IsKept}

module _ {E : Type 0} where
  abbrev pub limits_of : Book E → BookLimits
  limits_of book = book.limits

  -- the seat is one of this book
  abbrev pub IsSeatOf : Book E → Seat (List E) (View E) → Type 0
  IsSeatOf book seat = seat.table_id ≡ book.table.shared.table_id

  -- the seat is the same, and the list is not out with it
  abbrev pub IsSameSeat : Seat (List E) (View E) → Seat (List E) (View E) → Type 0
  IsSameSeat old new = (new.table_id ≡ old.table_id) × (new.id ≡ old.id) × (new.me.1 ≡ [])

  -- the limit that an entry behind this list would pass, that of entries before that of weight
  abbrev pub what_is_full : (E → ℕ) → BookLimits → List E → E → Option BookFull
  what_is_full weight_of limits list entry =
      if nat_le limits.entries (length list)
      then Some Entries
      else (if nat_lt limits.weight (sum_by weight_of list + weight_of entry) then Some Weight else None)

  -- an entry comes back at a limit alone
  abbrev pub IsRefusal : Option BookFull → E → AppendRefused E → Type 0
  IsRefusal full entry (Full e which) = (e ≡ entry) × (full ≡ Some which)
  IsRefusal full entry OutOfMemory = full ≡ None

  -- the list that was found begins with what the seat had seen and has of its entries those that it made; the entry
  -- stands behind it, and passes no limit
  abbrev pub Appended : (E → ℕ) → (E → ℕ) → BookLimits → E → View E → ℕ → View E → Type 0
  Appended seat_of weight_of limits entry v place w =
      (before : List E)
      × IsKnown seat_of v before
      × (place ≡ length before)
      × (what_is_full weight_of limits before entry ≡ None)
      × (w ≡ record v { takes = v.takes + 1; seen = before ++ entry ∷ []; made = v.made ++ entry ∷ [] })

  -- each number that was given is the seat's own or that of one that it took in
  abbrev pub IsAlone : View E → Type 0
  IsAlone v = are_among v.given (v.number ∷ ended_numbers v.ended) ≡ true

  -- What the seat and each that it took in had seen begins the list, and the entries of each are those that it made.
  -- There are no others
  pub record IsWhole (seat_of : E → ℕ) (v : View E) (list : List E) : Type 0 where
    pub own : IsKnown seat_of v list
    pub ended : All (IsKept seat_of list) v.ended
    pub others : (n : ℕ) → is_among n (v.number ∷ ended_numbers v.ended) ≡ false → made_by seat_of n list ≡ []
