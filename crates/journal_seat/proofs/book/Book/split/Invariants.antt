use Rattle.journal_seat.proofs.book.Book.split.Given as goal

abbrev pub ghosts-part : goal.ghosts-part
ghosts-part g a = record { number = a.number }
