use Rattle.std.proofs.Common.{[], ◌∷◌, ◌++◌, ap, ◌∙◌}
use Rattle.journal_seat.proofs.Moves.{begins}
use Rattle.journal_seat.proofs.book.Book.start.Goals as goal

pub new-requires-2 : goal.new-requires-2
new-requires-2 g c = begins g.E.BookEntry.seat_of _ (c.push_reserved.ensures.items ∙ ap (λ l. l ++ c.new.result ∷ []) c.in_ok-slots.ensures.items ∙ ap (λ x. x ∷ []) c.new.ensures)
