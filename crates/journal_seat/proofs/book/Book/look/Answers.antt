use Rattle.std.proofs.Common.{◌∙◌, ap}
use Rattle.journal_seat.proofs.Moves.{has_slot}
use Rattle.journal_seat.proofs.book.Book.look.Goals as goal

pub slot_mut-pages-requires : goal.slot_mut-pages-requires
slot_mut-pages-requires g c = (c.take.ensures.seat.0 ∙ c.requires.seat, has_slot c.take.new.seat.me c.take.new.seat.me.0.seen (ap (λ m. m.1) c.take.ensures.taken))
