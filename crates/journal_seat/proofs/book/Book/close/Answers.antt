use Rattle.std.proofs.Common.{sym, subst}
use Rattle.journal_seat.specs.Calls.{IsWhole}
use Rattle.journal_seat.proofs.Ends.{ends}
use Rattle.journal_seat.proofs.book.Book.close.Goals as goal

pub returns : goal.returns
returns g c =
    let me = c.requires.idle in
    let seat_of = g.E.BookEntry.seat_of in
    subst (λ l. IsWhole seat_of c.args.seat.me.0 l) (sym c.into_vec.ensures)
    (ends seat_of _ c.args.seat.me.0 _ _ c.take-pages.result me.0 me.1 c.requires.first c.requires.alone c.close_with-closed.ensures.values.2 c.take-pages.ensures.value)
