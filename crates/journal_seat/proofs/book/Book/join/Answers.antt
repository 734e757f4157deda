use Rattle.std.proofs.Common.{arith}
use Rattle.journal_seat.proofs.Moves.{joins}
use Rattle.journal_seat.proofs.book.Book.join.Goals as goal

pub join_seat-requires : goal.join_seat-requires
join_seat-requires g c =
    let sized = c.args.self.now.sized in
    let me = c.requires.idle in
    let other = c.requires.other in
    (c.requires.seat, other.0, other.1.2, omega (arith, sized.0), joins g.E.BookEntry.seat_of _ c.args.seat.now.me.0 _ c.args.other.me.0 me.0 me.1 c.requires.first other.1.0 other.1.1)
