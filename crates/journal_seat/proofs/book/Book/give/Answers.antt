use Rattle.std.proofs.Common.{arith}
use Rattle.journal_seat.specs.Book.{given_list}
use Rattle.journal_seat.proofs.Moves.{gives_back_as}
use Rattle.journal_seat.proofs.book.Book.give.Goals as goal

pub store-requires : goal.store-requires
store-requires g c =
    let sized = c.args.self.now.sized in
    (c.requires.seat, omega (arith, sized.0), gives_back_as g.E.BookEntry.seat_of _ _ c.args.seat.now.me (given_list c.args.seat.now.me.1) sized.1 c.requires.out c.requires.own)
