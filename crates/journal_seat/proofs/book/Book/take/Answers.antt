use Rattle.std.proofs.Common.{◌∙◌, sym, subst, arith}
use Rattle.journal_seat.specs.Book.{IsIdle}
use Rattle.journal_seat.proofs.Moves.{tries_as}
use Rattle.journal_seat.proofs.book.Book.take.Goals as goal

pub compare_exchange-requires : goal.compare_exchange-requires
compare_exchange-requires g c =
    let sized = c.args.self.now.sized in
    let i = c.loop.invariant in (
      i.2 ∙ c.requires.seat,
      omega (arith, sized.0),
      tries_as g.E.BookEntry.seat_of _ _ c.loop.seat.me sized.1 (subst (λ m. IsIdle m) (sym i.4) c.requires.idle),
    )
