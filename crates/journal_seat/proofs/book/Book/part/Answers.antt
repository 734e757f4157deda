use Rattle.std.proofs.Common.{◌≡◌, false, subst, arith}
use Rattle.journal_seat.specs.Book.{is_among}
use Rattle.journal_seat.proofs.Moves.{splits}
use Rattle.journal_seat.proofs.book.Book.part.Goals as goal

pub split_seat-requires : goal.split_seat-requires
split_seat-requires g c =
    let sized = c.args.self.now.sized in
    let me = c.requires.idle in
    let given = c.args.seat.now.me.0.given in (
      c.requires.seat,
      omega (arith, sized.0),
      splits g.E.BookEntry.seat_of _ c.args.seat.now.me.0 g.N.Numbered.number me.0 me.1 c.requires.first (subst (λ n. is_among n given ≡ false) c.requires.picked c.requires.new),
    )
