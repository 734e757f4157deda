use Rattle.std.proofs.Common.{ap, subst, ◌∙◌, sym}
use Rattle.std.proofs.lemmas.List.Elements.{All-head}
use Rattle.journal_seat.specs.Book.{made_by, IsKept, ended_seat}
use Rattle.journal_seat.specs.Calls.{IsWhole}
use Rattle.seat_tests.proofs.two.whole.Goals as goal

pub returns-clause-second : goal.returns-clause-second
returns-clause-second g c =
    let seat_of = g.E.BookEntry.seat_of in
    let list = c.close.result.items in
    let v = c.args.mine.me.0 in
    let w = c.args.other.me.0 in
    let all = subst (λ m. IsWhole seat_of m.0 list) c.join.ensures.2 c.close.ensures in
    ap (λ n. made_by seat_of n list) (sym c.requires.numbers.1) ∙ (All-head (IsKept seat_of list) (ended_seat w) v.ended all.ended).1
