-- What is known of the list when the book is closed.
use Rattle.std.proofs.Common.{◌≡◌, ℕ, eqb, true, false, List, [], ◌∷◌, sym, ap, ◌∙◌, subst, ⊎_elim, Option, Some, None}
use Rattle.std.specs.List.{All}
use Rattle.std.proofs.lemmas.Bool.{cases_Bool, cases_eq, or_cases, eqb-true, true≢false}
use Rattle.std.proofs.lemmas.List.Elements.{All-head, All-tail, All-weaker}
use mathlib.Core.Option.{some, some-injective}
use lib.ListN.{get_elem?}
use Rattle.atomic_table.specs.Table.{State, Final, Seen}
use Rattle.journal_seat.specs.declared.view.EndedSeat.{EndedSeat}
use Rattle.journal_seat.specs.declared.view.View.{View}
use Rattle.journal_seat.specs.Book.{is_among, are_among, ended_numbers, IsKept, IsTakenIn, Fits, Keeps, Kept}
use Rattle.journal_seat.specs.Calls.{IsWhole}
use Rattle.journal_seat.proofs.Lists.{not_among_all}
use Rattle.journal_seat.proofs.Moves.{some_same, some_none}

module _ {E : Type 0} where
  -- the number of a seat that was taken in has no seat
  none_ended : (seat_of : E → ℕ) (book : List E) (owner : ℕ → Option ℕ) (given : List ℕ) (n : ℕ) (ended : List (EndedSeat E)) → All (IsTakenIn seat_of book owner given) ended → is_among n (ended_numbers ended) ≡ true → owner n ≡ None
  none_ended seat_of book owner given n [] all e = absurd (true≢false (sym e))
  none_ended seat_of book owner given n (p ∷ ps) all e =
      ⊎_elim
      (λ (here : eqb p.number n ≡ true). ap owner (sym (eqb-true p.number n here)) ∙ (All-head (IsTakenIn seat_of book owner given) p ps all).1)
      (λ there. none_ended seat_of book owner given n ps (All-tail (IsTakenIn seat_of book owner given) p ps all) there)
      (or_cases (eqb p.number n) (is_among n (ended_numbers ps)) e)

  -- a number that has a seat is that of the first one
  one_left : (seat_of : E → ℕ) (book : List E) (owner : ℕ → Option ℕ) (holder word id : ℕ) (v : View E) → Fits seat_of book owner holder word id v → v.first ≡ true → are_among v.given (v.number ∷ ended_numbers v.ended) ≡ true → (n j : ℕ) → owner n ≡ Some j → n ≡ v.number
  one_left seat_of book owner holder word id v f first alone n j owns =
      let i = f.first first in
      ⊎_elim
      (λ among. ⊎_elim
      (λ (here : eqb v.number n ≡ true). sym (eqb-true v.number n here))
      (λ there. some_none j (sym owns ∙ none_ended seat_of book owner v.given n v.ended i.kept there))
      (or_cases (eqb v.number n) (is_among n (ended_numbers v.ended)) among))
      (λ none. some_none j (sym owns ∙ (i.others n (not_among_all n v.given (v.number ∷ ended_numbers v.ended) alone none)).0))
      (cases_Bool (is_among n (v.number ∷ ended_numbers v.ended)))

  -- with no other seat left, the list is at home
  at_home : (seat_of : E → ℕ) (id : ℕ) (v : View E) (s : State (List E) (View E)) (book : List E) (owner : ℕ → Option ℕ) (holder word : ℕ) → Keeps seat_of book owner holder word s → get_elem? s.views id ≡ some v → v.live ≡ true → v.out ≡ false → v.first ≡ true → are_among v.given (v.number ∷ ended_numbers v.ended) ≡ true → word ≡ 0
  at_home seat_of id v s book owner holder word k at live idle first alone =
      ⊎_elim
      (λ e. e)
      (λ ne.
      let u = k.away ne in
      let mine = k.seats id v at live in
      let theirs = k.seats holder u.0 u.1 u.2 in
      let same : u.0.number ≡ v.number = one_left seat_of book owner holder word id v mine first alone u.0.number holder theirs.owns in
      let here : holder ≡ id = some_same holder id (sym theirs.owns ∙ ap owner same ∙ mine.owns) in
      let one : v ≡ u.0 = some-injective v u.0 (sym at ∙ ap (λ m. get_elem? s.views m) (sym here) ∙ u.1) in
      absurd (true≢false (sym u.3 ∙ ap (λ (x : View E). x.out) (sym one) ∙ idle)))
      (cases_eq word 0)

  pub ends : (seat_of : E → ℕ) (id : ℕ) (v : View E) (ws : List ℕ) (slots : List (List E)) (list : List E) → v.live ≡ true → v.out ≡ false → v.first ≡ true → are_among v.given (v.number ∷ ended_numbers v.ended) ≡ true → Final (Seen (Kept seat_of) id v) ws slots → get_elem? slots 0 ≡ some list → IsWhole seat_of v list
  ends seat_of id v ws slots list live idle first alone final found =
      let s = final.0 in let h = final.1.0 in let at = final.1.1 in
      let book = h.0 in let owner = h.1 in let holder = h.2 in let word = h.3 in let k = h.4 in
      let mine = k.seats id v at live in
      let i = mine.first first in
      let home = k.home (at_home seat_of id v s book owner holder word k at live idle first alone) in
      let same : book ≡ list = some-injective book list (sym (final.4 0 book home) ∙ found) in
      subst (λ l. IsWhole seat_of v l) same record {
        own = mine.known;
        ended = All-weaker (IsTakenIn seat_of book owner v.given) (IsKept seat_of book) (λ p x. x.2) v.ended i.kept;
        others = λ n none. (i.others n (not_among_all n v.given (v.number ∷ ended_numbers v.ended) alone none)).1;
      }
