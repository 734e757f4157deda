-- What a seat has added to a book.
use Rattle.std.specs.Prelude.{◌≡◌, ℕ, List, ◌++◌}
use Rattle.std.specs.List.{All}
use Rattle.journal_seat.specs.declared.view.View.{View}

module _ {E : Type 0} where
  -- the entries are of one seat
  abbrev pub Names : (E → ℕ) → ℕ → List E → Type 0
  Names seat_of number entries = All (λ e. seat_of e ≡ number) entries

  -- the seat has made these entries, in this order, and is otherwise as it was
  abbrev pub HasMade : View E → List E → View E → Type 0
  HasMade v entries w =
      (w.made ≡ v.made ++ entries) × (w.number ≡ v.number) × (w.first ≡ v.first) × (w.given ≡ v.given) × (w.ended ≡ v.ended)
