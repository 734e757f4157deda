-- What each seat of a book knows of its list, and what a step tells.
use Rattle.std.specs.Prelude.{◌≡◌, ℕ, ◌+◌, ◌==◌, Bool, true, false, ◌||◌, ◌&&◌, if◌then◌else◌, nat_le, List, [], ◌∷◌, ◌++◌, length, take, drop, Option, Some, None}
use Rattle.std.specs.List.{filter, All}
use mathlib.Core.Option.{some}
use lib.ListN.{get_elem?}
use Rattle.atomic_table.specs.Table.{State, Me, Step}
use Rattle.journal_seat.specs.declared.view.EndedSeat.{EndedSeat}
use Rattle.journal_seat.specs.declared.view.View.{View}

module _ {E : Type 0} where
  -- a list begins with another
  abbrev pub StartsWith : List E → List E → Type 0
  StartsWith list front = take (length front) list ≡ front

  -- the entries of a list that name a seat
  abbrev pub made_by : (E → ℕ) → ℕ → List E → List E
  made_by seat_of number list = filter (λ e. seat_of e == number) list

  -- of two lists the longer, and the first where they are as long
  abbrev pub longer : List E → List E → List E
  longer left right = if nat_le (length right) (length left) then left else right

-- a number is among others
abbrev pub is_among : ℕ → List ℕ → Bool
is_among n [] = false
is_among n (x ∷ xs) = (x == n) || is_among n xs

-- each number is among others
abbrev pub are_among : List ℕ → List ℕ → Bool
are_among [] others = true
are_among (x ∷ xs) others = is_among x others && are_among xs others

module _ {E : Type 0} where
  abbrev pub opener : View E
  opener = record { number = 0; live = true; out = false; takes = 0; seen = []; made = []; first = true; given = 0 ∷ []; ended = [] }

  -- a new seat has seen what the first one has, and has made nothing
  abbrev pub newcomer : ℕ → View E → View E
  newcomer number v = record { number = number; live = true; out = false; takes = 0; seen = v.seen; made = []; first = false; given = []; ended = [] }

  abbrev pub with_given : ℕ → View E → View E
  with_given number v = record v { given = number ∷ v.given }

  abbrev pub nobody : View E
  nobody = record { number = 0; live = false; out = false; takes = 0; seen = []; made = []; first = false; given = []; ended = [] }

  -- what is kept of a seat that another takes in
  abbrev pub ended_seat : View E → EndedSeat E
  ended_seat w = record { number = w.number; seen = w.seen; made = w.made }

  abbrev pub joined : View E → View E → View E
  joined v w = record v { seen = longer v.seen w.seen; ended = ended_seat w ∷ v.ended }

  abbrev pub ended_numbers : List (EndedSeat E) → List ℕ
  ended_numbers [] = []
  ended_numbers (p ∷ ps) = p.number ∷ ended_numbers ps

  -- a seat that found the list
  abbrev pub took : View E → List E → View E
  took v list = record v { out = true; takes = v.takes + 1; seen = list }

  -- a seat that gave it back: what stands behind the list that it had seen is its own
  abbrev pub gave : View E → List E → View E
  gave v list = record v { out = false; seen = list; made = v.made ++ drop (length v.seen) list }

  -- the seat is one that may take: it is in use, and the list is not out with it
  abbrev pub IsIdle : Me (List E) (View E) → Type 0
  IsIdle me = (me.0.live ≡ true) × (me.0.out ≡ false) × (me.1 ≡ [])

  -- the list is out with the seat, which has seen a beginning of it
  abbrev pub HasOut : Me (List E) (View E) → List E → Type 0
  HasOut me list = (me.0.live ≡ true) × (me.0.out ≡ true) × (me.1 ≡ (0, list) ∷ []) × StartsWith list me.0.seen

  -- what a seat with this view has seen begins the list, and of its own entries the list has just those that it made
  abbrev pub IsKnown : (E → ℕ) → View E → List E → Type 0
  IsKnown seat_of v list = StartsWith list v.seen × (made_by seat_of v.number list ≡ v.made)

  -- the same of a seat that was taken in
  abbrev pub IsKept : (E → ℕ) → List E → EndedSeat E → Type 0
  IsKept seat_of list p = StartsWith list p.seen × (made_by seat_of p.number list ≡ p.made)

  -- a look or a take: the list that was found is what the seat has seen now
  abbrev pub Looked : (E → ℕ) → View E → View E → Type 0
  Looked seat_of v w = (w ≡ record v { takes = v.takes + 1; seen = w.seen }) × IsKnown seat_of v w.seen

  -- what a try to take tells: with 0 found, the list is out with the seat
  abbrev pub Tried : (E → ℕ) → Step (List E) → Me (List E) (View E) → ℕ → Me (List E) (View E) → Type 0
  Tried seat_of st me found new =
      (found ≡ 0 → (new ≡ (took me.0 new.0.seen, (0, new.0.seen) ∷ [])) × IsKnown seat_of me.0 new.0.seen)
      × (¬ (found ≡ 0) → new ≡ me)

  abbrev pub given_list : List (ℕ × List E) → List E
  given_list [] = []
  given_list (x ∷ xs) = x.1

  -- what a give back tells
  abbrev pub Gave : Step (List E) → Me (List E) (View E) → ℕ → Me (List E) (View E) → Type 0
  Gave st me found new = new ≡ (gave me.0 (given_list me.1), [])

  -- the entries all name this seat
  abbrev pub IsOwn : (E → ℕ) → ℕ → List E → Type 0
  IsOwn seat_of number list = All (λ e. seat_of e ≡ number) list

  -- what the rule says of a seat that was taken in: its number was given, and has no seat any more
  abbrev pub IsTakenIn : (E → ℕ) → List E → (ℕ → Option ℕ) → List ℕ → EndedSeat E → Type 0
  IsTakenIn seat_of book owner given p = (is_among p.number given ≡ true) × (owner p.number ≡ None) × IsKept seat_of book p

  -- what the rule says of the first seat, by the numbers that it gave and the seats that it took in: no other number
  -- has a seat or an entry
  pub record IsFirst (seat_of : E → ℕ) (book : List E) (owner : ℕ → Option ℕ) (id : ℕ) (given : List ℕ) (ended : List (EndedSeat E)) : Type 0 where
    pub place : id ≡ 0
    pub others : (n : ℕ) → is_among n given ≡ false → (owner n ≡ None) × (made_by seat_of n book ≡ [])
    pub kept : All (IsTakenIn seat_of book owner given) ended

  -- what the rule says of a seat in use
  pub record Fits (seat_of : E → ℕ) (book : List E) (owner : ℕ → Option ℕ) (holder word id : ℕ) (v : View E) : Type 0 where
    pub owns : owner v.number ≡ Some id
    pub known : IsKnown seat_of v book
    pub out : v.out ≡ true → (id ≡ holder) × (v.seen ≡ book) × ¬ (word ≡ 0)
    pub first : v.first ≡ true → IsFirst seat_of book owner id v.given v.ended

  -- the list, which seat has each number, who holds the list, and the word
  pub record Keeps (seat_of : E → ℕ) (book : List E) (owner : ℕ → Option ℕ) (holder word : ℕ) (s : State (List E) (View E)) : Type 0 where
    pub words : s.words ≡ word ∷ []
    pub home : word ≡ 0 → get_elem? s.homes 0 ≡ some (some book)
    pub away : ¬ (word ≡ 0) → (v : View E) × (get_elem? s.views holder ≡ some v) × (v.live ≡ true) × (v.out ≡ true)
    pub seats : (id : ℕ) (v : View E) → get_elem? s.views id ≡ some v → v.live ≡ true → Fits seat_of book owner holder word id v

  -- the rule of a book
  abbrev pub Kept : (E → ℕ) → State (List E) (View E) → Type 0
  Kept seat_of s = (book : List E) × (owner : ℕ → Option ℕ) × (holder : ℕ) × (word : ℕ) × Keeps seat_of book owner holder word s
