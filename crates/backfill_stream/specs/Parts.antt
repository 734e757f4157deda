-- What clients see of a stream: its parts that are not acknowledged, each under its number.
use Rattle.std.specs.Prelude.{◌≡◌, ℕ, ◌+◌, ◌^◌, Bool, List, [], ◌∷◌, ◌++◌, length, filter, nat_le, nat_lt}

-- the number that the next part gets, and the parts that are not acknowledged, the oldest first
pub record Stream (P : Type 0) : Type 0 where
  pub next : ℕ
  pub unacked : List (ℕ × P)

-- the numbers follow each other up to the next one
abbrev pub AreNumbered : {P : Type 0} → ℕ → List (ℕ × P) → Type 0
AreNumbered next [] = Unit {0}
AreNumbered next (p ∷ ps) = (p.0 + (1 + length ps) ≡ next) × AreNumbered next ps

-- one more part, under the next number
abbrev pub with_part : {P : Type 0} → Stream P → P → Stream P
with_part s part = record { next = s.next + 1; unacked = s.unacked ++ (s.next, part) ∷ [] }

-- what is left once the parts up to a number are acknowledged
abbrev pub behind : {P : Type 0} → ℕ → List (ℕ × P) → List (ℕ × P)
behind upto parts = filter (λ p. nat_lt upto p.0) parts

-- as many parts wait as may
abbrev pub is_full : {P : Type 0} → Stream P → Bool
is_full s = nat_le 1024 (length s.unacked)

-- there is no number for another part
abbrev pub is_over : {P : Type 0} → Stream P → Bool
is_over s = nat_le (2 ^ 62) s.next
