-- Counts that are kept in 64 bits and stay at the greatest number.
use Rattle.std.specs.Prelude.{ℕ, Bool, ◌+◌, ◌-◌, ◌^◌, ◌||◌, nat_lt, nat_eq, min}

-- one more, up to the greatest number
abbrev pub counted_up : ℕ → ℕ
counted_up n = min (n + 1) (2 ^ 64 - 1)

-- the count rose, or stands at the greatest number, where it stays
abbrev pub rose : ℕ → ℕ → Bool
rose old new = nat_lt old new || nat_eq new (2 ^ 64 - 1)
