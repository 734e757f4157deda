-- The greatest number that passes.
use Rattle.std.proofs.Common.{◌≡◌, ℕ, zero, suc, ◌-◌, ◌<◌, Bool, true, false, arith}
use Rattle.raft_append.specs.Commit.{greatest}

pub greatest_yes : (p : ℕ → Bool) (n : ℕ) → 0 < n → p n ≡ true → greatest p n ≡ n
greatest_yes p zero h e = absurd (omega arith)
greatest_yes p (suc n) h e = rw e

pub greatest_no : (p : ℕ → Bool) (n : ℕ) → 0 < n → p n ≡ false → greatest p n ≡ greatest p (n - 1)
greatest_no p zero h e = absurd (omega arith)
greatest_no p (suc n) h e = let s : suc n - 1 ≡ n = omega arith in rw (e, s)
