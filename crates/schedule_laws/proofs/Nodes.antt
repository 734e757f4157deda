-- What holds of each node when one of them moves on.
use Rattle.std.proofs.Common.{◌≡◌, ◌==◌, ℕ, false, refl, sym, subst}
use Rattle.std.proofs.lemmas.Bool.{cond_both, eqb-true, eq-eqb}
use Rattle.schedule_laws.specs.Schedules.{set_at}

-- what holds of the new value at n, and of each old value elsewhere, holds of each value
pub set_at_both : {A : Type 0} (P : ℕ → A → Type 0) (f : ℕ → A) (n : ℕ) (x : A) → P n x → ((k : ℕ) → (k == n) ≡ false → P k (f k)) → (k : ℕ) → P k (set_at f n x k)
set_at_both P f n x new old k =
    cond_both (k == n) x (f k) (P k) (λ e. let same : k ≡ n = eqb-true k n e in subst (λ (v : ℕ). P v x) (sym same) new) (old k)

pub set_at-same : {A : Type 0} (f : ℕ → A) (n : ℕ) (x : A) → set_at f n x n ≡ x
set_at-same f n x = rw (eq-eqb n n refl)
