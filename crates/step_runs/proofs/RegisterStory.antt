-- Keys that a test finds the same, and members of a list, which are counted.
use Rattle.std.proofs.Common.{◌≡◌, ℕ, ◌+◌, ◌≤◌, Bool, true, false, cond, List, [], ◌∷◌, refl, ap, ap₂, ◌∙◌, inl, inr, arith}
use Rattle.std.proofs.lemmas.Bool.{false≢true, eqb-true, and_parts}
use Rattle.runs.specs.register_laws.declared.operation.Told.{Told}
use Rattle.runs.specs.register_laws.Lists.{same_op}
use Rattle.runs.specs.Story.{IsIn, times, same_key}
use Rattle.step_runs.proofs.Facts.{same_op-refl}

-- ---- keys and requests

pub same_key-true : (a b : List ℕ) → same_key a b ≡ true → a ≡ b
same_key-true [] [] h = refl
same_key-true [] (y ∷ ys) h = absurd (false≢true h)
same_key-true (x ∷ xs) [] h = absurd (false≢true h)
same_key-true (x ∷ xs) (y ∷ ys) h =
    let both = and_parts _ _ h in
    ap₂ (λ (a : ℕ) (l : List ℕ). a ∷ l) (eqb-true x y both.0) (same_key-true xs ys both.1)

-- ---- counts

counts_one : (b : Bool) (n : ℕ) → b ≡ true → 1 ≤ cond b 1 0 + n
counts_one true n e = omega arith
counts_one false n e = absurd (false≢true e)

pub IsIn_times : (list : List Told) (t : Told) → IsIn list t → 1 ≤ times list t.op
IsIn_times [] t h = absurd h
IsIn_times (u ∷ us) t h =
    elim h [
      | inl e ↦ counts_one (same_op u.op t.op) (times us t.op) (ap (λ (v : Told). same_op v.op t.op) e ∙ same_op-refl t.op)
      | inr i ↦ omega (arith, IsIn_times us t i)
    ]
