-- Runs of events, and values by the numbers of nodes.
use Rattle.std.specs.Prelude.{ℕ, ◌==◌, if◌then◌else◌, List, [], ◌∷◌}

-- a value set at one node
abbrev pub set_at : {A : Type 0} → (ℕ → A) → ℕ → A → ℕ → A
set_at f n x k = if k == n then x else f k

-- events happen one after another, the first one first
abbrev pub run : {W Ev : Type 0} → (W → Ev → W) → List Ev → W → W
run happens [] w = w
run happens (e ∷ es) w = run happens es (happens w e)
