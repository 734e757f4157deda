-- What a run keeps.
use Rattle.std.proofs.Common.{◌≡◌, List, [], ◌∷◌, ◌++◌, refl}
use Rattle.schedule_laws.specs.Schedules.{run}

-- what each event keeps
pub run_keeps : {W Ev : Type 0} (P : W → Type 0) (happens : W → Ev → W) → ((w : W) (e : Ev) → P w → P (happens w e)) → (events : List Ev) (w : W) → P w → P (run happens events w)
run_keeps P happens step [] w h = h
run_keeps P happens step (e ∷ es) w h = run_keeps P happens step es (happens w e) (step w e h)

-- what each event leaves in a relation to what was before it
pub run_relates : {W Ev : Type 0} (R : W → W → Type 0) (happens : W → Ev → W) → ((w : W) → R w w) → ((a b c : W) → R a b → R b c → R a c) → ((w : W) (e : Ev) → R w (happens w e)) → (events : List Ev) (w : W) → R w (run happens events w)
run_relates R happens same join step [] w = same w
run_relates R happens same join step (e ∷ es) w = join w (happens w e) (run happens es (happens w e)) (step w e) (run_relates R happens same join step es (happens w e))

pub run-append : {W Ev : Type 0} (happens : W → Ev → W) (xs ys : List Ev) (w : W) → run happens (xs ++ ys) w ≡ run happens ys (run happens xs w)
run-append happens [] ys w = refl
run-append happens (x ∷ xs) ys w = run-append happens xs ys (happens w x)

pub run-push : {W Ev : Type 0} (happens : W → Ev → W) (events : List Ev) (e : Ev) (w : W) → run happens (events ++ e ∷ []) w ≡ happens (run happens events w) e
run-push happens events e w = run-append happens events (e ∷ []) w
