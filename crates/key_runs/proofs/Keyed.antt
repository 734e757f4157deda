-- The story of all operations on a key, in the order in which they were dispatched.
use Rattle.std.proofs.Common.{◌≡◌, ℕ, List, ◌∷◌, ◌++◌, map, filter, None}
use Rattle.change_runs.specs.runs.register_laws.declared.operation.Told.{Told}
use Rattle.change_runs.specs.runs.register_laws.Lists.{told_from}
use Rattle.change_runs.specs.runs.node_core.declared.journal.Entry.{Entry}
use Rattle.change_runs.specs.runs.Story.{points, points_of, call_of, is_shown_point, is_shown_told, up_to_done}
use Rattle.change_runs.proofs.Asked.{is_keyed, key_path}
use Rattle.change_runs.proofs.step_runs.Told.{filter-append}

abbrev pub keyed_story : List Entry → List ℕ → List Told
keyed_story past key = told_from None (map call_of (filter (is_shown_point past) (key_path past key)))

-- what is done stays, where the story up to each moment is that of all operations on the key
abbrev pub KeepsKeyed : List Entry → List ℕ → List Told → Type 0
KeepsKeyed earlier key list = (rest : List Told) × (filter (is_shown_told earlier) list ≡ up_to_done earlier (keyed_story earlier key) ++ rest)

-- an entry adds its points of the key
pub key_path-cons : (past : List Entry) (e : Entry) (key : List ℕ) → key_path (e ∷ past) key ≡ key_path past key ++ filter (is_keyed key) (points_of e.input e.outputs)
key_path-cons past e key = filter-append (is_keyed key) (points past) (points_of e.input e.outputs)
