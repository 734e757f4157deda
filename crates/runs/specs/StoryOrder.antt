-- The order of a story: that of the path on which its operations lie.
use Rattle.std.specs.Prelude.{◌≡◌, ℕ, true, List, ◌∷◌, ◌++◌}
use Rattle.contract_types.specs.Setup.{SetupState}
use Rattle.node_core.specs.declared.journal.Entry.{Entry}
use Rattle.runs.specs.Story.{Point, IsIn, path}
use Rattle.runs.specs.Latest.{told_table}
use Rattle.runs.specs.DonePoints.{is_before_on}

-- of the points of which a key's story is told, each lies on the path of every later one
abbrev pub IsStoryInOrder : SetupState → List Entry → List ℕ → Type 0
IsStoryInOrder setup past key =
    (first later : List Point) (q : Point) → path setup past key ≡ first ++ q ∷ later
    → (p : Point) → IsIn first p → is_before_on setup.hashes (told_table setup past).history p q ≡ true
