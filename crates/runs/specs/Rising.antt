-- Points of one branch, in the order in which they were dispatched.
use Rattle.std.specs.Prelude.{◌≡◌, ◌<◌, ◌≤◌, List, [], ◌∷◌}
use Rattle.std.specs.List.{AllByRecursion}
use Rattle.contract_types.specs.Setup.{SetupState}
use Rattle.node_core.specs.declared.journal.Entry.{Entry}
use Rattle.runs.specs.Run.{state}
use Rattle.runs.specs.Story.{Point}

-- what comes later on the branch of a point has a greater timestamp
abbrev pub IsBelow : Point → Point → Type 0
IsBelow p q = p.branch ≡ q.branch → p.timestamp < q.timestamp

-- each point is below all later ones of its branch
abbrev pub AreRising : List Point → Type 0
AreRising [] = Unit {0}
AreRising (p ∷ ps) = AllByRecursion (IsBelow p) ps × AreRising ps

-- the branch of a point was made by a node in one of its lives up to the present one
abbrev pub IsOfLife : SetupState → List Entry → Point → Type 0
IsOfLife setup past p = p.branch.life ≤ (state setup p.branch.node.0 past).life
