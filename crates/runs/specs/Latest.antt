-- The table that a journal tells: what follows from the longest list of changes that a node told to have acted on.
use Rattle.std.specs.Prelude.{ℕ, ◌+◌, nat_lt, List, [], ◌∷◌, length, if◌then◌else◌}
use Rattle.contract_types.specs.declared.change.Change.{Change}
use Rattle.contract_types.specs.declared.applied.Applied.{Applied}
use Rattle.contract_types.specs.Setup.{SetupState, nodes_below}
use Rattle.contract_types.specs.Tables.{Table, setup as table_of}
use Rattle.table_apply.specs.Effects.{applied_at}
use Rattle.table_log.specs.Fitting.{fits}
use Rattle.node_core.specs.declared.journal.Entry.{Entry}
use Rattle.runs.specs.Committed.{viewed_by}

-- the longer of two lists; the first one where they are as long
abbrev pub longer : {X : Type 0} → List X → List X → List X
longer xs ys = if nat_lt (length xs) (length ys) then ys else xs

abbrev pub longest_of : List Entry → List ℕ → List (Change × Applied)
longest_of past [] = []
longest_of past (n ∷ ns) = longer (viewed_by n past) (longest_of past ns)

-- the longest list of changes that a node told to have acted on, of the least such node
abbrev pub longest : SetupState → List Entry → List (Change × Applied)
longest setup past = longest_of past (nodes_below setup.nodes)

-- a change whose maps have another number of hashes than the table, which no run has, is passed over
abbrev pub told_step : ℕ → Table → ℕ → Change → Table
told_step hashes t index change = if fits hashes change then (applied_at t index change).table else t

abbrev pub told_from : ℕ → Table → ℕ → List (Change × Applied) → Table
told_from hashes t index [] = t
told_from hashes t index (r ∷ rs) = told_from hashes (told_step hashes t index r.0) (index + 1) rs

abbrev pub told_table : SetupState → List Entry → Table
told_table setup past = told_from setup.hashes (table_of setup) 1 (longest setup past)
