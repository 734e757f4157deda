-- Decided points of a key in a run.
use Rattle.std.specs.Prelude.{◌≡◌, ℕ, true, List, ◌∷◌, ◌++◌}
use Rattle.path_facts.specs.Decided.{DecidedPoint, place}
use Rattle.key_births.specs.Births.{key_version}
use Rattle.row_runs.specs.runs.region_map.declared.id.Id.{Id}
use Rattle.row_runs.specs.runs.region_map.Keys.{hash_of}
use Rattle.row_runs.specs.runs.branch_history.declared.history.BranchBirth.{BranchBirth}
use Rattle.row_runs.specs.runs.branch_history.Paths.{Branches, origin_at, is_on}
use Rattle.row_runs.specs.runs.branch_history.Histories.{knows}
use Rattle.row_runs.specs.runs.contract_types.Setup.{SetupState}
use Rattle.row_runs.specs.runs.store_api.Versions.{point}
use Rattle.row_runs.specs.runs.store_api.Rows.{has_key}
use Rattle.row_runs.specs.runs.node_core.declared.journal.Entry.{Entry}
use Rattle.row_runs.specs.runs.Latest.{told_table}
use Rattle.row_runs.specs.runs.Story.{Point}
use Rattle.fact_runs.specs.KeyRuns.{key_run}

-- a point is decided, in the run at its key
abbrev pub IsDecided : SetupState → List Entry → Point → Type 0
IsDecided setup past q = (d : DecidedPoint (key_run setup past q.key)) × (place (key_run setup past q.key) d ≡ key_version (point q.branch q.timestamp))

-- in the table that is told, each branch that has the key and was registered after that of a decided point goes on from the
-- point, in the branches that were there before it
abbrev pub GoesOnAt : (setup : SetupState) (past : List Entry) (key : List ℕ) → DecidedPoint (key_run setup past key) → Type 0
GoesOnAt setup past key d =
    (newer older : Branches) (b : Id × BranchBirth) → (told_table setup past).history ≡ newer ++ b ∷ older → knows older d.birth.branch ≡ true
    → has_key b.1.region setup.hashes key ≡ true
    → is_on older (hash_of key setup.hashes) key (origin_at b.1 (hash_of key setup.hashes) key) (point d.birth.branch d.timestamp) ≡ true
