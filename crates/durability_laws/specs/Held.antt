-- Which nodes hold a point: those whose version of its key has the point on its path.
use Rattle.std.specs.Prelude.{ℕ, Bool, false, List, Option, Some, None}
use Rattle.row_runs.specs.runs.region_map.Keys.{hash_of}
use Rattle.row_runs.specs.runs.branch_history.declared.version.Version.{Version}
use Rattle.row_runs.specs.runs.branch_history.Paths.{Branches, is_on}
use Rattle.row_runs.specs.runs.contract_types.Setup.{SetupState}
use Rattle.row_runs.specs.runs.store_api.Versions.{point, version_of}
use Rattle.row_runs.specs.runs.node_core.declared.journal.Entry.{Entry}
use Rattle.row_runs.specs.runs.Latest.{told_table}
use Rattle.row_runs.specs.runs.Run.{state}
use Rattle.row_runs.specs.runs.Story.{Point}

-- whether a version, where there is one, has the point on its path
abbrev pub has_on : Branches → ℕ → Point → Option Version → Bool
has_on history hashes q None = false
has_on history hashes q (Some version) = is_on history (hash_of q.key hashes) q.key version (point q.branch q.timestamp)

-- whether a node, up or down, has it so, in the table that the journal tells
abbrev pub holds : SetupState → List Entry → Point → ℕ → Bool
holds setup past q node = has_on (told_table setup past).history setup.hashes q (version_of (state setup node past).versions q.key)
