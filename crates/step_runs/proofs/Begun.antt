-- The points of the branch with which a key's shard begins, and their story.
use Rattle.std.proofs.Common.{ℕ, Bool, false, ◌&&◌, List, filter, Option, Some, None}
use Rattle.runs.specs.region_map.declared.id.Id.{Id}
use Rattle.runs.specs.region_map.Keys.{hash_of}
use Rattle.runs.specs.region_map.Equal.{same_id}
use Rattle.runs.specs.contract_types.Setup.{SetupState}
use Rattle.runs.specs.contract_types.Tables.{branch_at, setup as table_of}
use Rattle.runs.specs.node_core.declared.journal.Entry.{Entry}
use Rattle.runs.specs.Story.{Point, points, same_key}

abbrev pub begun_branch : SetupState → List ℕ → Option Id
begun_branch setup key = branch_at (table_of setup).history (hash_of key setup.hashes) key

-- whether a branch, where there is one, is this one
abbrev pub is_branch : Option Id → Id → Bool
is_branch None id = false
is_branch (Some branch) id = same_id branch id

abbrev pub is_on_begun : SetupState → List ℕ → Point → Bool
is_on_begun setup key p = same_key p.key key && is_branch (begun_branch setup key) p.branch

abbrev pub begun_path : SetupState → List Entry → List ℕ → List Point
begun_path setup past key = filter (is_on_begun setup key) (points past)
