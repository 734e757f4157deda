-- From which versions branches go on: from those that their makers had.
use Rattle.std.specs.Prelude.{◌≡◌, ℕ, true, List}
use Rattle.path_runs.specs.runs.region_map.declared.id.Id.{Id}
use Rattle.path_runs.specs.runs.region_map.Keys.{hash_of}
use Rattle.path_runs.specs.runs.region_map.Maps.{value_at}
use Rattle.path_runs.specs.runs.branch_history.declared.history.BranchBirth.{BranchBirth}
use Rattle.path_runs.specs.runs.branch_history.Histories.{knows}
use Rattle.path_runs.specs.runs.branch_history.Paths.{zero, origin_at}
use Rattle.path_runs.specs.runs.contract_types.Setup.{SetupState}
use Rattle.path_runs.specs.runs.contract_types.Tables.{setup as table_of}
use Rattle.path_runs.specs.runs.store_api.Versions.{version_of}
use Rattle.path_runs.specs.runs.node_core.declared.journal.Entry.{Entry}
use Rattle.path_runs.specs.runs.Committed.{IsEarlier}
use Rattle.path_runs.specs.runs.Run.{state}

-- a branch with which the table began goes on from nothing
pub record BeginsAnew (setup : SetupState) (branch : Id) (birth : BranchBirth) (key : List ℕ) : Type 0 where
  pub known : knows (table_of setup).history branch ≡ true
  pub origin_is : origin_at birth (hash_of key setup.hashes) key ≡ zero

-- any other branch goes on from a version that its maker had at some moment, in the life in which it made the branch
pub record HadOrigin (setup : SetupState) (past : List Entry) (branch : Id) (birth : BranchBirth) (key : List ℕ) : Type 0 where
  pub moment : List Entry
  pub earlier : IsEarlier past moment
  pub life_is : branch.life ≡ (state setup branch.node.0 moment).life
  pub is : value_at birth.origin.pieces (hash_of key setup.hashes) key ≡ version_of (state setup branch.node.0 moment).versions key
