-- Versions that can be traced to their branch's maker: it started the branch, and the timestamp is the first one of the
-- branch, or was taken before.
use Rattle.std.specs.Prelude.{◌≡◌, ◌⊎◌, ℕ, List, Some}
use Rattle.path_runs.specs.runs.region_map.declared.id.Id.{Id}
use Rattle.path_runs.specs.runs.branch_history.declared.version.Version.{Version}
use Rattle.path_runs.specs.runs.branch_history.declared.history.BranchBirth.{BranchBirth}
use Rattle.path_runs.specs.runs.branch_history.Histories.{birth_of}
use Rattle.path_runs.specs.runs.branch_history.Paths.{zero}
use Rattle.path_runs.specs.runs.contract_types.Setup.{SetupState}
use Rattle.path_runs.specs.runs.table_log.Logs.{table_of}
use Rattle.path_runs.specs.runs.primary_exec.Execution.{Execution}
use Rattle.path_runs.specs.runs.node_core.declared.journal.Entry.{Entry}
use Rattle.path_runs.specs.runs.Committed.{IsEarlier}
use Rattle.path_runs.specs.runs.Run.{state}
use Rattle.path_runs.specs.runs.Story.{IsIn}
use Rattle.version_runs.specs.Takings.{IsTaken}

-- the maker of a branch had an execution of it at some moment, in the life in which it made the branch, and knew it
-- registered with this birth
pub record IsStarted (setup : SetupState) (past : List Entry) (branch : Id) (birth : BranchBirth) : Type 0 where
  pub moment : List Entry
  pub earlier : IsEarlier past moment
  pub execution : Execution
  pub is_in : IsIn (state setup branch.node.0 moment).executions execution
  pub branch_is : execution.branch ≡ branch
  pub life_is : branch.life ≡ (state setup branch.node.0 moment).life
  pub registered : birth_of (table_of (state setup branch.node.0 moment).log).history branch ≡ Some birth

-- a point of a branch that was started: its initial timestamp, or one that was taken
pub record IsPointOf (setup : SetupState) (past : List Entry) (branch : Id) (at : ℕ) : Type 0 where
  pub birth : BranchBirth
  pub started : IsStarted setup past branch birth
  pub came : (at ≡ birth.initial) ⊎ IsTaken setup past branch at

-- a version is zero, or such a point
abbrev pub IsTraced : SetupState → List Entry → Version → Type 0
IsTraced setup past version = (version ≡ zero) ⊎ ((branch : Id) × (version.branch ≡ Some branch) × IsPointOf setup past branch version.timestamp)
