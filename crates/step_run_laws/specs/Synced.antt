-- Executions whose sync has a majority.
use Rattle.std.specs.Prelude.{◌≡◌, ℕ, true, ◌⊎◌, List, Some}
use Rattle.list_laws.specs.Members.{IsIn}
use Rattle.path_runs.specs.runs.region_map.declared.id.Id.{Id}
use Rattle.path_runs.specs.runs.contract_types.declared.contract.Contract.{Contract}
use Rattle.path_runs.specs.runs.contract_types.Setup.{SetupState}
use Rattle.path_runs.specs.runs.primary_exec.Execution.{Execution}
use Rattle.path_runs.specs.runs.node_core.declared.journal.Entry.{Entry}
use Rattle.path_runs.specs.runs.Committed.{IsEarlier}
use Rattle.path_runs.specs.runs.Run.{state}
use Rattle.step_laws.specs.Counting.{has_majorities}

-- at some moment the node's execution of a branch had a contract in force, and its sync under it had majorities
pub record WasSynced (setup : SetupState) (past : List Entry) (n : ℕ) (branch : Id) (contract : Contract) : Type 0 where
  pub moment : List Entry
  pub earlier : IsEarlier past moment
  pub execution : Execution
  pub there : IsIn (state setup n moment).executions execution
  pub branch_is : execution.branch ≡ branch
  pub contract_is : execution.contract ≡ contract
  pub at : ℕ
  pub sync_is : execution.sync ≡ Some at
  pub counted : has_majorities execution at ≡ true

-- a branch of a first life is one with which the table began, ready from the beginning; any other needs its sync
abbrev pub IsReadyRightly : SetupState → List Entry → ℕ → Execution → Type 0
IsReadyRightly setup past n x = (x.branch.life ≡ 1) ⊎ WasSynced setup past n x.branch x.contract
