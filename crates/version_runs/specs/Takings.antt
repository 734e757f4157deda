-- Which timestamps of branches the entries of a run take, for operations and for syncs.
use Rattle.std.specs.Prelude.{◌≡◌, ◌⊎◌, ℕ, List, [], ◌∷◌, Some}
use Rattle.path_runs.specs.runs.region_map.declared.id.Id.{Id}
use Rattle.path_runs.specs.runs.register_laws.declared.operation.OpId.{OpId}
use Rattle.path_runs.specs.runs.contract_types.Setup.{SetupState}
use Rattle.path_runs.specs.runs.exec_types.declared.output.Output.TheVariants.{Dispatched}
use Rattle.path_runs.specs.runs.primary_exec.Execution.{Execution}
use Rattle.path_runs.specs.runs.node_core.declared.journal.Entry.{Entry}
use Rattle.path_runs.specs.runs.node_core.Step.{NodeState}
use Rattle.path_runs.specs.runs.Run.{state}
use Rattle.path_runs.specs.runs.Story.{IsIn}

-- a node has an execution of the branch whose sync, under its contract, took this timestamp
pub record HasSync (s : NodeState) (branch : Id) (at : ℕ) : Type 0 where
  pub execution : Execution
  pub is_in : IsIn s.executions execution
  pub branch_is : execution.branch ≡ branch
  pub sync_is : execution.sync ≡ Some at

-- an entry takes a timestamp of a branch: it dispatches an operation at it, or makes it the sync of an execution
pub data Takes (setup : SetupState) (past : List Entry) (e : Entry) (branch : Id) (at : ℕ) : Type 0 where
  Dispatches : (op : OpId) (key : List ℕ) → IsIn e.outputs (Dispatched op key branch at) → Takes setup past e branch at
  Syncs : HasSync (state setup e.node.0 (e ∷ past)) branch at → (HasSync (state setup e.node.0 past) branch at → ⊥) → Takes setup past e branch at

-- it was taken at some moment
abbrev pub IsTaken : SetupState → List Entry → Id → ℕ → Type 0
IsTaken setup [] branch at = ⊥
IsTaken setup (e ∷ past) branch at = Takes setup past e branch at ⊎ IsTaken setup past branch at
