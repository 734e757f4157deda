-- How a primary that waits for its branch starts once that is registered.
use Rattle.std.specs.Prelude.{ℕ, zero, suc, Bool, false, nat_lt, List, [], ◌∷◌, ◌++◌, Option, Some, None, if◌then◌else◌}
use Rattle.std.specs.List.{flat_map, list_any, list_all}
use Rattle.region_map.specs.declared.id.Id.{Id}
use Rattle.region_map.specs.declared.id.NodeId.{NodeId}
use Rattle.region_map.specs.declared.region.Region.{Region}
use Rattle.region_map.specs.Equal.{same_id}
use Rattle.region_map.specs.Maps.{Pieced}
use Rattle.region_map.specs.Made.{ends_of, made, mask_map}
use Rattle.branch_history.specs.declared.version.Version.{Version}
use Rattle.branch_history.specs.declared.history.BranchBirth.{BranchBirth}
use Rattle.branch_history.specs.Histories.{birth_of}
use Rattle.contract_types.specs.declared.contract.Contract.{Contract}
use Rattle.contract_types.specs.Tables.{Table, branch_at}
use Rattle.primary_exec.specs.declared.asking.Asking.{Asking}
use Rattle.primary_exec.specs.Execution.{Execution, started, started_versions, start_ends_numbers}

-- ---- whether it may start

-- the current branches of a table, as the one map of them
abbrev pub current_of : Table → Pieced Id
current_of t = made same_id t.config.hashes (flat_map (λ b. ends_of b.1.region) t.history) (branch_at t.history)

-- whether a branch is the current one everywhere on a region
abbrev pub is_current : Table → Region → Id → Bool
is_current t region branch = list_all (λ p. same_id p.1 branch) (mask_map same_id region (current_of t)).pieces

abbrev pub initial_of : Option BranchBirth → Option ℕ
initial_of None = None
initial_of (Some birth) = Some birth.initial

-- the timestamp with which the branch begins, where it is the current one of its region
abbrev pub due : Table → Asking → Option ℕ
due t a = if is_current t a.contract.region a.branch then initial_of (birth_of t.history a.branch) else None

-- ---- the order of the table

-- at which place the contract of an id stands
abbrev pub place_of : List Contract → Id → ℕ
place_of [] id = zero
place_of (c ∷ cs) id = if same_id c.id id then zero else suc (place_of cs id)

-- an execution put among others that are in table order
abbrev pub placed : List Contract → Execution → List Execution → List Execution
placed contracts x [] = x ∷ []
placed contracts x (y ∷ ys) =
    if nat_lt (place_of contracts x.contract.id) (place_of contracts y.contract.id) then x ∷ y ∷ ys else y ∷ placed contracts x ys

-- ---- starting

-- who still asks, the executions, and the versions of the node
pub record Starting : Type 0 where
  pub asking : List Asking
  pub executions : List Execution
  pub versions : Pieced Version

abbrev pub start_one : NodeId → List Contract → Asking → Option ℕ → Starting → Starting
start_one me contracts a None s = record s { asking = s.asking ++ a ∷ [] }
start_one me contracts a (Some initial) s =
    record s { executions = placed contracts (started a me initial) s.executions; versions = started_versions a initial s.versions }

-- each of these starts that may, in their order
abbrev pub start_each : NodeId → Table → List Asking → Starting → Starting
start_each me t [] s = s
start_each me t (a ∷ rest) s = start_each me t rest (start_one me t.contracts a (due t a) s)

abbrev pub due_ends_numbers : Option ℕ → Bool
due_ends_numbers None = false
due_ends_numbers (Some initial) = start_ends_numbers initial

-- the timestamp of a first sync would be one that none reaches
abbrev pub starts_end_numbers : Table → List Asking → Bool
starts_end_numbers t asking = list_any (λ a. due_ends_numbers (due t a)) asking
