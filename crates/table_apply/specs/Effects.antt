-- What a committed change does to a table, as a function of the table, the change's log index and the change.
use Rattle.std.specs.Prelude.{◌≡◌, ℕ, ◌&&◌, not, List, [], ◌∷◌, ◌++◌, map, max, if◌then◌else◌}
use Rattle.region_map.specs.declared.id.Id.{Id}
use Rattle.region_map.specs.declared.id.NodeId.{NodeId}
use Rattle.region_map.specs.declared.region.Region.{Region}
use Rattle.region_map.specs.Maps.{Pieced}
use Rattle.branch_history.specs.declared.version.Version.{Version}
use Rattle.branch_history.specs.declared.history.BranchBirth.{BranchBirth}
use Rattle.contract_types.specs.declared.contract.Contract.{Contract}
use Rattle.contract_types.specs.declared.change.Change.{Change}
use Rattle.contract_types.specs.declared.change.Change.TheVariants.{Noop, SetConfig, NewContracts, RegisterBranch}
use Rattle.contract_types.specs.declared.applied.Applied.{Applied}
use Rattle.contract_types.specs.declared.applied.Applied.TheVariants.{Taken, Skipped}
use Rattle.contract_types.specs.declared.applied.Condition.{Condition}
use Rattle.contract_types.specs.declared.applied.Condition.TheVariants.{Removed, Regions, Primary, IdNew, Tenure, BasedOn}
use Rattle.contract_types.specs.Tables.{Table}
use Rattle.table_apply.specs.Conditions.{leaving, staying, same_regions, same_primaries, are_current, tile, have_primaries, are_new, has_tenure, is_based_on, is_new_branch}

-- the table after a change, and whether it was taken
pub record Effect : Type 0 where
  pub table : Table
  pub applied : Applied

abbrev pub skipped : Table → Condition → Effect
skipped t condition = record { table = t; applied = Skipped condition }

abbrev pub taken : Table → Effect
taken t = record { table = t; applied = Taken }

-- ---- new contracts

-- the tenure that a contract goes on with: that of the removed one with the same region and the same primary, and
-- else its own begins at this index
abbrev pub tenure_from : List Contract → ℕ → Contract → ℕ
tenure_from [] index c = index
tenure_from (old ∷ rest) index c = if same_regions old.region c.region && same_primaries old.primary c.primary then old.tenure else tenure_from rest index c

abbrev pub placed : List Contract → ℕ → Contract → Contract
placed removed index c = record c { since = index; tenure = tenure_from removed index c }

-- the contracts after a change that is taken: those that stay, and the added ones behind them
abbrev pub replaced : List Contract → ℕ → List Id → List Contract → List Contract
replaced contracts index removed added = staying contracts removed ++ map (placed (leaving contracts removed) index) added

abbrev pub new_contracts : Table → ℕ → List Id → List Contract → Effect
new_contracts t index removed added =
    if not (are_current t.contracts removed) then skipped t Removed
    else (if not (tile added (leaving t.contracts removed)) then skipped t Regions
    else (if not (have_primaries (leaving t.contracts removed) added) then skipped t Primary
    else (if not (are_new t.contracts added) then skipped t IdNew
    else taken (record t { contracts = replaced t.contracts index removed added }))))

-- ---- a branch

-- the greatest timestamp that a branch goes on from, or 0 where there is none
abbrev pub greatest : List (Region × Version) → ℕ
greatest [] = 0
greatest (p ∷ ps) = max p.1.timestamp (greatest ps)

abbrev pub birth : Region → ℕ → Pieced Version → BranchBirth
birth region tenure origin = record { region = region; initial = greatest origin.pieces; origin = origin; tenure = tenure }

abbrev pub register : Table → Id → Region → ℕ → NodeId → Pieced Id → Pieced Version → Effect
register t branch region tenure maker based_on origin =
    if not (has_tenure t.contracts region tenure maker) then skipped t Tenure
    else (if not (is_based_on t.config.hashes t.history region based_on) then skipped t BasedOn
    else (if not (is_new_branch t.history branch origin.pieces) then skipped t IdNew
    else taken (record t { history = (branch, birth region tenure origin) ∷ t.history })))

-- ---- any change

abbrev pub applied_at : Table → ℕ → Change → Effect
applied_at t index Noop = taken t
applied_at t index (SetConfig config) = taken (record t { config = config })
applied_at t index (NewContracts removed added) = new_contracts t index removed added
applied_at t index (RegisterBranch branch region tenure maker based_on origin) = register t branch region tenure maker based_on origin

-- the maps that a change brings have as many hashes as the table
abbrev pub FitsTable : ℕ → Change → Type 0
FitsTable hashes Noop = Unit {0}
FitsTable hashes (SetConfig config) = config.hashes ≡ hashes
FitsTable hashes (NewContracts removed added) = Unit {0}
FitsTable hashes (RegisterBranch branch region tenure maker based_on origin) = origin.hashes ≡ hashes
