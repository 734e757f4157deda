-- What a change does to a table, whatever kind of change it is.
use Rattle.std.proofs.Common.{◌≡◌, ℕ, true, false, cond, not, List, ◌∷◌, refl, subst}
use Rattle.std.proofs.lemmas.Bool.{and_parts, not-false, not-true, cond_both}
use Rattle.region_map.specs.declared.id.Id.{Id}
use Rattle.region_map.specs.declared.id.NodeId.{NodeId}
use Rattle.region_map.specs.declared.region.Region.{Region}
use Rattle.region_map.specs.Maps.{Pieced}
use Rattle.branch_history.specs.declared.version.Version.{Version}
use Rattle.branch_history.specs.declared.history.BranchBirth.{BranchBirth}
use Rattle.branch_history.specs.Paths.{Branches}
use Rattle.branch_history.specs.Histories.{knows, knows_origins}
use Rattle.contract_types.specs.declared.contract.Contract.{Contract}
use Rattle.contract_types.specs.declared.change.Change.{Change}
use Rattle.contract_types.specs.declared.change.Change.TheVariants.{Noop, SetConfig, NewContracts, RegisterBranch}
use Rattle.contract_types.specs.declared.applied.Condition.TheVariants.{Removed, Regions, Primary, IdNew, Tenure, BasedOn}
use Rattle.contract_types.specs.Configs.{ConfigState}
use Rattle.contract_types.specs.Tables.{Table}
use Rattle.table_apply.specs.Conditions.{leaving, are_current, tile, have_primaries, are_new, has_tenure, is_based_on, is_new_branch}
use Rattle.table_apply.specs.Effects.{Effect, skipped, taken, replaced, birth, applied_at, FitsTable}

-- new contracts that are taken
pub record Accepted (contracts : List Contract) (removed : List Id) (added : List Contract) : Type 0 where
  pub tiles : tile added (leaving contracts removed) ≡ true
  pub primaries : have_primaries (leaving contracts removed) added ≡ true
  pub new : are_new contracts added ≡ true

-- a branch that is taken
pub record Joins (t : Table) (branch : Id) (region : Region) (tenure : ℕ) (maker : NodeId) (based_on : Pieced Id) (origin : Pieced Version) : Type 0 where
  pub held : has_tenure t.contracts region tenure maker ≡ true
  pub based : is_based_on t.config.hashes t.history region based_on ≡ true
  pub new : knows t.history branch ≡ false
  pub founded : knows_origins t.history origin.pieces ≡ true

-- the table after a change is the one before, or has another configuration, other contracts or one branch more
pub table_after : (P : Table → Type 0) (t : Table) (index : ℕ) (change : Change) → P t
    → ((config : ConfigState) → change ≡ SetConfig config → P (record t { config = config }))
    → ((removed : List Id) (added : List Contract) → change ≡ NewContracts removed added → Accepted t.contracts removed added
    → P (record t { contracts = replaced t.contracts index removed added }))
    → ((branch : Id) (region : Region) (tenure : ℕ) (maker : NodeId) (based_on : Pieced Id) (origin : Pieced Version)
    → change ≡ RegisterBranch branch region tenure maker based_on origin → Joins t branch region tenure maker based_on origin
    → P (record t { history = (branch, birth region tenure origin) ∷ t.history }))
    → P (applied_at t index change).table
table_after P t index Noop same config contracts branch = same
table_after P t index (SetConfig next) same config contracts branch = config next refl
table_after P t index (NewContracts removed added) same config contracts branch =
    let Q : Effect → Type 0 = λ e. P e.table in
    let last : Effect = taken (record t { contracts = replaced t.contracts index removed added }) in
    let fourth : Effect = cond (not (are_new t.contracts added)) (skipped t IdNew) last in
    let third : Effect = cond (not (have_primaries (leaving t.contracts removed) added)) (skipped t Primary) fourth in
    let second : Effect = cond (not (tile added (leaving t.contracts removed))) (skipped t Regions) third in
    cond_both (not (are_current t.contracts removed)) (skipped t Removed) second Q (λ e. same) (λ a.
    cond_both (not (tile added (leaving t.contracts removed))) (skipped t Regions) third Q (λ e. same) (λ b.
    cond_both (not (have_primaries (leaving t.contracts removed) added)) (skipped t Primary) fourth Q (λ e. same) (λ c.
    cond_both (not (are_new t.contracts added)) (skipped t IdNew) last Q (λ e. same) (λ d.
    contracts removed added refl (record { tiles = not-false _ b; primaries = not-false _ c; new = not-false _ d })))))
table_after P t index (RegisterBranch id region tenure maker based_on origin) same config contracts branch =
    let Q : Effect → Type 0 = λ e. P e.table in
    let last : Effect = taken (record t { history = (id, birth region tenure origin) ∷ t.history }) in
    let third : Effect = cond (not (is_new_branch t.history id origin.pieces)) (skipped t IdNew) last in
    let second : Effect = cond (not (is_based_on t.config.hashes t.history region based_on)) (skipped t BasedOn) third in
    cond_both (not (has_tenure t.contracts region tenure maker)) (skipped t Tenure) second Q (λ e. same) (λ a.
    cond_both (not (is_based_on t.config.hashes t.history region based_on)) (skipped t BasedOn) third Q (λ e. same) (λ b.
    cond_both (not (is_new_branch t.history id origin.pieces)) (skipped t IdNew) last Q (λ e. same) (λ c.
    let both = and_parts (not (knows t.history id)) (knows_origins t.history origin.pieces) (not-false _ c) in
    branch id region tenure maker based_on origin refl (record { held = not-false _ a; based = not-false _ b; new = not-true _ both.0; founded = both.1 }))))

pub contracts_after : (P : List Contract → Type 0) (t : Table) (index : ℕ) (change : Change) → P t.contracts
    → ((removed : List Id) (added : List Contract) → Accepted t.contracts removed added → P (replaced t.contracts index removed added))
    → P (applied_at t index change).table.contracts
contracts_after P t index change same replace =
    table_after (λ (u : Table). P u.contracts) t index change same (λ config is. same) (λ removed added is a. replace removed added a)
    (λ branch region tenure maker based_on origin is j. same)

pub history_after : (P : Branches → Type 0) (t : Table) (index : ℕ) (change : Change) → P t.history
    → ((id : Id) (b : BranchBirth) → knows t.history id ≡ false → knows_origins t.history b.origin.pieces ≡ true
    → ((hashes : ℕ) → FitsTable hashes change → b.origin.hashes ≡ hashes) → P ((id, b) ∷ t.history))
    → P (applied_at t index change).table.history
history_after P t index change same join =
    table_after (λ (u : Table). P u.history) t index change same (λ config is. same) (λ removed added is a. same)
    (λ branch region tenure maker based_on origin is j.
    join branch (birth region tenure origin) j.new j.founded (λ hashes fits. subst (FitsTable hashes) is fits))
