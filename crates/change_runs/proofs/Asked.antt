-- What a primary asked for at some moment of a run, and what is then known of the keys that it leads.
use Rattle.std.proofs.Common.{◌≡◌, ◌⊎◌, ℕ, ◌≤◌, Bool, true, cond, List, [], ◌∷◌, filter, Option, Some}
use Rattle.log_runs.specs.runs.region_map.declared.id.Id.{Id}
use Rattle.log_runs.specs.runs.region_map.declared.id.NodeId.{NodeId}
use Rattle.log_runs.specs.runs.region_map.Nodes.{node_id}
use Rattle.log_runs.specs.runs.region_map.declared.region.Region.{Region}
use Rattle.log_runs.specs.runs.region_map.Equal.{same_id}
use Rattle.log_runs.specs.runs.region_map.Regions.{in_region}
use Rattle.log_runs.specs.runs.region_map.Maps.{Pieced, value_at}
use Rattle.log_runs.specs.runs.region_map.Made.{mask_map}
use Rattle.log_runs.specs.runs.branch_history.declared.version.Version.{Version}
use Rattle.log_runs.specs.runs.branch_history.declared.history.BranchBirth.{BranchBirth}
use Rattle.log_runs.specs.runs.branch_history.Equal.{same_version}
use Rattle.log_runs.specs.runs.branch_history.Paths.{Branches, is_on}
use Rattle.log_runs.specs.runs.branch_history.Histories.{knows, birth_of}
use Rattle.log_runs.specs.runs.contract_types.Setup.{SetupState}
use Rattle.log_runs.specs.runs.contract_types.declared.change.Change.{Change}
use Rattle.log_runs.specs.runs.contract_types.declared.change.Change.TheVariants.{Noop, SetConfig, NewContracts, RegisterBranch}
use Rattle.log_runs.specs.runs.store_api.Versions.{point}
use Rattle.log_runs.specs.runs.table_log.Logs.{table_of}
use Rattle.log_runs.specs.runs.primary_exec.declared.asking.Asking.{Asking}
use Rattle.log_runs.specs.runs.node_core.declared.journal.Entry.{Entry}
use Rattle.log_runs.specs.runs.node_core.Starting.{current_of}
use Rattle.log_runs.specs.runs.Committed.{IsEarlier}
use Rattle.log_runs.specs.runs.Run.{state}
use Rattle.log_runs.specs.runs.Story.{Point, IsIn, points, same_key}
use Rattle.log_runs.specs.runs.Stored.{CameAbout}

-- ---- the points of a key

abbrev pub is_keyed : List ℕ → Point → Bool
is_keyed key p = same_key p.key key

-- every operation on a key that was dispatched, in the order in which it was
abbrev pub key_path : List Entry → List ℕ → List Point
key_path past key = filter (is_keyed key) (points past)

-- ---- what was asked for

-- a node asked at some moment for a branch on a region: these were the current branches of the region as it knew them, and these
-- its own versions there
pub record Asked (setup : SetupState) (past : List Entry) (maker : NodeId) (branch : Id) (region : Region) (based_on : Pieced Id) (origin : Pieced Version) : Type 0 where
  pub moment : List Entry
  pub earlier : IsEarlier past moment
  pub asking : Asking
  pub is_in : IsIn (state setup maker.0 moment).asking asking
  pub branch_is : asking.branch ≡ branch
  pub region_is : asking.contract.region ≡ region
  pub based : based_on ≡ mask_map same_id region (current_of (table_of (state setup maker.0 moment).log))
  pub origin_is : origin ≡ mask_map same_version region (state setup maker.0 moment).versions

-- a change that a log may hold so far: nothing, or a branch that its maker asked for
abbrev pub IsAsked : SetupState → List Entry → Change → Type 0
IsAsked setup past Noop = Unit {0}
IsAsked setup past (SetConfig config) = ⊥
IsAsked setup past (NewContracts removed added) = ⊥
IsAsked setup past (RegisterBranch branch region tenure maker based_on origin) = Asked setup past maker branch region based_on origin

-- ---- histories

-- the branches that a node has in its table, the newest first
abbrev pub history_of : SetupState → ℕ → List Entry → Branches
history_of setup n past = (table_of (state setup n past).log).history

-- a branch and all older ones
abbrev pub upto : Branches → Id → Branches
upto [] id = []
upto (b ∷ bs) id = cond (same_id b.0 id) (b ∷ bs) (upto bs id)

abbrev pub rest_of : Branches → Branches
rest_of [] = []
rest_of (b ∷ bs) = bs

-- all branches older than one
abbrev pub below : Branches → Id → Branches
below bs id = rest_of (upto bs id)

-- a branch that was asked for can no longer follow another one: it is that or an older one itself, or it goes on from the
-- current branch of a time before that one
abbrev pub Stale : Branches → Id → Id → Option Id → Type 0
Stale history now branch based = (knows (upto history now) branch ≡ true) ⊎ ((b : Id) × (based ≡ Some b) × (knows (below history now) b ≡ true))

-- ---- a key at the node that leads it

-- where the node's version of the key stands, and that every operation on the key lies on its path; and what the node asked
-- for goes on from there, or is stale
pub record LedFacts (setup : SetupState) (past : List Entry) (h : ℕ) (key : List ℕ) (p : ℕ) : Type 0 where
  pub version : Version
  pub version_is : value_at (state setup p past).versions.pieces h key ≡ Some version
  pub branch : Id
  pub branch_is : version.branch ≡ Some branch
  pub birth : BranchBirth
  pub registered : birth_of (history_of setup p past) branch ≡ Some birth
  pub inside : in_region birth.region h key ≡ true
  pub initial : birth.initial ≤ version.timestamp
  pub came : CameAbout (points past) branch birth version.timestamp
  pub points_on : (q : Point) → IsIn (points past) q → is_keyed key q ≡ true → is_on (history_of setup p past) h key version (point q.branch q.timestamp) ≡ true
  pub asked : (b : Id) (r : Region) (based_on : Pieced Id) (origin : Pieced Version) → Asked setup past (node_id p) b r based_on origin → in_region r h key ≡ true
      → (value_at origin.pieces h key ≡ Some version) ⊎ Stale (history_of setup p past) branch b (value_at based_on.pieces h key)
