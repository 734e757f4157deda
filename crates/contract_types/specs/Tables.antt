-- The state of a table that follows from its log, and what it begins with.
use Rattle.std.specs.Prelude.{◌≡◌, ℕ, ◌+◌, ◌<◌, true, List, [], ◌∷◌, Option, Some, None, if◌then◌else◌}
use Rattle.std.specs.Option.{is_some}
use Rattle.std.specs.List.{AllByRecursion}
use Rattle.region_map.specs.declared.id.Id.{Id}
use Rattle.region_map.specs.declared.id.NodeId.{NodeId}
use Rattle.region_map.specs.declared.region.Region.{Region}
use Rattle.region_map.specs.Regions.{in_region}
use Rattle.region_map.specs.Nodes.{node_id}
use Rattle.region_map.specs.Maps.{Pieced, value_at}
use Rattle.branch_history.specs.declared.version.Version.{Version}
use Rattle.branch_history.specs.declared.history.BranchBirth.{BranchBirth}
use Rattle.branch_history.specs.Paths.{Branches, zero}
use Rattle.branch_history.specs.Histories.{HasHashes}
use Rattle.contract_types.specs.declared.contract.Contract.{Contract}
use Rattle.contract_types.specs.declared.config.ShardConfig.{ShardConfig}
use Rattle.contract_types.specs.Configs.{ConfigState}

-- the configuration that was asked for, the contracts in table order, and the registered branches, the newest first
pub record Table : Type 0 where
  pub config : ConfigState
  pub contracts : List Contract
  pub history : Branches

-- the current branch of a pair: the one last registered on a region that has it
abbrev pub branch_at : Branches → ℕ → List ℕ → Option Id
branch_at [] h k = None
branch_at (b ∷ bs) h k = if in_region b.1.region h k then Some b.0 else branch_at bs h k

-- a map of the current branches is kept beside the history: of each pair with a hash of the table there is one
pub record IsKept (count : ℕ) (history : Branches) (branches : Pieced Id) : Type 0 where
  pub hashes : branches.hashes ≡ count
  pub origins : HasHashes history count
  pub some : (h : ℕ) (k : List ℕ) → h < count → is_some (branch_at history h k) ≡ true
  pub current : (h : ℕ) (k : List ℕ) → h < count → value_at branches.pieces h k ≡ branch_at history h k

-- the contract and the branch that a shard begins with, by the shard's place from 0
abbrev pub first_contract : ℕ → ShardConfig → Contract
first_contract place s = record {
  id = record { node = node_id 0; life = 0; counter = place };
  region = s.region;
  replicas = s.replicas;
  voters = s.voters;
  temp_voters = None;
  primary = Some (record { server = s.primary; hand_over = None });
  since = 0;
  tenure = 0;
}

-- the id that a node has made in its first life for the shard of a place
abbrev pub setup_id : ℕ → NodeId → Id
setup_id place node = record { node = node; life = 1; counter = place }

abbrev pub first_id : ℕ → ShardConfig → Id
first_id place s = setup_id place s.primary

-- the zero version everywhere on a region
abbrev pub zero_origin : ℕ → Region → Pieced Version
zero_origin hashes r = record { hashes = hashes; pieces = (r, zero) ∷ [] }

abbrev pub first_birth : ℕ → ShardConfig → BranchBirth
first_birth hashes s = record { region = s.region; initial = 0; origin = zero_origin hashes s.region; tenure = 0 }

abbrev pub first_contracts : ℕ → List ShardConfig → List Contract
first_contracts place [] = []
first_contracts place (s ∷ ss) = first_contract place s ∷ first_contracts (place + 1) ss

abbrev pub first_branches : ℕ → ℕ → List ShardConfig → Branches → Branches
first_branches hashes place [] older = older
first_branches hashes place (s ∷ ss) older = first_branches hashes (place + 1) ss ((first_id place s, first_birth hashes s) ∷ older)

-- what a table begins with: a contract and a branch for each shard
abbrev pub setup : ConfigState → Table
setup c = record { config = c; contracts = first_contracts 0 c.shards; history = first_branches c.hashes 0 c.shards [] }

-- all ids of a history have a smaller counter
abbrev pub AllBelow : ℕ → Branches → Type 0
AllBelow place history = AllByRecursion (λ b. b.0.counter < place) history

-- while a table begins: each pair has the current branch of those that are there, and else some id
pub record IsBegun (count place : ℕ) (history : Branches) (branches : Pieced Id) : Type 0 where
  pub hashes : branches.hashes ≡ count
  pub origins : HasHashes history count
  pub below : AllBelow place history
  pub current : (h : ℕ) (k : List ℕ) → h < count → is_some (value_at branches.pieces h k) ≡ true
  pub branch : (h : ℕ) (k : List ℕ) → h < count → is_some (branch_at history h k) ≡ true → value_at branches.pieces h k ≡ branch_at history h k
