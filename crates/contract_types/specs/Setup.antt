-- What a table begins with.
use Rattle.std.specs.Prelude.{◌≡◌, ℕ, zero, suc, Bool, true, ◌&&◌, ◌||◌, ◌==◌, nat_lt, nat_le, List, [], ◌∷◌, ◌++◌, None}
use Rattle.region_map.specs.declared.region.Region.{Region}
use Rattle.region_map.specs.Nodes.{node_id}
use Rattle.contract_types.specs.declared.config.ShardConfig.{ShardConfig}
use Rattle.contract_types.specs.Configs.{ConfigState, IsConfig}

-- the configuration with which a table begins
abbrev pub SetupState : Type 0
SetupState = ConfigState

abbrev pub is_hashes : ℕ → Bool
is_hashes h = (h == 1) || (h == 2) || (h == 4) || (h == 8)

-- a table has 1 to 7 nodes, and 1, 2, 4 or 8 hashes
abbrev pub is_setup : ℕ → ℕ → Bool
is_setup nodes hashes = nat_lt 0 nodes && nat_le nodes 7 && is_hashes hashes

-- what a table may begin with
pub record IsSetup (setup : SetupState) : Type 0 where
  pub fits : is_setup setup.nodes setup.hashes ≡ true
  pub config : IsConfig setup

-- ---- one shard of all keys

-- the numbers below n
abbrev pub nodes_below : ℕ → List ℕ
nodes_below zero = []
nodes_below (suc n) = nodes_below n ++ n ∷ []

abbrev pub all_keys : ℕ → Region
all_keys hashes = record { hash_from = 0; hash_to = hashes; from = None; to = None }

-- all keys, which every node keeps and votes for, with node 0 as the primary
abbrev pub whole_shard : ℕ → ℕ → ShardConfig
whole_shard nodes hashes = record { region = all_keys hashes; replicas = nodes_below nodes; voters = nodes_below nodes; primary = node_id 0 }

abbrev pub whole : ℕ → ℕ → ConfigState
whole nodes hashes = record { nodes = nodes; hashes = hashes; shards = whole_shard nodes hashes ∷ [] }
