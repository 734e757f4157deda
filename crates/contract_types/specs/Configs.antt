-- The configuration of a table, and the rules that each one meets.
use Rattle.std.specs.Prelude.{◌≡◌, ◌==◌, ℕ, ◌<◌, Bool, true, ◌&&◌, ◌||◌, not, List, length, map, count_by, nat_lt, nat_le}
use Rattle.std.specs.List.{list_any}
use Rattle.region_map.specs.declared.id.NodeId.{NodeId}
use Rattle.region_map.specs.declared.region.Region.{Region}
use Rattle.region_map.specs.Regions.{is_open}
use Rattle.region_map.specs.Nodes.{has, without, node_id}
use Rattle.contract_types.specs.declared.config.ShardConfig.{ShardConfig}
use Rattle.contract_types.specs.declared.tiling.Rule.TheVariants.{Apart, Whole}
use Rattle.contract_types.specs.Tilings.{holders, allows_at, everywhere}

-- nodes, hashes and shards of a table
pub record ConfigState : Type 0 where
  pub nodes : ℕ
  pub hashes : ℕ
  pub shards : List ShardConfig

abbrev pub shard_region : ShardConfig → Region
shard_region s = s.region

-- a table has 1 to 16 shards
abbrev pub has_no_shards : List ShardConfig → Bool
has_no_shards shards = (length shards == 0) || nat_lt 16 (length shards)

-- an interval or a range without anything in it, or hashes that the table does not have
abbrev pub is_bad_region : ℕ → Region → Bool
is_bad_region hashes r = not (nat_lt r.hash_from r.hash_to && is_open r.from r.to) || nat_lt hashes r.hash_to

abbrev pub has_bad_region : ℕ → List ShardConfig → Bool
has_bad_region hashes shards = list_any (λ s. is_bad_region hashes s.region) shards

-- whether all members of a set are nodes of the table
abbrev pub are_nodes : ℕ → List ℕ → Bool
are_nodes nodes set = count_by (λ (n : NodeId). nat_le nodes n.0) (map node_id set) == 0

-- no replica, or one that is no node of the table
abbrev pub has_bad_replicas : ℕ → List ShardConfig → Bool
has_bad_replicas nodes shards = list_any (λ s. (length s.replicas == 0) || not (are_nodes nodes s.replicas)) shards

-- a voter that is no replica, or a primary that is no voter
abbrev pub has_bad_roles : List ShardConfig → Bool
has_bad_roles shards = list_any (λ s. nat_lt 0 (length (without s.voters s.replicas)) || not (has s.voters s.primary.0)) shards

-- a pair of a hash and a byte list lies in two shards
abbrev pub Overlaps : List ShardConfig → Type 0
Overlaps shards = (h : ℕ) × (k : List ℕ) × (1 < holders shard_region shards h k)

-- such a pair, with a hash of the table, lies in no shard
abbrev pub HasGap : ℕ → List ShardConfig → Type 0
HasGap hashes shards = (h : ℕ) × (k : List ℕ) × (h < hashes) × (holders shard_region shards h k ≡ 0)

-- the rules on single shards, in their order
abbrev pub has_regions : ℕ → List ShardConfig → Bool
has_regions hashes shards = not (has_no_shards shards) && not (has_bad_region hashes shards)

abbrev pub has_replicas : ℕ → ℕ → List ShardConfig → Bool
has_replicas nodes hashes shards = has_regions hashes shards && not (has_bad_replicas nodes shards)

abbrev pub has_roles : ℕ → ℕ → List ShardConfig → Bool
has_roles nodes hashes shards = has_replicas nodes hashes shards && not (has_bad_roles shards)

-- no rule is broken
pub record IsConfig (c : ConfigState) : Type 0 where
  pub roles : has_roles c.nodes c.hashes c.shards ≡ true
  pub apart : ¬ Overlaps c.shards
  pub whole : ¬ HasGap c.hashes c.shards

-- a test of the same, at the bounds of the shards alone
unfoldable pub is_config : ConfigState → Bool
is_config c =
    has_roles c.nodes c.hashes c.shards
    && everywhere shard_region shard_region c.shards c.shards (allows_at Apart shard_region shard_region c.shards c.shards)
    && everywhere shard_region shard_region c.shards c.shards (allows_at (Whole c.hashes) shard_region shard_region c.shards c.shards)
