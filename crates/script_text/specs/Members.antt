-- What stands in a line at a name.
use Rattle.std.specs.Prelude.{ℕ, Bool, true, false, ◌&&◌, nat_lt, bytes_eq, codes, List, [], Option, Some, None, not, is_some, option_map, option_and_then, if◌then◌else◌}
use Rattle.std.specs.List.{list_any, list_all}
use Rattle.serde_json.specs.Data.{Data, null, boolean, number, string, array, object, Members, Items, no_items, item, no_members, member}
use Rattle.serde_json.specs.Find.{get, at, as_bool, as_number, as_u64, as_str, as_array}
use Rattle.region_map.specs.Nodes.{node_id, with_member}
use Rattle.region_map.specs.declared.id.NodeId.{NodeId}
use Rattle.register_laws.specs.declared.operation.OpId.{OpId}
use Rattle.contract_types.specs.Setup.{SetupState}

infixl 10 ◌>>=◌
abbrev pub ◌>>=◌ : {A B : Type 0} → Option A → (A → Option B) → Option B
o >>= f = option_and_then f o

-- what passes a test
abbrev pub kept_if : {A : Type 0} → Bool → A → Option A
kept_if test a = if test then Some a else None

-- ---- what stands at a name

abbrev pub number_of_data : Data → Option ℕ
number_of_data d = option_and_then as_u64 (as_number d)

-- the number at a name
abbrev pub number_in : List ℕ → Data → Option ℕ
number_in name line = option_and_then number_of_data (get name line)

abbrev pub number_or : ℕ → Option Data → Option ℕ
number_or default None = Some default
number_or default (Some d) = number_of_data d

-- the text at a name
abbrev pub text_in : List ℕ → Data → Option (List ℕ)
text_in name line = option_and_then as_str (get name line)

abbrev pub op_in : List ℕ → Data → Option OpId
op_in name line = option_map (λ n. record { 0 = n }) (number_in name line)

-- a node of the table, at a name
abbrev pub node_at : List ℕ → SetupState → Data → Option NodeId
node_at name setup line = do
  n ← number_in name line
  kept_if (nat_lt n setup.nodes) (node_id n)

abbrev pub node_in : SetupState → Data → Option NodeId
node_in setup line = node_at (codes "node") setup line

-- the same where something stands at the name
abbrev pub node_or_none : List ℕ → SetupState → Data → Option (Option NodeId)
node_or_none name setup line = if is_some (get name line) then option_map Some (node_at name setup line) else Some None

-- true or false, at a name
abbrev pub truth_in : List ℕ → Data → Option Bool
truth_in name line = option_and_then as_bool (get name line)

-- each member of the object has one of these names
abbrev pub are_named : List (List ℕ) → Members → Bool
are_named names no_members = true
are_named names (member name d ms) = list_any (bytes_eq name) names && are_named names ms

abbrev pub has_only : List (List ℕ) → Data → Bool
has_only names null = false
has_only names (boolean b) = false
has_only names (number n) = false
has_only names (string s) = false
has_only names (array items) = false
has_only names (object ms) = are_named names ms

-- ---- numbers of nodes and of hashes

-- a number of a node, which shards tell below 64
abbrev pub node_of : Data → Option NodeId
node_of d = do
  n ← number_of_data d
  kept_if (nat_lt n 64) (node_id n)

-- a set with all of these nodes
abbrev pub nodes_with : List ℕ → Items → Option (List ℕ)
nodes_with set no_items = Some set
nodes_with set (item d ds) = do
  node ← node_of d
  nodes_with (with_member set node.0) ds

-- a list of nodes, as a set
abbrev pub nodes_of : Data → Option (List ℕ)
nodes_of d = option_and_then (nodes_with []) (as_array d)

abbrev pub nodes_or : List ℕ → Option Data → Option (List ℕ)
nodes_or default None = Some default
nodes_or default (Some d) = nodes_of d

-- a number of hashes, at a place of a pair
abbrev pub hash_at : ℕ → Data → Option ℕ
hash_at place pair = do
  n ← option_and_then number_of_data (at place pair)
  kept_if (nat_lt n 64) n

-- where the hashes of a shard begin and end
abbrev pub band_of : Data → Option (ℕ × ℕ)
band_of pair = do
  from ← hash_at 0 pair
  to ← hash_at 1 pair
  kept_if (not (is_some (at 2 pair))) (from, to)

abbrev pub band_or : ℕ → Option Data → Option (ℕ × ℕ)
band_or hashes None = Some (0, hashes)
band_or hashes (Some pair) = band_of pair

-- nodes of the table, or all
abbrev pub only_of : SetupState → Option Data → Option (Option (List ℕ))
only_of setup None = Some None
only_of setup (Some d) = do
  only ← nodes_of d
  kept_if (list_all (λ n. nat_lt n setup.nodes) only) (Some only)
