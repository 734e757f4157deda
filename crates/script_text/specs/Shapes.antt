-- Which members the line of each word has: those that must stand, each of its kind, and no unknown one. Nothing is told here of
-- ranges, lengths or the nodes of the table, but that no number in `shards` is above 63.
use Rattle.std.specs.Prelude.{ℕ, Bool, true, false, ◌&&◌, ◌||◌, not, bytes_eq, codes, List, [], ◌∷◌, Option, Some, None, is_some, option_and_then, Result, Ok, Err, if◌then◌else◌}
use Rattle.serde_json.specs.Data.{Data, Items, no_items, item}
use Rattle.serde_json.specs.Find.{get, as_null, as_str, as_array}
use Rattle.script_text.specs.declared.status.Reason.{Reason}
use Rattle.script_text.specs.declared.status.Reason.TheVariants.{Word, NotBuilt}
use Rattle.script_text.specs.Members.{number_of_data, number_in, number_or, text_in, truth_in, has_only, node_of, nodes_of, band_or}

-- ---- kinds

abbrev pub is_number : List ℕ → Data → Bool
is_number name line = is_some (number_in name line)

abbrev pub is_number_or_none : List ℕ → Data → Bool
is_number_or_none name line = is_some (number_or 0 (get name line))

abbrev pub is_text : List ℕ → Data → Bool
is_text name line = is_some (text_in name line)

abbrev pub is_text_or_null : Option Data → Bool
is_text_or_null None = false
is_text_or_null (Some d) = is_some (as_null d) || is_some (as_str d)

abbrev pub are_numbers : Items → Bool
are_numbers no_items = true
are_numbers (item d ds) = is_some (number_of_data d) && are_numbers ds

abbrev pub is_list_of_numbers : Option Items → Bool
is_list_of_numbers None = false
is_list_of_numbers (Some items) = are_numbers items

abbrev pub are_numbers_or_none : Option Data → Bool
are_numbers_or_none None = true
are_numbers_or_none (Some d) = is_list_of_numbers (as_array d)

-- ---- shards

abbrev pub is_text_or_none : Option Data → Bool
is_text_or_none None = true
is_text_or_none (Some d) = is_some (as_str d)

abbrev pub is_bound_or_none : Option Data → Bool
is_bound_or_none None = true
is_bound_or_none (Some d) = is_some (as_null d) || is_some (as_str d)

abbrev pub are_nodes_or_none : Option Data → Bool
are_nodes_or_none None = true
are_nodes_or_none (Some d) = is_some (nodes_of d)

abbrev pub has_nodes : Data → Bool
has_nodes shard =
    is_some (option_and_then nodes_of (get (codes "replicas") shard))
    && is_some (option_and_then node_of (get (codes "primary") shard))
    && are_nodes_or_none (get (codes "voters") shard)

abbrev pub has_region : Data → Bool
has_region shard =
    is_some (band_or 8 (get (codes "hash") shard))
    && is_text_or_none (get (codes "from") shard)
    && is_bound_or_none (get (codes "to") shard)

abbrev pub is_shard : Data → Bool
is_shard shard =
    has_nodes shard
    && has_region shard
    && has_only (codes "replicas" ∷ codes "voters" ∷ codes "primary" ∷ codes "hash" ∷ codes "from" ∷ codes "to" ∷ []) shard

abbrev pub are_shards : Items → Bool
are_shards no_items = true
are_shards (item d ds) = is_shard d && are_shards ds

abbrev pub is_list_of_shards : Option Items → Bool
is_list_of_shards None = false
is_list_of_shards (Some items) = are_shards items

abbrev pub are_shards_or_none : Option Data → Bool
are_shards_or_none None = true
are_shards_or_none (Some d) = is_list_of_shards (as_array d)

-- ---- words

-- `turns`, `seed`, `loss`, `twice` and `ticks` are of the program that runs the nodes at once
abbrev pub has_chances : Data → Bool
has_chances line =
    is_number_or_none (codes "turns") line
    && is_number_or_none (codes "seed") line
    && is_number_or_none (codes "loss") line
    && is_number_or_none (codes "twice") line
    && is_number_or_none (codes "ticks") line

abbrev pub has_setup : Data → Bool
has_setup line =
    is_number (codes "nodes") line
    && is_number_or_none (codes "hash") line
    && are_shards_or_none (get (codes "shards") line)
    && has_chances line
    && has_only (codes "do" ∷ codes "nodes" ∷ codes "hash" ∷ codes "shards" ∷ codes "turns" ∷ codes "seed" ∷ codes "loss" ∷ codes "twice" ∷ codes "ticks" ∷ []) line

-- an operation on a key at a node; `after` is of the other program too
abbrev pub has_request : Data → Bool
has_request line =
    is_number (codes "op") line
    && is_number (codes "node") line
    && is_text (codes "key") line
    && is_number_or_none (codes "after") line

abbrev pub has_put : Data → Bool
has_put line =
    has_request line
    && is_text (codes "value") line
    && has_only (codes "do" ∷ codes "op" ∷ codes "node" ∷ codes "key" ∷ codes "value" ∷ codes "after" ∷ []) line

-- of `delete` and `read`
abbrev pub has_key_alone : Data → Bool
has_key_alone line = has_request line && has_only (codes "do" ∷ codes "op" ∷ codes "node" ∷ codes "key" ∷ codes "after" ∷ []) line

abbrev pub has_cas : Data → Bool
has_cas line =
    has_request line
    && is_text_or_null (get (codes "expect") line)
    && is_text_or_null (get (codes "value") line)
    && has_only (codes "do" ∷ codes "op" ∷ codes "node" ∷ codes "key" ∷ codes "expect" ∷ codes "value" ∷ codes "after" ∷ []) line

abbrev pub has_giveup : Data → Bool
has_giveup line =
    is_number (codes "node") line
    && is_number (codes "for") line
    && is_number_or_none (codes "after") line
    && has_only (codes "do" ∷ codes "node" ∷ codes "for" ∷ codes "after" ∷ []) line

abbrev pub has_see : Data → Bool
has_see line =
    is_number (codes "node") line
    && is_number (codes "other") line
    && is_some (truth_in (codes "up") line)
    && is_number_or_none (codes "after") line
    && has_only (codes "do" ∷ codes "node" ∷ codes "other" ∷ codes "up" ∷ codes "after" ∷ []) line

-- of `crash` and `restart`
abbrev pub has_node_alone : Data → Bool
has_node_alone line =
    is_number (codes "node") line
    && is_number_or_none (codes "after") line
    && has_only (codes "do" ∷ codes "node" ∷ codes "after" ∷ []) line

abbrev pub has_tick : Data → Bool
has_tick line = is_number (codes "node") line && has_only (codes "do" ∷ codes "node" ∷ []) line

abbrev pub has_deliver : Data → Bool
has_deliver line =
    is_number (codes "message") line
    && is_number_or_none (codes "node") line
    && has_only (codes "do" ∷ codes "message" ∷ codes "node" ∷ []) line

abbrev pub has_lose_one : Data → Bool
has_lose_one line = is_number (codes "message") line && has_only (codes "do" ∷ codes "message" ∷ []) line

abbrev pub has_lose_between : Data → Bool
has_lose_between line =
    is_number (codes "from") line
    && is_number (codes "to") line
    && has_only (codes "do" ∷ codes "from" ∷ codes "to" ∷ []) line

-- beside a message no nodes may stand
abbrev pub has_lose : Data → Bool
has_lose line = if is_some (get (codes "message") line) then has_lose_one line else has_lose_between line

abbrev pub has_flush : Data → Bool
has_flush line = are_numbers_or_none (get (codes "only") line) && has_only (codes "do" ∷ codes "only" ∷ []) line

abbrev pub has_settle : Data → Bool
has_settle line =
    is_number (codes "rounds") line
    && are_numbers_or_none (get (codes "only") line)
    && has_only (codes "do" ∷ codes "rounds" ∷ codes "only" ∷ []) line

-- words that no program plays yet
abbrev pub is_later : List ℕ → Bool
is_later name = bytes_eq name (codes "config") || bytes_eq name (codes "fail")

-- whether a line has the members of its word, where the word is one
abbrev pub has_members : List ℕ → Data → Result Bool Reason
has_members name line =
    if bytes_eq name (codes "setup") then Ok (has_setup line) else
    if bytes_eq name (codes "put") then Ok (has_put line) else
    if bytes_eq name (codes "delete") then Ok (has_key_alone line) else
    if bytes_eq name (codes "read") then Ok (has_key_alone line) else
    if bytes_eq name (codes "cas") then Ok (has_cas line) else
    if bytes_eq name (codes "giveup") then Ok (has_giveup line) else
    if bytes_eq name (codes "see") then Ok (has_see line) else
    if bytes_eq name (codes "crash") then Ok (has_node_alone line) else
    if bytes_eq name (codes "restart") then Ok (has_node_alone line) else
    if bytes_eq name (codes "tick") then Ok (has_tick line) else
    if bytes_eq name (codes "deliver") then Ok (has_deliver line) else
    if bytes_eq name (codes "lose") then Ok (has_lose line) else
    if bytes_eq name (codes "flush") then Ok (has_flush line) else
    if bytes_eq name (codes "settle") then Ok (has_settle line) else
    if is_later name then Err NotBuilt else Err Word

abbrev pub stands : List ℕ → Data → Bool
stands name line = is_some (get name line)

-- no member of the other program
abbrev pub is_here : Data → Bool
is_here line =
    not (stands (codes "after") line || stands (codes "turns") line || stands (codes "seed") line
    || stands (codes "loss") line || stands (codes "twice") line || stands (codes "ticks") line)
