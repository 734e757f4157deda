-- The grammar of a line: what each word means, once the line has its members, or the first reason against it.
--
--     do              required members        optional members
--     setup           nodes                   hash (8), shards
--     put             op, node, key, value
--     delete, read    op, node, key
--     cas             op, node, key, expect, value
--     giveup          node, for
--     see             node, other, up
--     crash, restart  node
--     tick            node
--     deliver         message                 node
--     lose            message, or from and to
--     flush                                   only
--     settle          rounds                  only
--
-- No other member may stand. Numbers are whole, without sign and below 2^64. Keys and values are texts and mean their
-- UTF-8 bytes. In a cas `null` stands for no value: `expect` where the key is to have none, `value` to remove the key. A
-- member of an object is found in an object alone, so a line that is none has no word. `only` is a list of nodes, each of
-- which counts once; rounds are 1 to 100.
--
-- The shards of a setup are a list of objects:
--
--                     replicas, primary       voters (the replicas), hash (all), from (""), to (null)
--
-- Without `shards` there is one shard of all keys, which every node keeps and votes for, with node 0 as its primary.
--
-- What is asked of a line comes in the order of the reasons: first its members (specs/Shapes.antt), then ranges, the nodes of
-- the table, the lengths of keys, those of values, and at last the rules of a configuration.
use Rattle.std.specs.Prelude.{ℕ, Bool, ◌==◌, ◌&&◌, nat_lt, nat_le, bytes_eq, codes, List, [], ◌∷◌, ◌++◌, length, Option, Some, None, is_some, option_and_then, ok_or, Result, Ok, Err, if◌then◌else◌}
use Rattle.serde_json.specs.Data.{Data, Items, no_items, item}
use Rattle.serde_json.specs.Find.{get, as_null, as_str, as_array}
use Rattle.region_map.specs.Keys.{is_key}
use Rattle.region_map.specs.declared.id.NodeId.{NodeId}
use Rattle.region_map.specs.declared.region.Region.{Region}
use Rattle.register_laws.specs.declared.operation.Op.TheVariants.{Put, Delete, Cas, Read}
use Rattle.contract_types.specs.declared.config.ShardConfig.{ShardConfig}
use Rattle.contract_types.specs.Configs.{ConfigState, shard_region, is_config, has_no_shards, has_bad_region, has_bad_replicas, has_bad_roles}
use Rattle.contract_types.specs.declared.tiling.Rule.TheVariants.{Apart}
use Rattle.contract_types.specs.Tilings.{allows_at, everywhere}
use Rattle.contract_types.specs.Setup.{SetupState, is_setup, whole}
use Rattle.script_text.specs.declared.status.Reason.{Reason}
use Rattle.script_text.specs.declared.status.Reason.TheVariants.{Word, Member, Range, Node, KeyLength, ValueLength, NoShards, Region as BadRegion, Replicas, Roles, Overlap, Gap}
use Rattle.script_text.specs.declared.script.ScriptWord.{ScriptWord}
use Rattle.script_text.specs.declared.script.ScriptWord.TheVariants.{Request, GiveUp, See, Crash, Restart, Tick, Deliver, Lose, LoseBetween, Flush, Settle}
use Rattle.script_text.specs.Members.{number_in, number_or, text_in, op_in, node_at, node_in, node_or_none, truth_in, node_of, nodes_of, nodes_or, band_or, only_of}

-- what comes next, unless there is a reason against the line
infixl 10 ◌>>=◌
abbrev pub ◌>>=◌ : {A B : Type 0} → Result A Reason → (A → Result B Reason) → Result B Reason
Ok a >>= f = f a
Err why >>= f = Err why

-- what comes next, where a test passes
abbrev pub needs : {A : Type 0} → Bool → Reason → Result A Reason → Result A Reason
needs test why later = if test then later else Err why

-- ---- keys and values

-- 1 to 64 bytes
abbrev pub key_of : List ℕ → Result (List ℕ) Reason
key_of text = needs (is_key text) KeyLength (Ok text)

abbrev pub key_in : Data → Result (List ℕ) Reason
key_in line = do
  text ← ok_or (text_in (codes "key") line) Member
  key_of text

-- at most 1,024 bytes
abbrev pub value_of : List ℕ → Result (List ℕ) Reason
value_of text = needs (nat_le (length text) 1024) ValueLength (Ok text)

abbrev pub value_in : Data → Result (List ℕ) Reason
value_in line = do
  text ← ok_or (text_in (codes "value") line) Member
  value_of text

-- none by `null`, or a value
abbrev pub value_or_null : Data → Result (Option (List ℕ)) Reason
value_or_null d = if is_some (as_null d) then Ok None else do
  text ← ok_or (as_str d) Member
  value ← value_of text
  Ok (Some value)

abbrev pub value_or_null_in : List ℕ → Data → Result (Option (List ℕ)) Reason
value_or_null_in name line = do
  d ← ok_or (get name line) Member
  value_or_null d

-- ---- shards

-- where the keys of a shard begin: "" stands for the least one
abbrev pub from_or : Option Data → Result (Option (List ℕ)) Reason
from_or None = Ok None
from_or (Some d) = do
  text ← ok_or (as_str d) Member
  if length text == 0 then Ok None else do
    key ← key_of text
    Ok (Some key)

-- where they end: `null` stands for no end
abbrev pub to_or : Option Data → Result (Option (List ℕ)) Reason
to_or None = Ok None
to_or (Some d) = if is_some (as_null d) then Ok None else do
  text ← ok_or (as_str d) Member
  key ← key_of text
  Ok (Some key)

abbrev pub region_of : ℕ → Data → Result Region Reason
region_of hashes shard = do
  band ← ok_or (band_or hashes (get (codes "hash") shard)) Member
  from ← from_or (get (codes "from") shard)
  to ← to_or (get (codes "to") shard)
  Ok (record { hash_from = band.0; hash_to = band.1; from = from; to = to })

abbrev pub shard_of : ℕ → Data → Result ShardConfig Reason
shard_of hashes shard = do
  region ← region_of hashes shard
  replicas ← ok_or (option_and_then nodes_of (get (codes "replicas") shard)) Member
  voters ← ok_or (nodes_or replicas (get (codes "voters") shard)) Member
  primary ← ok_or (option_and_then node_of (get (codes "primary") shard)) Member
  Ok (record { region = region; replicas = replicas; voters = voters; primary = primary })

-- these before what was read
abbrev pub after_these : {A : Type 0} → List A → Result (List A) Reason → Result (List A) Reason
after_these first (Ok others) = Ok (first ++ others)
after_these first (Err why) = Err why

abbrev pub shards_from : ℕ → Items → Result (List ShardConfig) Reason
shards_from hashes no_items = Ok []
shards_from hashes (item d ds) = do
  shard ← shard_of hashes d
  after_these (shard ∷ []) (shards_from hashes ds)

abbrev pub shards_of : ℕ → Data → Result (List ShardConfig) Reason
shards_of hashes d = do
  items ← ok_or (as_array d) Member
  shards_from hashes items

-- no two shards overlap
unfoldable pub are_apart : List ShardConfig → Bool
are_apart shards = everywhere shard_region shard_region shards shards (allows_at Apart shard_region shard_region shards shards)

-- the first rule of a configuration that is broken, where one is
abbrev pub broken_rule : ConfigState → Reason
broken_rule c =
    if has_no_shards c.shards then NoShards else
    if has_bad_region c.hashes c.shards then BadRegion else
    if has_bad_replicas c.nodes c.shards then Replicas else
    if has_bad_roles c.shards then Roles else
    if are_apart c.shards then Gap else Overlap

abbrev pub config_of : ℕ → ℕ → List ShardConfig → Result ConfigState Reason
config_of nodes hashes shards =
    let c : ConfigState = record { nodes = nodes; hashes = hashes; shards = shards } in
    needs (is_config c) (broken_rule c) (Ok c)

abbrev pub setup_with : ℕ → ℕ → Option Data → Result SetupState Reason
setup_with nodes hashes None = Ok (whole nodes hashes)
setup_with nodes hashes (Some d) = do
  shards ← shards_of hashes d
  config_of nodes hashes shards

-- ---- words

abbrev pub setup_of : Data → Result SetupState Reason
setup_of line = do
  nodes ← ok_or (number_in (codes "nodes") line) Member
  hashes ← ok_or (number_or 8 (get (codes "hash") line)) Member
  needs (is_setup nodes hashes) Range (setup_with nodes hashes (get (codes "shards") line))

abbrev pub put_of : SetupState → Data → Result ScriptWord Reason
put_of setup line = do
  op ← ok_or (op_in (codes "op") line) Member
  node ← ok_or (node_in setup line) Node
  key ← key_in line
  value ← value_in line
  Ok (Request op node key (Put value))

abbrev pub delete_of : SetupState → Data → Result ScriptWord Reason
delete_of setup line = do
  op ← ok_or (op_in (codes "op") line) Member
  node ← ok_or (node_in setup line) Node
  key ← key_in line
  Ok (Request op node key Delete)

abbrev pub read_of : SetupState → Data → Result ScriptWord Reason
read_of setup line = do
  op ← ok_or (op_in (codes "op") line) Member
  node ← ok_or (node_in setup line) Node
  key ← key_in line
  Ok (Request op node key Read)

abbrev pub cas_of : SetupState → Data → Result ScriptWord Reason
cas_of setup line = do
  op ← ok_or (op_in (codes "op") line) Member
  node ← ok_or (node_in setup line) Node
  key ← key_in line
  expect ← value_or_null_in (codes "expect") line
  put ← value_or_null_in (codes "value") line
  Ok (Request op node key (Cas expect put))

abbrev pub giveup_of : SetupState → Data → Result ScriptWord Reason
giveup_of setup line = do
  op ← ok_or (op_in (codes "for") line) Member
  node ← ok_or (node_in setup line) Node
  Ok (GiveUp node op)

abbrev pub see_of : SetupState → Data → Result ScriptWord Reason
see_of setup line = do
  up ← ok_or (truth_in (codes "up") line) Member
  node ← ok_or (node_in setup line) Node
  other ← ok_or (node_at (codes "other") setup line) Node
  Ok (See node other up)

-- a word of a node alone
abbrev pub node_word_of : (NodeId → ScriptWord) → SetupState → Data → Result ScriptWord Reason
node_word_of word setup line = do
  node ← ok_or (node_in setup line) Node
  Ok (word node)

abbrev pub deliver_of : SetupState → Data → Result ScriptWord Reason
deliver_of setup line = do
  message ← ok_or (number_in (codes "message") line) Member
  node ← ok_or (node_or_none (codes "node") setup line) Node
  Ok (Deliver message node)

abbrev pub lose_one_of : Data → Result ScriptWord Reason
lose_one_of line = do
  message ← ok_or (number_in (codes "message") line) Member
  Ok (Lose message)

abbrev pub lose_between_of : SetupState → Data → Result ScriptWord Reason
lose_between_of setup line = do
  from ← ok_or (node_at (codes "from") setup line) Node
  to ← ok_or (node_at (codes "to") setup line) Node
  Ok (LoseBetween from to)

abbrev pub lose_of : SetupState → Data → Result ScriptWord Reason
lose_of setup line = if is_some (get (codes "message") line) then lose_one_of line else lose_between_of setup line

abbrev pub flush_of : SetupState → Data → Result ScriptWord Reason
flush_of setup line = do
  only ← ok_or (only_of setup (get (codes "only") line)) Node
  Ok (Flush only)

abbrev pub settle_of : SetupState → Data → Result ScriptWord Reason
settle_of setup line = do
  rounds ← ok_or (number_in (codes "rounds") line) Member
  needs (nat_lt 0 rounds && nat_le rounds 100) Range (do
    only ← ok_or (only_of setup (get (codes "only") line)) Node
    Ok (Settle rounds only))

-- the word of a line whose `do` is this name; a setup is none
abbrev pub word_named : SetupState → List ℕ → Data → Result ScriptWord Reason
word_named setup name line =
    if bytes_eq name (codes "put") then put_of setup line else
    if bytes_eq name (codes "delete") then delete_of setup line else
    if bytes_eq name (codes "read") then read_of setup line else
    if bytes_eq name (codes "cas") then cas_of setup line else
    if bytes_eq name (codes "giveup") then giveup_of setup line else
    if bytes_eq name (codes "see") then see_of setup line else
    if bytes_eq name (codes "crash") then node_word_of Crash setup line else
    if bytes_eq name (codes "restart") then node_word_of Restart setup line else
    if bytes_eq name (codes "tick") then node_word_of Tick setup line else
    if bytes_eq name (codes "deliver") then deliver_of setup line else
    if bytes_eq name (codes "lose") then lose_of setup line else
    if bytes_eq name (codes "flush") then flush_of setup line else
    if bytes_eq name (codes "settle") then settle_of setup line else Err Word
