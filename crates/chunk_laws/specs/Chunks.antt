-- A receiver that names its newer keys, a sender that answers with a chunk, and the receiver once it has the chunk.
use Rattle.std.specs.Prelude.{◌≡◌, ℕ, Bool, true, ◌||◌, List, take, map, Option, Some, if◌then◌else◌}
use Rattle.region_map.specs.declared.id.Id.{Id}
use Rattle.region_map.specs.declared.region.Region.{Region}
use Rattle.region_map.specs.Keys.{hash_of}
use Rattle.region_map.specs.Maps.{Pieced, value_at}
use Rattle.branch_history.specs.declared.version.Version.{Version}
use Rattle.branch_history.specs.Paths.{Branches, is_on}
use Rattle.store_api.specs.declared.Row.{Row}
use Rattle.store_api.specs.declared.Item.{Item}
use Rattle.store_api.specs.Rows.{Rows, row_of, row_is_above, newer_keys}
use Rattle.store_api.specs.Versions.{point}
use Rattle.backfill_items.specs.Changed.{chunk_keys, item_of, end_of}
use Rattle.chunk_laws.specs.Written.{Writes, IsWritten, path_row}

pub record Exchange : Type 0 where
  -- what the receiver lacks: from its edge to the end of its region
  pub part : Region
  -- the timestamp of the ancestor of both at each key
  pub above : Pieced ℕ
  -- the receiver's rows as it names its newer keys
  pub receiver : Rows
  -- the sender's rows as it makes the chunk
  pub sender : Rows
  -- how many keys the receiver names at most
  pub most_named : ℕ
  -- how many items the chunk has at most
  pub most : ℕ

-- a part with another end
abbrev pub up_to : Region → Option (List ℕ) → Region
up_to part end = record part { to = end }

-- the keys that the receiver names
abbrev pub named : Exchange → List (List ℕ)
named e = take e.most_named (newer_keys e.part e.above e.receiver)

-- the part of which it names all
abbrev pub asked : Exchange → Region
asked e = up_to e.part (end_of e.most_named (newer_keys e.part e.above e.receiver) e.part.to)

-- the items of the chunk
abbrev pub items : Exchange → List Item
items e = map (item_of e.sender) (take e.most (chunk_keys (asked e) e.above e.sender (named e)))

-- the part that the chunk is for
abbrev pub range : Exchange → Region
range e = up_to (asked e) (end_of e.most (chunk_keys (asked e) e.above e.sender (named e)) (asked e).to)

-- whether the row of a key has a recency above the ancestor's timestamp
abbrev pub is_newer_in : Exchange → Rows → List ℕ → Bool
is_newer_in e rows key = row_is_above (value_at e.above.pieces (hash_of key e.above.hashes) key) (row_of rows key)

-- the row that a key of the chunk's range has then: the sender's where it changed at either end, else the receiver's
abbrev pub brought_row : Exchange → List ℕ → Option Row
brought_row e key = if is_newer_in e e.receiver key || is_newer_in e e.sender key then row_of e.sender key else row_of e.receiver key

-- both ends have the rows of their versions at a key, and the bound there is the timestamp of a point on both paths
pub record MeetsAt {P : Type 0} (w : Writes P) (bs : Branches) (e : Exchange) (branch : Id) (at : ℕ) (key : List ℕ) : Type 0 where
  pub written : IsWritten w bs e.above.hashes key
  -- the receiver's version as it named its keys
  pub version : Version
  pub receiver_row : row_of e.receiver key ≡ path_row w bs e.above.hashes key version
  pub sender_row : row_of e.sender key ≡ path_row w bs e.above.hashes key (point branch at)
  -- a point that both have, as their common ancestor when the session began
  pub ancestor : Version
  pub bound : value_at e.above.pieces (hash_of key e.above.hashes) key ≡ Some ancestor.timestamp
  pub receiver_has : is_on bs (hash_of key e.above.hashes) key version ancestor ≡ true
  pub sender_has : is_on bs (hash_of key e.above.hashes) key (point branch at) ancestor ≡ true
