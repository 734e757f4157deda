-- What a queue gives back once a chunk is there.
use Rattle.std.specs.Prelude.{ℕ, Bool, ◌&&◌, List, filter, nat_lt}
use Rattle.region_map.specs.declared.region.Region.{Region}
use Rattle.store_api.specs.declared.Item.{Item}
use Rattle.store_api.specs.Rows.{has_key}

-- whether an item is of a part, and behind a timestamp
abbrev pub is_released : Region → ℕ → ℕ → ℕ × Item → Bool
is_released part hashes after p = nat_lt after p.0 && has_key part hashes p.1.key

-- the items of a part behind a timestamp, in their order
abbrev pub released : Region → ℕ → ℕ → List (ℕ × Item) → List (ℕ × Item)
released part hashes after queue = filter (is_released part hashes after) queue
