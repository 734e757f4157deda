-- The keys that changed at the one end or at the other, and where a list of them that is cut ends.
use Rattle.std.specs.Prelude.{ℕ, List, [], ◌∷◌, drop, Option, Some}
use Rattle.std.specs.Ordering.{nat_cmp}
use Rattle.std.specs.Cmp.Lexicographic.{slice_cmp}
use Rattle.std.specs.BTreeSet.{insert_key}
use Rattle.region_map.specs.declared.region.Region.{Region}
use Rattle.region_map.specs.Maps.{Pieced}
use Rattle.store_api.specs.declared.Item.{Item}
use Rattle.store_api.specs.Rows.{Rows, row_of, newer_keys}

-- keys in their order with these among them, each once
abbrev pub with_keys : List (List ℕ) → List (List ℕ) → List (List ℕ)
with_keys keys [] = keys
with_keys keys (k ∷ ks) = with_keys (insert_key (slice_cmp nat_cmp) keys k) ks

-- the keys that the receiver named, and those of the part with a recency above their ancestor's timestamp here
abbrev pub chunk_keys : Region → Pieced ℕ → Rows → List (List ℕ) → List (List ℕ)
chunk_keys part above rows pre = with_keys (newer_keys part above rows) pre

-- a key with its row, or none
abbrev pub item_of : Rows → List ℕ → Item
item_of rows key = record { key = key; row = row_of rows key }

abbrev pub first_or : Option (List ℕ) → List (List ℕ) → Option (List ℕ)
first_or to [] = to
first_or to (k ∷ ks) = Some k

-- where keys that are cut after so many end: at the first one left out, or at this upper end where there is none
abbrev pub end_of : ℕ → List (List ℕ) → Option (List ℕ) → Option (List ℕ)
end_of limit keys to = first_or to (drop limit keys)
