-- Rows by key: a finite map, as the list of its keys and rows in the order of the keys.
use Rattle.std.specs.Prelude.{ℕ, Bool, false, ◌&&◌, not, List, [], ◌∷◌, filter, nat_eq, nat_lt, Option, Some, None, if◌then◌else◌}
use Rattle.std.specs.List.Sorted.{IsStrictlySortedBy}
use Rattle.std.specs.Ordering.{nat_cmp}
use Rattle.std.specs.Cmp.Lexicographic.{slice_cmp, pointwise}
use Rattle.std.specs.Map.{lookup, keys_of, remove_entry}
use Rattle.std.specs.BTreeMap.{insert_entry, is_at}
use Rattle.region_map.specs.declared.region.Region.{Region}
use Rattle.region_map.specs.Keys.{hash_of}
use Rattle.region_map.specs.Regions.{in_region}
use Rattle.region_map.specs.Maps.{Pieced, value_at}
use Rattle.store_api.specs.declared.Row.{Row}
use Rattle.store_api.specs.declared.Item.{Item}

-- the keys with their rows, in the order of the keys
abbrev pub Rows : Type 0
Rows = List (List ℕ × Row)

-- the keys rise, so that each has one row at most
abbrev pub AreOrdered : Rows → Type 0
AreOrdered rows = IsStrictlySortedBy (slice_cmp nat_cmp) (keys_of rows)

-- the row of a key, where it has one
abbrev pub row_of : Rows → List ℕ → Option Row
row_of rows key = lookup (is_at (slice_cmp nat_cmp key)) rows

-- the rows, with this one at the key
abbrev pub with_row : Rows → List ℕ → Row → Rows
with_row rows key row = insert_entry (slice_cmp nat_cmp) rows key row

-- the rows, without one at the key
abbrev pub without_row : Rows → List ℕ → Rows
without_row rows key = remove_entry (is_at (slice_cmp nat_cmp key)) rows

abbrev pub value_in : Option Row → Option (List ℕ)
value_in None = None
value_in (Some row) = row.value

-- the value of a key, where it has one
abbrev pub value_of : Rows → List ℕ → Option (List ℕ)
value_of rows key = value_in (row_of rows key)

-- the key gets this row, or loses the one that it has
abbrev pub with_row_or_none : Option Row → Rows → List ℕ → Rows
with_row_or_none None rows key = without_row rows key
with_row_or_none (Some row) rows key = with_row rows key row

-- the key of an item gets the item's row, or loses the one that it has
abbrev pub with_item : Rows → Item → Rows
with_item rows item = with_row_or_none item.row rows item.key

-- item by item, so that of a repeated key the last item counts
abbrev pub with_items : Rows → List Item → Rows
with_items rows [] = rows
with_items rows (item ∷ items) = with_items (with_item rows item) items

-- whether two keys are the same
abbrev pub is_same_key : List ℕ → List ℕ → Bool
is_same_key a b = pointwise nat_eq a b

-- the row that the last item of a key gives it, or this one where no item is of the key
abbrev pub last_row : List Item → List ℕ → Option Row → Option Row
last_row [] key row = row
last_row (item ∷ items) key row = last_row items key (if is_same_key item.key key then item.row else row)

-- whether a part has a key, where there are so many hashes
abbrev pub has_key : Region → ℕ → List ℕ → Bool
has_key part hashes key = in_region part (hash_of key hashes) key

-- the rows whose key lies outside of a part
abbrev pub rows_outside : Region → ℕ → Rows → Rows
rows_outside part hashes rows = filter (λ e. not (has_key part hashes e.0)) rows

-- whether a recency lies above a bound, of which there is one
abbrev pub is_above : Option ℕ → ℕ → Bool
is_above None recency = false
is_above (Some bound) recency = nat_lt bound recency

-- whether a row's key lies in a part, and its recency above the bound that the key has
abbrev pub is_newer : Region → Pieced ℕ → List ℕ × Row → Bool
is_newer part above e = has_key part above.hashes e.0 && is_above (value_at above.pieces (hash_of e.0 above.hashes) e.0) e.1.recency

-- the keys of a part with a recency above their bound, in the order of the keys
abbrev pub newer_keys : Region → Pieced ℕ → Rows → List (List ℕ)
newer_keys part above rows = keys_of (filter (is_newer part above) rows)

-- whether the row of a key, where it has one, has a recency above a bound, of which there is one
abbrev pub row_is_above : Option ℕ → Option Row → Bool
row_is_above bound None = false
row_is_above bound (Some row) = is_above bound row.recency

-- whether a part has a key whose row has a recency above the bound that the key has
abbrev pub key_is_newer : Region → Pieced ℕ → Rows → List ℕ → Bool
key_is_newer part above rows key = has_key part above.hashes key && row_is_above (value_at above.pieces (hash_of key above.hashes) key) (row_of rows key)
