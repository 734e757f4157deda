-- What a part of a stream does to a store.
use Rattle.std.specs.Prelude.{ℕ, Option, Some, None}
use Rattle.store_api.specs.declared.Item.{Item}
use Rattle.exec_types.specs.declared.message.Part.{Part}
use Rattle.exec_types.specs.declared.message.Part.TheVariants.{Write, Sync}

-- the timestamp that a part brings its region to
abbrev pub timestamp_of : Part → ℕ
timestamp_of (Write at key row) = at
timestamp_of (Sync at) = at

-- the row that it gives its key, if it has one
abbrev pub effect_of : Part → Option Item
effect_of (Write at key row) = Some (record { key = key; row = Some row })
effect_of (Sync at) = None
