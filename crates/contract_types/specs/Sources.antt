-- The ids that a node makes.
use Rattle.std.specs.Prelude.{◌+◌, Bool, nat_lt, Option, Some, None, if◌then◌else◌}
use Rattle.region_map.specs.declared.id.Id.{Id}
use Rattle.contract_types.specs.declared.id_source.IdSource.{IdSource}

-- whether the counter may be raised
abbrev pub may_make : IdSource → Bool
may_make s = nat_lt (s.next + 1) 4611686018427387904

abbrev pub made : IdSource → Option Id
made s = if may_make s then Some (record { node = s.node; life = s.life; counter = s.next }) else None

abbrev pub behind : IdSource → IdSource
behind s = if may_make s then record s { next = s.next + 1 } else s
