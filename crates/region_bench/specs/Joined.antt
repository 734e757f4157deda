-- What two maps together give a pair.
use Rattle.std.specs.Prelude.{Option, Some, None}

-- the first value, and where there is none the second
abbrev pub either : {V : Type 0} → Option V → Option V → Option V
either None b = b
either (Some a) b = Some a
