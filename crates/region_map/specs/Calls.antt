-- What two region maps together give a pair.
use Rattle.std.specs.Prelude.{Bool, Option, Some, None}

-- the first value, where there is a second
abbrev pub masked : {V : Type 0} → Option V → Option Bool → Option V
masked a None = None
masked a (Some b) = a

-- the second value where there are both, and else the first
abbrev pub overlaid : {V : Type 0} → Option V → Option V → Option V
overlaid None b = None
overlaid (Some a) None = Some a
overlaid (Some a) (Some b) = Some b

-- both values, where there are both
abbrev pub paired : {V W : Type 0} → Option V → Option W → Option (V × W)
paired None b = None
paired (Some a) None = None
paired (Some a) (Some b) = Some (a, b)
