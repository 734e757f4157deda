-- The path of a version at a pair of a hash and a byte list.
use Rattle.std.specs.Prelude.{ℕ, Bool, true, false, ◌&&◌, ◌==◌, List, [], ◌∷◌, nat_le, min, Option, Some, None, if◌then◌else◌}
use Rattle.region_map.specs.declared.id.Id.{Id}
use Rattle.region_map.specs.Regions.{in_region}
use Rattle.region_map.specs.Maps.{value_at}
use Rattle.region_map.specs.Equal.{same_id}
use Rattle.branch_history.specs.declared.version.Version.{Version}
use Rattle.branch_history.specs.declared.history.BranchBirth.{BranchBirth}

-- the version before all writes
abbrev pub zero : Version
zero = record { branch = None; timestamp = 0 }

abbrev pub branch_is : Option Id → Id → Bool
branch_is None id = false
branch_is (Some b) id = same_id b id

-- whether a version is one of a branch
abbrev pub is_branch : Version → Id → Bool
is_branch v id = branch_is v.branch id

abbrev pub no_branch : Option Id → Bool
no_branch None = true
no_branch (Some b) = false

abbrev pub is_zero : Version → Bool
is_zero v = no_branch v.branch && (v.timestamp == 0)

abbrev pub or_zero : Option Version → Version
or_zero None = zero
or_zero (Some v) = v

-- where a branch starts from at a pair
abbrev pub origin_at : BranchBirth → ℕ → List ℕ → Version
origin_at b h k = or_zero (value_at b.origin.pieces h k)

-- a history: its branches, the newest first, each with its birth
abbrev pub Branches : Type 0
Branches = List (Id × BranchBirth)

-- whether a point lies on the path of a version: the zero version on every path, the points of the version's
-- branch from the initial timestamp up to that of the version, and the path of the branch's origin; where the
-- branch is unknown, or does not have the pair, the zero version alone
abbrev pub is_on : Branches → ℕ → List ℕ → Version → Version → Bool
is_on [] h k end point = is_zero point
is_on (b ∷ bs) h k end point =
    if is_branch end b.0
    then (if in_region b.1.region h k
    then (if is_branch point b.0 && (nat_le b.1.initial point.timestamp && nat_le point.timestamp end.timestamp)
    then true
    else is_on bs h k (origin_at b.1 h k) point)
    else is_zero point)
    else is_on bs h k end point

-- the last point on the paths of both versions
abbrev pub ancestor : Branches → ℕ → List ℕ → Version → Version → Version
ancestor [] h k v w = zero
ancestor (b ∷ bs) h k v w =
    if is_branch v b.0
    then (if in_region b.1.region h k
    then (if is_branch w b.0
    then (if nat_le b.1.initial (min v.timestamp w.timestamp)
    then record { branch = Some b.0; timestamp = min v.timestamp w.timestamp }
    else ancestor bs h k (origin_at b.1 h k) (origin_at b.1 h k))
    else ancestor bs h k (origin_at b.1 h k) w)
    else zero)
    else (if is_branch w b.0
    then (if in_region b.1.region h k
    then ancestor bs h k v (origin_at b.1 h k)
    else zero)
    else ancestor bs h k v w)

-- the whole of a branch, as far as timestamps go
abbrev pub whole : Id → Version
whole id = record { branch = Some id; timestamp = 18446744073709551615 }

-- what a function of two values gives where there are both
abbrev pub both_at : {V W X : Type 0} → (V → W → X) → Option V → Option W → Option X
both_at f None w = None
both_at f (Some v) None = None
both_at f (Some v) (Some w) = Some (f v w)
