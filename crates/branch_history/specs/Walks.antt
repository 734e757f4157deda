-- How two versions are walked back to their last common point, one branch after the other.
use Rattle.std.specs.Prelude.{ℕ, Bool, false, ◌&&◌, ◌||◌, List, [], ◌∷◌, nat_le, min, Option, Some, None, if◌then◌else◌}
use Rattle.region_map.specs.declared.id.Id.{Id}
use Rattle.region_map.specs.Regions.{in_region}
use Rattle.region_map.specs.Maps.{value_at}
use Rattle.branch_history.specs.declared.version.Version.{Version}
use Rattle.branch_history.specs.declared.walk.Walk.{Walk}
use Rattle.branch_history.specs.declared.walk.Walk.TheVariants.{Going, At}
use Rattle.branch_history.specs.declared.history.BranchBirth.{BranchBirth}
use Rattle.branch_history.specs.Paths.{Branches, is_branch, zero, or_zero, whole}

-- where a branch has the pair: its origin there, if it has any
abbrev pub origin_in : BranchBirth → ℕ → List ℕ → Option (Option Version)
origin_in b h k = if in_region b.region h k then Some (value_at b.origin.pieces h k) else None

-- two versions that are both, or one of them, on a branch with this birth
abbrev pub met : Id → ℕ → Version → Version → Bool → Bool → Option (Option Version) → Walk
met id initial v w a b None = At zero
met id initial v w a b (Some origin) =
    if (a && b) && nat_le initial (min v.timestamp w.timestamp)
    then At (record { branch = Some id; timestamp = min v.timestamp w.timestamp })
    else Going (if a then or_zero origin else v) (if b then or_zero origin else w)

-- whether one of the two versions is of a branch
abbrev pub stands_on : Walk → Id → Bool
stands_on (At x) id = false
stands_on (Going v w) id = is_branch v id || is_branch w id

abbrev pub stepped : Id → ℕ → Walk → Option (Option Version) → Walk
stepped id initial (At x) origin = At x
stepped id initial (Going v w) origin =
    if is_branch v id || is_branch w id
    then met id initial v w (is_branch v id) (is_branch w id) origin
    else Going v w

abbrev pub finished : Walk → Version
finished (At x) = x
finished (Going v w) = zero

abbrev pub walked : Branches → ℕ → List ℕ → Walk → Version
walked [] h k walk = finished walk
walked (b ∷ bs) h k walk = walked bs h k (stepped b.0 b.1.initial walk (origin_in b.1 h k))

-- what the maps that are put together give
abbrev pub started : Option Version → Option Version → Option Walk
started None b = None
started (Some v) None = None
started (Some v) (Some w) = Some (Going v w)

abbrev pub aimed : Option Version → Option Id → Option Walk
aimed None b = None
aimed (Some v) None = None
aimed (Some v) (Some id) = Some (Going v (whole id))

abbrev pub within : Option Bool → Option Version → Option (Option Version)
within None o = None
within (Some b) o = Some o

abbrev pub on : Id → ℕ → Option Walk → Option (Option Version) → Option Walk
on id initial None o = None
on id initial (Some walk) o = Some (stepped id initial walk o)

abbrev pub ended : Option Walk → Option Walk → Option Version
ended None b = None
ended (Some walk) b = Some (finished walk)

abbrev pub walked_at : Branches → ℕ → List ℕ → Option Walk → Option Version
walked_at bs h k None = None
walked_at bs h k (Some walk) = Some (walked bs h k walk)
