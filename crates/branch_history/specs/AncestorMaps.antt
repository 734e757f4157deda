-- The maps of common ancestors and of projections, as functions of the history and of the maps that they are asked of.
use Rattle.std.specs.Prelude.{ℕ, List, [], ◌∷◌, ◌++◌}
use Rattle.region_map.specs.declared.id.Id.{Id}
use Rattle.region_map.specs.Maps.{Pieced, value_at}
use Rattle.region_map.specs.Made.{ends_of, cuts_of, made}
use Rattle.branch_history.specs.declared.version.Version.{Version}
use Rattle.branch_history.specs.Paths.{Branches, ancestor, whole, both_at}
use Rattle.branch_history.specs.Equal.{same_version}

-- where the regions of branches begin and end, and where their origins change
abbrev pub birth_cuts : Branches → List (List ℕ)
birth_cuts [] = []
birth_cuts (b ∷ bs) = (ends_of b.1.region ++ cuts_of b.1.origin.pieces) ++ birth_cuts bs

-- the last point on both paths, at each pair that both maps have
abbrev pub ancestor_map : Branches → Pieced Version → Pieced Version → Pieced Version
ancestor_map bs a b = made same_version a.hashes (birth_cuts bs ++ cuts_of a.pieces ++ cuts_of b.pieces)
    (λ h k. both_at (ancestor bs h k) (value_at a.pieces h k) (value_at b.pieces h k))

-- each version's last point on the path of the whole of a branch, at each pair that both maps have
abbrev pub projected_map : Branches → Pieced Version → Pieced Id → Pieced Version
projected_map bs versions branches = made same_version versions.hashes (birth_cuts bs ++ cuts_of versions.pieces ++ cuts_of branches.pieces)
    (λ h k. both_at (λ v id. ancestor bs h k v (whole id)) (value_at versions.pieces h k) (value_at branches.pieces h k))
