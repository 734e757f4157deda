-- How the versions of a part come to a point of a branch.
use Rattle.std.specs.Prelude.{ℕ, Bool, Option, Some, None, if◌then◌else◌}
use Rattle.region_map.specs.declared.id.Id.{Id}
use Rattle.branch_history.specs.declared.version.Version.{Version}
use Rattle.store_api.specs.Versions.{point, is_behind}

-- the version of a pair that lies in the part, or does not
abbrev pub advanced_in : Id → ℕ → Option Version → Option Bool → Option Version
advanced_in branch at version None = version
advanced_in branch at version (Some _inside) = if is_behind branch at version then Some (point branch at) else version
