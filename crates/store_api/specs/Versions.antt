-- The versions that a store has: a region map over all keys.
use Rattle.std.specs.Prelude.{◌≡◌, ℕ, Bool, false, ◌&&◌, List, ◌++◌, nat_lt, Option, Some, None, if◌then◌else◌}
use Rattle.std.specs.Option.{is_some}
use Rattle.region_map.specs.declared.id.Id.{Id}
use Rattle.region_map.specs.declared.region.Region.{Region}
use Rattle.region_map.specs.Keys.{hash_of}
use Rattle.region_map.specs.Regions.{in_region}
use Rattle.region_map.specs.Maps.{Pieced, IsCanonical, value_at}
use Rattle.region_map.specs.Made.{ends_of, cuts_of, made, constant_map, set_map}
use Rattle.branch_history.specs.declared.version.Version.{Version}
use Rattle.branch_history.specs.Paths.{is_branch, zero}
use Rattle.branch_history.specs.Equal.{same_version}
use Rattle.store_api.specs.declared.Item.{Item}
use Rattle.store_api.specs.Rows.{Rows, AreOrdered, with_item}

-- a region map over all keys: it has a value at each pair whose hash is one of its hashes, and at no other
abbrev pub IsWhole : Pieced Version → Type 0
IsWhole versions = (h : ℕ) (k : List ℕ) → is_some (value_at versions.pieces h k) ≡ nat_lt h versions.hashes

-- what is true of the rows and the versions of each store: each key has one row at most, and each pair of a
-- hash and a byte list one version
pub record IsStored (rows : Rows) (versions : Pieced Version) : Type 0 where
  pub ordered : AreOrdered rows
  pub canonical : IsCanonical versions
  pub whole : IsWhole versions

-- a point of a branch
abbrev pub point : Id → ℕ → Version
point branch timestamp = record { branch = Some branch; timestamp = timestamp }

-- whether a version is one of the branch, with a lesser timestamp
abbrev pub is_behind : Id → ℕ → Option Version → Bool
is_behind branch at None = false
is_behind branch at (Some v) = is_branch v branch && nat_lt v.timestamp at

-- the version of a pair, after those of a part that are behind a point of the branch came to it
abbrev pub advanced : Region → Id → ℕ → ℕ → List ℕ → Option Version → Option Version
advanced part branch at h k version = if in_region part h k && is_behind branch at version then Some (point branch at) else version

-- the version of a pair, after the pairs of a part got this one
abbrev pub replaced : Region → Version → ℕ → List ℕ → Option Version → Option Version
replaced part new h k version = if in_region part h k && is_some version then Some new else version

-- the versions of all keys, after those of a part that are behind a point of the branch came to it
abbrev pub advanced_map : Region → Id → ℕ → Pieced Version → Pieced Version
advanced_map part branch at m = made same_version m.hashes (ends_of part ++ cuts_of m.pieces) (λ h k. advanced part branch at h k (value_at m.pieces h k))

-- the versions of all keys, after those of a part became this one
abbrev pub replaced_map : Region → Version → Pieced Version → Pieced Version
replaced_map part new m = set_map same_version part new m

-- the zero version at each key
abbrev pub zero_map : ℕ → Pieced Version
zero_map hashes = constant_map same_version (record { hash_from = 0; hash_to = hashes; from = None; to = None }) hashes zero

-- the version of a key, at the pair of its own hash and itself
abbrev pub version_of : Pieced Version → List ℕ → Option Version
version_of versions key = value_at versions.pieces (hash_of key versions.hashes) key

-- whether the version of a key comes to a point of the branch, as those of a part do
abbrev pub comes_to : Region → Id → ℕ → Pieced Version → List ℕ → Bool
comes_to part branch at versions key = in_region part (hash_of key versions.hashes) key && is_behind branch at (version_of versions key)

-- the rows, after the versions of a part came to a point of the branch: the effect's key gets its row, or
-- loses it, exactly where its own version came there
abbrev pub advanced_rows : Option Item → Region → Id → ℕ → Pieced Version → Rows → Rows
advanced_rows None part branch at versions rows = rows
advanced_rows (Some effect) part branch at versions rows = if comes_to part branch at versions effect.key then with_item rows effect else rows
