-- What a call makes of rows and versions, where a law speaks of several calls.
use Rattle.std.specs.Prelude.{◌≡◌, ℕ, ◌<◌, List, Option}
use Rattle.region_map.specs.declared.id.Id.{Id}
use Rattle.region_map.specs.declared.region.Region.{Region}
use Rattle.region_map.specs.Maps.{Pieced, IsCanonical, value_at}
use Rattle.branch_history.specs.declared.version.Version.{Version}
use Rattle.store_api.specs.declared.Item.{Item}
use Rattle.store_api.specs.Rows.{Rows}
use Rattle.store_api.specs.Versions.{advanced, advanced_rows}

-- the versions of a part came to a point of a branch, with an effect or without
pub record IsAdvanced (part : Region) (branch : Id) (at : ℕ) (effect : Option Item) (rows : Rows) (versions : Pieced Version) (new_rows : Rows) (new_versions : Pieced Version) : Type 0 where
  pub rows_are : new_rows ≡ advanced_rows effect part branch at versions rows
  pub hashes_are : new_versions.hashes ≡ versions.hashes
  pub versions_are : (h : ℕ) (k : List ℕ) → value_at new_versions.pieces h k ≡ advanced part branch at h k (value_at versions.pieces h k)

-- the region map with so many hashes that has these values at their pairs
pub record HasValues (hashes : ℕ) (value : ℕ → List ℕ → Option Version) (versions : Pieced Version) : Type 0 where
  pub canonical : IsCanonical versions
  pub hashes_are : versions.hashes ≡ hashes
  pub values_are : (h : ℕ) (k : List ℕ) → h < hashes → value_at versions.pieces h k ≡ value h k
