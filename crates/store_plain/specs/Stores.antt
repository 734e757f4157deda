-- What clients see of a plain store.
use Rattle.region_map.specs.Maps.{Pieced}
use Rattle.branch_history.specs.declared.version.Version.{Version}
use Rattle.store_api.specs.Rows.{Rows}

-- the rows, and the versions
pub record Stored : Type 0 where
  pub rows : Rows
  pub versions : Pieced Version
