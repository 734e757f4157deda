-- The timestamp at which a branch begins.
use Rattle.std.specs.Prelude.{◌≡◌, ℕ, ◌≤◌, ◌⊎◌, List}
use Rattle.list_laws.specs.Members.{IsIn}
use Rattle.runs.specs.region_map.declared.region.Region.{Region}
use Rattle.runs.specs.branch_history.declared.version.Version.{Version}

-- a number is the greatest timestamp of these pieces, or 0
pub record IsGreatest (initial : ℕ) (pieces : List (Region × Version)) : Type 0 where
  pub above : (p : Region × Version) → IsIn pieces p → p.1.timestamp ≤ initial
  pub reached : (initial ≡ 0) ⊎ ((p : Region × Version) × (IsIn pieces p) × (p.1.timestamp ≡ initial))
