-- A node at one key: its life and view, the parts that it has there, and the version and the row of the key.
use Rattle.std.specs.Prelude.{ℕ, ◌+◌, Bool, ◌&&◌, List, filter, Option, Some, if◌then◌else◌}
use Rattle.region_map.specs.declared.id.Id.{Id}
use Rattle.region_map.specs.declared.region.Region.{Region}
use Rattle.region_map.specs.Keys.{hash_of}
use Rattle.region_map.specs.Regions.{in_region}
use Rattle.branch_history.specs.declared.version.Version.{Version}
use Rattle.exec_types.specs.declared.message.Part.{Part}
use Rattle.exec_types.specs.declared.message.Part.TheVariants.{Write, Sync}
use Rattle.store_api.specs.declared.Row.{Row}
use Rattle.store_api.specs.Rows.{has_key, is_same_key, row_of}
use Rattle.store_api.specs.Versions.{advanced, is_behind, point, replaced, version_of}
use Rattle.secondary_exec.specs.declared.following.Following.{Following}
use Rattle.secondary_exec.specs.declared.waiting.Waiting.{Waiting}
use Rattle.primary_exec.specs.declared.asking.Asking.{Asking}
use Rattle.primary_exec.specs.Execution.{Execution}
use Rattle.node_core.specs.Parts.{is_for}
use Rattle.node_moves.specs.Parts.{Held}

-- where contracts are disjoint, all four lists together have one member at most
pub record AtKey : Type 0 where
  pub life : ℕ
  pub acted : ℕ  -- the view
  pub asks : List Asking  -- what asks for a branch
  pub writes : List Execution  -- what writes one
  pub waits : List Waiting  -- what waits to join a primary
  pub follows : List Following  -- what follows one
  pub version : Option Version
  pub row : Option Row

-- ---- which parts have a key

abbrev pub asks_for : ℕ → List ℕ → Asking → Bool
asks_for hashes key a = has_key a.contract.region hashes key

abbrev pub waits_for : ℕ → List ℕ → Waiting → Bool
waits_for hashes key w = has_key w.region hashes key

abbrev pub follows_for : ℕ → List ℕ → Following → Bool
follows_for hashes key f = has_key f.region hashes key

-- of a table with so many hashes
abbrev pub at_key : ℕ → List ℕ → Held → AtKey
at_key hashes key h =
    record {
      life = h.life;
      acted = h.acted;
      asks = filter (asks_for hashes key) h.asking;
      writes = filter (is_for hashes key) h.executions;
      waits = filter (waits_for hashes key) h.waiting;
      follows = filter (follows_for hashes key) h.followings;
      version = version_of h.versions key;
      row = row_of h.rows key;
    }

-- ---- what becomes of the version and of the row

-- the version of a key, after a region came to a point of a branch
abbrev pub version_at : Region → Id → ℕ → ℕ → List ℕ → Option Version → Option Version
version_at region branch at hashes key version = advanced region branch at (hash_of key hashes) key version

-- the row of a key, after a region came to a part's point of a branch: the part's key gets the part's row where its version came there
abbrev pub row_at : Part → Region → Id → ℕ → List ℕ → Option Version → Option Row → Option Row
row_at (Write at own row) region branch hashes key version old =
    if is_same_key key own && (in_region region (hash_of key hashes) key && is_behind branch at version) then Some row else old
row_at (Sync at) region branch hashes key version old = old

-- the version of a key, after a region went over to a branch, and came to its first sync
abbrev pub version_started : Region → Id → ℕ → ℕ → List ℕ → Option Version → Option Version
version_started region branch initial hashes key version =
    advanced region branch (initial + 1) (hash_of key hashes) key (replaced region (point branch initial) (hash_of key hashes) key version)
