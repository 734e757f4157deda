-- The row that the operations on the path of a version leave a key, and which versions a key may have.
use Rattle.std.specs.Prelude.{◌≡◌, ◌≤◌, ◌<◌, ◌+◌, ℕ, Bool, true, ◌&&◌, List, [], ◌∷◌, filter, Option, Some, None, if◌then◌else◌}
use Rattle.region_map.specs.declared.id.Id.{Id}
use Rattle.region_map.specs.Keys.{hash_of}
use Rattle.branch_history.specs.declared.version.Version.{Version}
use Rattle.branch_history.specs.declared.history.BranchBirth.{BranchBirth}
use Rattle.branch_history.specs.Histories.{birth_of}
use Rattle.branch_history.specs.Paths.{is_on}
use Rattle.contract_types.specs.Setup.{SetupState}
use Rattle.contract_types.specs.Tables.{Table}
use Rattle.register_laws.specs.Register.{state_after, writes}
use Rattle.store_api.specs.declared.Row.{Row}
use Rattle.store_api.specs.Rows.{has_key, value_in}
use Rattle.store_api.specs.Versions.{point}
use Rattle.node_core.specs.declared.journal.Entry.{Entry}
use Rattle.runs.specs.Latest.{told_table}
use Rattle.runs.specs.Story.{Point, IsIn, points, same_key}

-- the row of a key after an operation on it: one that writes leaves what the register then holds, with its own
-- timestamp as the recency, and any other changes nothing
abbrev pub row_step : Option Row → Point → Option Row
row_step before p =
    if writes (value_in before) p.what then Some (record { value = state_after (value_in before) p.what; recency = p.timestamp })
    else before

-- the row after operations on its key, in their order
abbrev pub row_after : Option Row → List Point → Option Row
row_after before [] = before
row_after before (p ∷ ps) = row_after (row_step before p) ps

-- whether a point is of a key, and lies on the path of a version of the key in a table
abbrev pub is_on_path_to : SetupState → Table → List ℕ → Version → Point → Bool
is_on_path_to setup t key version p =
    same_key p.key key && is_on t.history (hash_of key setup.hashes) key version (point p.branch p.timestamp)

-- the points of a key on the path of a version, as they were dispatched, in the table that the journal tells
abbrev pub path_to : SetupState → List Entry → List ℕ → Version → List Point
path_to setup past key version = filter (is_on_path_to setup (told_table setup past) key version) (points past)

-- the row that they leave the key
abbrev pub path_row : SetupState → List Entry → List ℕ → Version → Option Row
path_row setup past key version = row_after None (path_to setup past key version)

-- how a node came to a timestamp of a branch: the table began with it, where the branch is of a first life; a primary that
-- started the branch in a later life made its first sync; or an operation took it
pub data CameAbout (ps : List Point) (branch : Id) (birth : BranchBirth) (at : ℕ) : Type 0 where
  Begun : branch.life ≡ 1 → at ≡ 0 → CameAbout ps branch birth at
  Synced : 1 < branch.life → at ≡ birth.initial + 1 → CameAbout ps branch birth at
  Taken : (p : Point) → IsIn ps p → p.branch ≡ branch → p.timestamp ≡ at → CameAbout ps branch birth at

-- a version is of a branch of the table whose region has the key, and not before the branch began
pub record IsOfBranch (ps : List Point) (t : Table) (hashes : ℕ) (key : List ℕ) (version : Version) : Type 0 where
  pub branch : Id
  pub birth : BranchBirth
  pub branch_is : version.branch ≡ Some branch
  pub registered : birth_of t.history branch ≡ Some birth
  pub inside : has_key birth.region hashes key ≡ true
  pub later : birth.initial ≤ version.timestamp
  pub came : CameAbout ps branch birth version.timestamp
