-- What wrote the rows of a table, and the row that it leaves a key along the path of a version.
use Rattle.std.specs.Prelude.{◌≡◌, ◌⊎◌, ℕ, ◌<◌, Bool, true, false, not, ◌&&◌, List, [], ◌∷◌, filter, Option, Some, None}
use Rattle.std.specs.List.{AllByRecursion}
use Rattle.region_map.specs.declared.id.Id.{Id}
use Rattle.region_map.specs.Keys.{hash_of}
use Rattle.region_map.specs.Maps.{Pieced}
use Rattle.branch_history.specs.declared.version.Version.{Version}
use Rattle.branch_history.specs.declared.history.BranchBirth.{BranchBirth}
use Rattle.branch_history.specs.Paths.{Branches, is_on}
use Rattle.branch_history.specs.Histories.{birth_of, IsHistory, IsInTime}
use Rattle.store_api.specs.declared.Row.{Row}
use Rattle.store_api.specs.Rows.{Rows, row_of}
use Rattle.store_api.specs.Versions.{version_of}

-- all that was taken of the branches of a table, of any kind
pub record Writes (P : Type 0) : Type 0 where
  -- in the order in which it was taken
  pub taken : List P
  -- whether one is of a key
  pub is_of : List ℕ → P → Bool
  -- the point of a branch that it took
  pub place : P → Version
  -- what it makes of its key's row
  pub step : Option Row → P → Option Row

-- the row after some, in their order
abbrev pub row_after : {P : Type 0} → (Option Row → P → Option Row) → Option Row → List P → Option Row
row_after step before [] = before
row_after step before (p ∷ ps) = row_after step (step before p) ps

-- whether one is of a key, and lies on the path of a version of the key
abbrev pub is_on_path_to : {P : Type 0} → Writes P → Branches → ℕ → List ℕ → Version → P → Bool
is_on_path_to w bs hashes key version p = w.is_of key p && is_on bs (hash_of key hashes) key version (w.place p)

-- the row that is left by what lies on the path of a version
abbrev pub path_row : {P : Type 0} → Writes P → Branches → ℕ → List ℕ → Version → Option Row
path_row w bs hashes key version = row_after w.step None (filter (is_on_path_to w bs hashes key version) w.taken)

-- whether one is of a key, and lies on the path of a version and not on that of a point of it
abbrev pub is_beyond : {P : Type 0} → Writes P → Branches → ℕ → List ℕ → Version → Version → P → Bool
is_beyond w bs hashes key point version p = is_on_path_to w bs hashes key version p && not (is_on_path_to w bs hashes key point p)

-- each key has the row that is left along the path of its version
abbrev pub HasPathRows : {P : Type 0} → Writes P → Branches → Rows → Pieced Version → Type 0
HasPathRows w bs rows versions = (key : List ℕ) (version : Version) → version_of versions key ≡ Some version → row_of rows key ≡ path_row w bs versions.hashes key version

-- a row that has a recency
pub record HasRecency (recency : ℕ) (row : Option Row) : Type 0 where
  pub the_row : Row
  pub row_is : row ≡ Some the_row
  pub recency_is : the_row.recency ≡ recency

-- what is taken leaves a row as it was, or with its own timestamp as the recency
abbrev pub LeavesItsTime : {P : Type 0} → Writes P → Type 0
LeavesItsTime {P} w = (before : Option Row) (p : P) → (w.step before p ≡ before) ⊎ HasRecency (w.place p).timestamp (w.step before p)

-- a point of a branch that is known, behind the branch's initial timestamp
pub record IsTaken (bs : Branches) (version : Version) : Type 0 where
  pub branch : Id
  pub birth : BranchBirth
  pub branch_is : version.branch ≡ Some branch
  pub known : birth_of bs branch ≡ Some birth
  pub later : birth.initial < version.timestamp

-- what is of a key lies on no path of what was taken of the key before it
abbrev pub AreInOrder : {P : Type 0} → Writes P → Branches → ℕ → List ℕ → List P → Type 0
AreInOrder w bs hashes key [] = Unit {0}
AreInOrder w bs hashes key (p ∷ ps) =
    (w.is_of key p ≡ true → AllByRecursion (λ q. w.is_of key q ≡ true → is_on bs (hash_of key hashes) key (w.place p) (w.place q) ≡ false) ps)
    × AreInOrder w bs hashes key ps

-- what is true of branches and of what was taken of them, at a key
pub record IsWritten {P : Type 0} (w : Writes P) (bs : Branches) (hashes : ℕ) (key : List ℕ) : Type 0 where
  pub history : IsHistory bs
  -- each branch starts from a point of a path, and no later than at its initial timestamp
  pub in_time : IsInTime bs (hash_of key hashes) key
  pub leaves : LeavesItsTime w
  pub taken : AllByRecursion (λ p. w.is_of key p ≡ true → IsTaken bs (w.place p)) w.taken
  pub in_order : AreInOrder w bs hashes key w.taken
