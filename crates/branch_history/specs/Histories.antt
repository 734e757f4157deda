-- What clients see of a history.
use Rattle.std.specs.Prelude.{◌≡◌, ℕ, ◌≤◌, Bool, true, false, List, [], ◌∷◌, Option, Some, None, if◌then◌else◌}
use Rattle.std.specs.List.{AllByRecursion, list_all}
use Rattle.region_map.specs.declared.id.Id.{Id}
use Rattle.region_map.specs.declared.region.Region.{Region}
use Rattle.region_map.specs.Regions.{in_region}
use Rattle.region_map.specs.Equal.{same_id}
use Rattle.branch_history.specs.declared.version.Version.{Version}
use Rattle.branch_history.specs.declared.history.BranchBirth.{BranchBirth}
use Rattle.branch_history.specs.Paths.{Branches, origin_at, is_on}

-- the birth of a branch
abbrev pub birth_of : Branches → Id → Option BranchBirth
birth_of [] id = None
birth_of (b ∷ bs) id = if same_id b.0 id then Some b.1 else birth_of bs id

abbrev pub knows : Branches → Id → Bool
knows [] id = false
knows (b ∷ bs) id = if same_id b.0 id then true else knows bs id

-- whether a branch that a version names is known
abbrev pub knows_branch : Branches → Option Id → Bool
knows_branch bs None = true
knows_branch bs (Some id) = knows bs id

abbrev pub knows_origins : Branches → List (Region × Version) → Bool
knows_origins bs pieces = list_all (λ p. knows_branch bs p.1.branch) pieces

-- every origin in the history is a map with so many hashes
abbrev pub HasHashes : Branches → ℕ → Type 0
HasHashes bs hashes = AllByRecursion (λ b. b.1.origin.hashes ≡ hashes) bs

-- how many hashes the origins have, or one where there are none
abbrev pub hashes_of : Branches → ℕ
hashes_of [] = 1
hashes_of (b ∷ bs) = b.1.origin.hashes

-- no branch is there twice, and each starts from branches that were there before it
abbrev pub IsHistory : Branches → Type 0
IsHistory [] = Unit {0}
IsHistory (b ∷ bs) = (knows bs b.0 ≡ false) × (knows_origins bs b.1.origin.pieces ≡ true) × HasHashes bs b.1.origin.hashes × IsHistory bs

-- the version that a branch starts from at a pair is a point of a path, and no later than the initial timestamp
pub record StartsInTime (bs : Branches) (h : ℕ) (k : List ℕ) (birth : BranchBirth) : Type 0 where
  pub on : is_on bs h k (origin_at birth h k) (origin_at birth h k) ≡ true
  pub before : (origin_at birth h k).timestamp ≤ birth.initial

-- each branch that has the pair starts so, in the history before it
abbrev pub IsInTime : Branches → ℕ → List ℕ → Type 0
IsInTime [] h k = Unit {0}
IsInTime (b ∷ bs) h k = (in_region b.1.region h k ≡ true → StartsInTime bs h k b.1) × IsInTime bs h k
