-- The branches of a history that have a pair of a hash and a byte list.
use Rattle.std.specs.Prelude.{◌≡◌, ℕ, ◌<◌, true, List, [], ◌∷◌, if◌then◌else◌}
use Rattle.region_map.specs.declared.id.Id.{Id}
use Rattle.region_map.specs.Regions.{in_region}
use Rattle.branch_history.specs.declared.version.Version.{Version as Stored}
use Rattle.branch_history.specs.declared.history.BranchBirth.{BranchBirth}
use Rattle.branch_history.specs.Paths.{Branches, origin_at, is_on}
use Rattle.path_facts.specs.Paths.{Version, Birth, IsIn}

abbrev pub key_version : Stored → Version Id
key_version v = record { branch = v.branch; timestamp = v.timestamp }

-- a branch at the pair, by the index at which the log registered it
abbrev pub birth_at : (Id → ℕ) → Id × BranchBirth → ℕ → List ℕ → Birth Id
birth_at index b h k = record {
  branch = b.0;
  registered = index b.0;
  tenure = b.1.tenure;
  maker = b.0.node.0;
  life = b.0.life;
  initial = b.1.initial;
  origin = key_version (origin_at b.1 h k);
}

abbrev pub births_at : (Id → ℕ) → Branches → ℕ → List ℕ → List (Birth Id)
births_at index [] h k = []
births_at index (b ∷ bs) h k = if in_region b.1.region h k then birth_at index b h k ∷ births_at index bs h k else births_at index bs h k

-- each branch of the pair was registered behind those of the pair before it
abbrev pub IsRising : (Id → ℕ) → Branches → ℕ → List ℕ → Type 0
IsRising index [] h k = Unit {0}
IsRising index (b ∷ bs) h k =
    (in_region b.1.region h k ≡ true → (z : Birth Id) → IsIn (births_at index bs h k) z → z.registered < index b.0) × IsRising index bs h k

-- each branch of the pair goes on from a point of a path, in the history before it
abbrev pub GoOn : Branches → ℕ → List ℕ → Type 0
GoOn [] h k = Unit {0}
GoOn (b ∷ bs) h k = (in_region b.1.region h k ≡ true → is_on bs h k (origin_at b.1 h k) (origin_at b.1 h k) ≡ true) × GoOn bs h k
