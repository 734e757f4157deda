-- Laws of the points on the path of a key's current branch.
use Rattle.std.proofs.Common.{◌≡◌, ℕ, ◌<◌, ◌&&◌, List, [], ◌∷◌, Option, Some, None, refl, ap, ◌∙◌}
use Rattle.std.proofs.lemmas.Nat.{mod_below}
use Rattle.std.specs.Prelude.{sum}
use Rattle.region_map.specs.declared.id.Id.{Id}
use Rattle.region_map.specs.Keys.{hash_of}
use Rattle.region_map.specs.Maps.{Pieced, value_at}
use Rattle.branch_history.specs.declared.version.Version.{Version}
use Rattle.branch_history.specs.Paths.{Branches, is_on, whole}
use Rattle.branch_history.specs.Histories.{HasHashes, hashes_of}
use Rattle.step_runs.specs.runs.store_api.Versions.{point}
use Rattle.contract_types.specs.Setup.{SetupState}
use Rattle.contract_types.specs.Tables.{Table, branch_at}
use Rattle.step_runs.specs.runs.Story.{Point, same_key, branch_in, is_on_branch, is_on_path}

-- of what the table began with, the hashes alone count
on_branch-hashes : (a b : SetupState) (t : Table) (key : List ℕ) (o : Option Id) (v : Version) → a.hashes ≡ b.hashes → is_on_branch a t key o v ≡ is_on_branch b t key o v
on_branch-hashes a b t key None v e = refl
on_branch-hashes a b t key (Some branch) v e = ap (λ n. is_on t.history (hash_of key n) key (whole branch) v) e

pub on_path-hashes : (a b : SetupState) (t : Table) (key : List ℕ) (p : Point) → a.hashes ≡ b.hashes → is_on_path a t key p ≡ is_on_path b t key p
on_path-hashes a b t key p e =
    ap (λ on. same_key p.key key && on)
    (ap (λ (o : Option Id). is_on_branch a t key o (point p.branch p.timestamp)) (ap (λ n. branch_at t.history (hash_of key n) key) e)
    ∙ on_branch-hashes a b t key (branch_in b t key) (point p.branch p.timestamp) e)

-- the origins of a history that has a branch of a pair have as many hashes as the table
hashes-are : (bs : Branches) (hashes h : ℕ) (k : List ℕ) (branch : Id) → HasHashes bs hashes → branch_at bs h k ≡ Some branch → hashes_of bs ≡ hashes
hashes-are [] hashes h k branch origins is = absurd (cc)
hashes-are (b ∷ bs) hashes h k branch origins is = origins.0

-- the map of the current branches has the branch of a key
pub branch-current : (t : Table) (current : Pieced Id) (key : List ℕ) (found : Option Id) → 0 < t.config.hashes → current.hashes ≡ t.config.hashes
    → ((h : ℕ) (k : List ℕ) → h < t.config.hashes → value_at current.pieces h k ≡ branch_at t.history h k)
    → found ≡ value_at current.pieces (hash_of key current.hashes) key → found ≡ branch_in t.config t key
branch-current t current key found some hashes at got =
    got ∙ ap (λ n. value_at current.pieces (hash_of key n) key) hashes ∙ at (hash_of key t.config.hashes) key (mod_below (sum key) t.config.hashes some)

-- whether a version lies on its path
pub on-current : (t : Table) (key : List ℕ) (branch : Id) (v : Version) → HasHashes t.history t.config.hashes
    → branch_in t.config t key ≡ Some branch
    → is_on t.history (hash_of key (hashes_of t.history)) key (whole branch) v ≡ is_on_branch t.config t key (Some branch) v
on-current t key branch v origins is =
    ap (λ n. is_on t.history (hash_of key n) key (whole branch) v) (hashes-are t.history t.config.hashes (hash_of key t.config.hashes) key branch origins is)
