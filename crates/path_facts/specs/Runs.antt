-- What a run shows of one key.
use Rattle.std.specs.Prelude.{◌≡◌, ◌==◌, ℕ, ◌*◌, ◌<◌, ◌≤◌, Bool, true, false, ◌||◌, List, [], ◌∷◌, length, count_by, Option}
use Rattle.path_facts.specs.Paths.{Version, Birth, on}

-- the contract that has the key
pub record Contract : Type 0 where
  pub voters : List ℕ
  -- the voters that it changes to, where it does
  pub second : Option (List ℕ)
  pub primary : Option ℕ
  pub replicas : List ℕ
  -- the index of the log at which it came; so it is told from every other contract of the key
  pub since : ℕ
  -- the index from which the same primary leads the same region
  pub tenure : ℕ

-- What a run shows of one key. Indexes are those of the longest committed log, and 0 is where the table begins; moments
-- count the run's entries that are done; both may go beyond the end, where nothing changes any more.
pub record KeyRun (B : Type 0) : Type 0 where
  -- whether two names of branches are the same
  pub same : B → B → Bool
  -- the branches that have the key, the newest first
  pub births : List (Birth B)
  -- the contract that has the key, by index
  pub contract : ℕ → Contract
  -- by node and moment: the version of the key, the index up to which the node acts on the log, and its life
  pub version : ℕ → ℕ → Version B
  pub view : ℕ → ℕ → ℕ
  pub life : ℕ → ℕ → ℕ
  -- the log's last index, and the last moment
  pub last : ℕ
  pub end : ℕ
  -- a timestamp that none exceeds
  pub top : ℕ

abbrev pub has : List ℕ → ℕ → Bool
has [] n = false
has (m ∷ ms) n = (m == n) || has ms n

-- those that pass are more than half of a set
abbrev pub IsMost : (ℕ → Bool) → List ℕ → Type 0
IsMost passes nodes = length nodes < 2 * count_by passes nodes

-- whether a node, at a moment, has a point on the path of its version
abbrev pub holds : {B : Type 0} → KeyRun B → Version B → ℕ → ℕ → Bool
holds r x i q = on r.same r.births (r.version q i) x

-- the contract in a node's own table at a moment
abbrev pub own_contract : {B : Type 0} → KeyRun B → ℕ → ℕ → Contract
own_contract r q i = r.contract (r.view q i)

-- from one moment to another a node is among the replicas by its own table
abbrev pub StaysReplica : {B : Type 0} → KeyRun B → ℕ → ℕ → ℕ → Type 0
StaysReplica r q i j = (m : ℕ) → i ≤ m → m ≤ j → has (own_contract r q m).replicas q ≡ true
