-- Timestamps that are decided: counted at majorities of both sets of voters.
use Rattle.std.specs.Prelude.{◌≡◌, ◌≤◌, ◌<◌, ℕ, Bool, true, ◌&&◌, List, [], ◌∷◌, Some}
use Rattle.path_facts.specs.Paths.{Version, Birth, point, on, IsIn}
use Rattle.path_facts.specs.Runs.{KeyRun, IsMost, holds, own_contract}

-- What counting a node for a timestamp of a branch rests on: a moment at which it acts on the log up to a given index or
-- further, in the branch's tenure, and its version is of the branch, at that timestamp or above.
pub record Stands {B : Type 0} (r : KeyRun B) (b : Birth B) (t from q : ℕ) : Type 0 where
  pub moment : ℕ
  pub within : moment ≤ r.end
  -- an acknowledgement from before the index does not count
  pub views : from ≤ r.view q moment
  -- the node may be ahead of the primary that counts it, within the tenure
  pub primary : (own_contract r q moment).primary ≡ Some b.maker
  pub tenure : (own_contract r q moment).tenure ≡ b.tenure
  pub at : ℕ
  pub version_is : r.version q moment ≡ point b.branch at
  pub reached : t ≤ at

-- A timestamp of a branch is decided: at some moment the branch's maker, in the life in which it made it, stands there or
-- above, under a contract of the branch's tenure that names it as the primary; and the nodes that it counted are more than
-- half of that contract's voters, and of its second set where it has one. Each of them stood there as it was counted.
pub record Decided {B : Type 0} (r : KeyRun B) (b : Birth B) (t : ℕ) : Type 0 where
  pub moment : ℕ
  pub within : moment ≤ r.end
  -- the maker is in the branch's life, and knows it registered
  pub life : r.life b.maker moment ≡ b.life
  pub known : b.registered ≤ r.view b.maker moment
  -- it leads by the contract in force
  pub primary : (own_contract r b.maker moment).primary ≡ Some b.maker
  pub tenure : (own_contract r b.maker moment).tenure ≡ b.tenure
  -- it took the timestamp
  pub at : ℕ
  pub version_is : r.version b.maker moment ≡ point b.branch at
  pub reached : t ≤ at
  pub above : b.initial ≤ t
  -- two majorities where there are two sets, by acknowledgements from this contract on
  pub counted : ℕ → Bool
  pub most : IsMost counted (own_contract r b.maker moment).voters
  pub most_of_second : (set : List ℕ) → (own_contract r b.maker moment).second ≡ Some set → IsMost counted set
  pub each : (q : ℕ) → counted q ≡ true → Stands r b t (own_contract r b.maker moment).since q

-- a decided point
pub record DecidedPoint {B : Type 0} (r : KeyRun B) : Type 0 where
  pub birth : Birth B
  pub is_in : IsIn r.births birth
  pub timestamp : ℕ
  pub decided : Decided r birth timestamp

abbrev pub place : {B : Type 0} (r : KeyRun B) → DecidedPoint r → Version B
place r p = point p.birth.branch p.timestamp

-- whether a node holds all of some at the end
abbrev pub holds_all : {B : Type 0} (r : KeyRun B) → List (DecidedPoint r) → ℕ → Bool
holds_all r [] q = true
holds_all r (p ∷ ps) q = holds r (place r p) r.end q && holds_all r ps q

-- each branch that was registered after another one, and before an index, goes on from a point
abbrev pub Safe : {B : Type 0} → KeyRun B → Birth B → Version B → ℕ → Type 0
Safe {B} r b x index = (y : Birth B) → IsIn r.births y → b.registered < y.registered → y.registered < index → on r.same r.births y.origin x ≡ true
