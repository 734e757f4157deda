-- The facts of one key that hold in every run, from which alone it follows that decided points stay.
use Rattle.std.specs.Prelude.{◌≡◌, ◌⊎◌, ℕ, suc, ◌≤◌, ◌<◌, Bool, true, List, Some, None}
use Rattle.path_facts.specs.Paths.{Version, Birth, TellsApart, point, on, IsIn, known, IsHistory}
use Rattle.path_facts.specs.Runs.{KeyRun, has, IsMost, own_contract, StaysReplica}
use Rattle.path_facts.specs.Decided.{Decided}

-- The primary of the contract at an index said that it is ready: the sync that it made as this contract came into force is
-- decided under it, and at all moments before it came to this contract it stood below the sync.
pub record Ready {B : Type 0} (r : KeyRun B) (w : ℕ) : Type 0 where
  -- the branch that it writes, and the timestamp of the sync
  pub branch : Birth B
  pub is_in : IsIn r.births branch
  pub sync : ℕ
  -- the sync is decided, under this contract and no other
  pub decided : Decided r branch sync
  pub under : own_contract r branch.maker decided.moment ≡ r.contract w
  -- all that it took before lies below
  pub first : (i u : ℕ) → r.view branch.maker i < (r.contract w).since → r.version branch.maker i ≡ point branch.branch u → u < sync

-- The contract at an index has a second set, and the next one has it as its voters, once the primary was ready.
pub record GoesOver {B : Type 0} (r : KeyRun B) (w : ℕ) : Type 0 where
  pub second_is : (r.contract w).second ≡ Some (r.contract (suc w)).voters
  pub since_is : (r.contract (suc w)).since ≡ suc w
  pub ready : Ready r w

-- A node's report under the contract at an index: its version at a moment at which that contract was in its table, and in
-- the leader's table the last point of it that some version of the current branch has on its path.
pub record Report {B : Type 0} (r : KeyRun B) (w view : ℕ) (current : Birth B) (q : ℕ) : Type 0 where
  pub moment : ℕ
  -- it speaks of the very contract that is replaced
  pub under : own_contract r q moment ≡ r.contract w
  -- the point that counts: on the node's path, and behind all points of that path that the current branch has too
  pub projected : Version B
  pub on_version : on r.same (known view r.births) (r.version q moment) projected ≡ true
  pub is_last : (x : Version B) (t : ℕ) → t ≤ r.top → on r.same (known view r.births) (r.version q moment) x ≡ true
      → on r.same (known view r.births) (point current.branch t) x ≡ true → on r.same (known view r.births) projected x ≡ true

-- The contract at an index has no primary, and the next one has this one: a leader whose table had the contract elected a
-- voter, by reports under that contract. The reports of more than half of all voters do not go beyond the winner's.
pub record Elected {B : Type 0} (r : KeyRun B) (w winner : ℕ) : Type 0 where
  -- how far the leader saw the log: the contract had come, and its successor had not
  pub view : ℕ
  pub from : (r.contract w).since ≤ view
  pub upto : view ≤ w
  -- the branch that is current there
  pub current : Birth B
  pub is_in : IsIn r.births current
  pub is_known : current.registered ≤ view
  pub is_newest : (z : Birth B) → IsIn r.births z → z.registered ≤ view → z.registered ≤ current.registered
  -- the winner is a voter, and reported
  pub votes : has (r.contract w).voters winner ≡ true
  pub report : Report r w view current winner
  -- those whose reports do not go beyond the winner's are more than half of all voters
  pub behind : ℕ → Bool
  pub most : IsMost behind (r.contract w).voters
  pub reports : (q : ℕ) → behind q ≡ true → Report r w view current q
  pub reaches : (q : ℕ) (h : behind q ≡ true) → on r.same (known view r.births) report.projected (reports q h).projected ≡ true

-- A branch was asked for: at a moment its maker had the origin as its version of the key, in the branch's life, under a
-- contract of the branch's tenure that names it as the primary. The log registers it only where its maker then knew the
-- current branch, and so each that was registered before.
pub record Asked {B : Type 0} (r : KeyRun B) (y : Birth B) : Type 0 where
  pub moment : ℕ
  -- it goes on from what its maker had
  pub origin : r.version y.maker moment ≡ y.origin
  pub life : r.life y.maker moment ≡ y.life
  pub primary : (own_contract r y.maker moment).primary ≡ Some y.maker
  pub tenure : (own_contract r y.maker moment).tenure ≡ y.tenure
  pub knew : (z : Birth B) → IsIn r.births z → z.registered < y.registered → z.registered ≤ r.view y.maker moment

-- A version is of a registered branch, from its first timestamp on, whose tenure had begun at the node's view.
pub record IsOfBranch {B : Type 0} (r : KeyRun B) (q i : ℕ) (c : B) (s : ℕ) : Type 0 where
  pub birth : Birth B
  pub is_in : IsIn r.births birth
  pub name_is : birth.branch ≡ c
  pub above : birth.initial ≤ s
  pub tenure : birth.tenure ≤ r.view q i

-- At a moment a node's version is of a branch that was registered after another one, or of that one at no lesser timestamp.
pub record GoesOn {B : Type 0} (r : KeyRun B) (q j : ℕ) (y : Birth B) (s : ℕ) : Type 0 where
  pub birth : Birth B
  pub is_in : IsIn r.births birth
  pub at : ℕ
  pub version_is : r.version q j ≡ point birth.branch at
  pub forward : (y.registered < birth.registered) ⊎ ((birth ≡ y) × (s ≤ at))

-- What holds of the log at the key, and of who asked for its branches.
pub record LogFacts {B : Type 0} (r : KeyRun B) : Type 0 where
  -- the names of branches are told apart
  pub names : TellsApart r.same
  -- no branch is registered twice, at an index at most one is, and each goes on from one that was registered before
  pub history : IsHistory r.same r.births
  -- a contract came at an index up to which the log has it, and its tenure began no later
  pub since_within : (w : ℕ) → (r.contract w).since ≤ w
  pub tenure_within : (w : ℕ) → (r.contract w).tenure ≤ (r.contract w).since
  -- a contract has the key from the index on at which it came
  pub contracts_last : (w u : ℕ) → (r.contract w).since ≤ u → u ≤ w → r.contract u ≡ r.contract w
  -- within the tenure of a contract that has a primary, all contracts have that tenure and that primary
  pub tenures_last : (w u p : ℕ) → (r.contract w).primary ≡ Some p → (r.contract w).tenure ≤ u → u ≤ w
      → ((r.contract u).primary ≡ Some p) × ((r.contract u).tenure ≡ (r.contract w).tenure)
  -- a branch is registered while its tenure lasts, and its maker leads
  pub registered_in_tenure : (y : Birth B) → IsIn r.births y
      → ((r.contract y.registered).primary ≡ Some y.maker) × ((r.contract y.registered).tenure ≡ y.tenure)
  -- what a node made and sees registered, it made in no later life
  pub makers_are_old : (y : Birth B) (i : ℕ) → IsIn r.births y → y.registered ≤ r.view y.maker i → y.life ≤ r.life y.maker i
  -- in one life a node makes one branch in a tenure
  pub one_in_a_life : (y z : Birth B) → IsIn r.births y → IsIn r.births z → y.maker ≡ z.maker → y.life ≡ z.life → y.tenure ≡ z.tenure → y.registered ≡ z.registered
  -- each branch but the table's first one was asked for
  pub was_asked : (y : Birth B) → IsIn r.births y → 1 ≤ y.registered → Asked r y

-- All facts.
pub record Facts {B : Type 0} (r : KeyRun B) : Type 0 where
  pub log : LogFacts r
  pub open log use *
  -- ---- how contracts change
  -- voters, those of a second set and the primary are replicas
  pub voters_are_replicas : (w q : ℕ) → has (r.contract w).voters q ≡ true → has (r.contract w).replicas q ≡ true
  pub second_are_replicas : (w : ℕ) (set : List ℕ) (q : ℕ) → (r.contract w).second ≡ Some set → has set q ≡ true → has (r.contract w).replicas q ≡ true
  pub primary_is_replica : (w p : ℕ) → (r.contract w).primary ≡ Some p → has (r.contract w).replicas p ≡ true
  -- voters stay, or go over to the second set
  pub voters_stay : (w : ℕ) → ((r.contract (suc w)).voters ≡ (r.contract w).voters) ⊎ GoesOver r w
  -- a primary stays or goes, and comes by an election alone
  pub primaries_stay : (w p : ℕ) → (r.contract w).primary ≡ Some p → ((r.contract (suc w)).primary ≡ Some p) ⊎ ((r.contract (suc w)).primary ≡ None)
  pub primaries_are_elected : (w p : ℕ) → (r.contract w).primary ≡ None → (r.contract (suc w)).primary ≡ Some p → Elected r w p
  -- ---- the nodes
  -- a node never goes back on the log, of which it sees no more than there is, and its lives follow one another
  pub views_grow : (q i j : ℕ) → i ≤ j → r.view q i ≤ r.view q j
  pub views_within : (q : ℕ) → r.view q r.end ≤ r.last
  pub lives_grow : (q i j : ℕ) → i ≤ j → r.life q i ≤ r.life q j
  -- versions are of registered branches, and not beyond the greatest timestamp
  pub is_of_branch : (q i : ℕ) (c : B) (s : ℕ) → r.version q i ≡ point c s → IsOfBranch r q i c s
  pub in_range : (q i : ℕ) (c : B) (s : ℕ) → r.version q i ≡ point c s → s ≤ r.top
  -- while a node stays a replica by its own table, its version never goes back
  pub goes_on : (q i j : ℕ) → i ≤ j → StaysReplica r q i j → (y : Birth B) (s : ℕ) → IsIn r.births y → r.version q i ≡ point y.branch s → GoesOn r q j y s
