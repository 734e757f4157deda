-- The table that follows from a list of changes, and words on it.
use Rattle.std.specs.Prelude.{◌≡◌, ℕ, zero, suc, ◌+◌, ◌<◌, ◌≤◌, true, false, ◌⊎◌, List, [], ◌∷◌, Option, Some, None, if◌then◌else◌}
use Rattle.std.specs.List.{slice_index_or}
use Rattle.region_map.specs.declared.id.Id.{Id}
use Rattle.region_map.specs.declared.id.NodeId.{NodeId}
use Rattle.region_map.specs.declared.region.Region.{Region}
use Rattle.region_map.specs.Regions.{in_region}
use Rattle.region_map.specs.Maps.{Pieced, value_at}
use Rattle.region_map.specs.Equal.{same_id}
use Rattle.branch_history.specs.Paths.{Branches}
use Rattle.branch_history.specs.Histories.{knows, knows_origins}
use Rattle.contract_types.specs.declared.contract.Contract.{Contract}
use Rattle.contract_types.specs.declared.change.Change.{Change}
use Rattle.contract_types.specs.declared.change.Change.TheVariants.{Noop}
use Rattle.contract_types.specs.Configs.{ConfigState}
use Rattle.contract_types.specs.Tables.{Table, branch_at, setup}
use Rattle.table_apply.specs.Conditions.{is_held, is_held_by, same_primaries}
use Rattle.table_apply.specs.Effects.{applied_at}

-- the change at a place from 0; past the end nothing changes
abbrev pub change_at : List Change → ℕ → Change
change_at changes place = slice_index_or changes place Noop

-- the table after so many changes of a list, from the one that a configuration begins with: the first change has index 1
abbrev pub table_at : ConfigState → List Change → ℕ → Table
table_at config changes zero = setup config
table_at config changes (suc w) = (applied_at (table_at config changes w) (suc w) (change_at changes w)).table

-- the contract of a pair of a hash and a byte list
abbrev pub contract_at : List Contract → ℕ → List ℕ → Option Contract
contract_at [] h k = None
contract_at (c ∷ cs) h k = if in_region c.region h k then Some c else contract_at cs h k

-- how many contracts have an id
abbrev pub how_many : List Contract → Id → ℕ
how_many [] id = 0
how_many (c ∷ cs) id = if same_id c.id id then 1 + how_many cs id else how_many cs id

-- a contract that a change at an index puts in the place of another. If it has a primary, its region stays, and
-- the other had the same primary server or none. Its tenure begins, or it goes on with that of the other, and
-- then both have the same region and the same primary server, or none
pub record Replaces (index : ℕ) (old c : Contract) : Type 0 where
  pub since : c.since ≡ index
  pub region : is_held c.primary ≡ true → old.region ≡ c.region
  pub primary : is_held c.primary ≡ true → (is_held old.primary ≡ false) ⊎ (same_primaries old.primary c.primary ≡ true)
  pub tenure : (c.tenure ≡ index) ⊎ ((old.region ≡ c.region) × (same_primaries old.primary c.primary ≡ true) × (c.tenure ≡ old.tenure))

-- the contract of a pair was in force at an earlier time with the same region, primary server and tenure
pub record Goes (c d : Contract) : Type 0 where
  pub region : d.region ≡ c.region
  pub primary : same_primaries d.primary c.primary ≡ true
  pub tenure : d.tenure ≡ c.tenure

-- no contract is from the future
pub record IsPast (w : ℕ) (c : Contract) : Type 0 where
  pub tenure : c.tenure ≤ c.since
  pub since : c.since ≤ w

-- at a pair of its region, a branch is registered in the tenure of the contract in force, whose primary is its maker,
-- and the maker knew the current branch there
pub record Registers (t : Table) (region : Region) (tenure : ℕ) (maker : NodeId) (based_on : Pieced Id) (h : ℕ) (k : List ℕ) : Type 0 where
  pub contract : Contract
  pub current : contract_at t.contracts h k ≡ Some contract
  pub region_is : contract.region ≡ region
  pub tenure_is : contract.tenure ≡ tenure
  pub primary : is_held_by contract.primary maker ≡ true
  pub branch : h < t.config.hashes → value_at based_on.pieces h k ≡ branch_at t.history h k

-- each branch has an id of its own, and goes on from branches that were registered before it
abbrev pub AreFounded : Branches → Type 0
AreFounded [] = Unit {0}
AreFounded (b ∷ bs) = (knows bs b.0 ≡ false) × (knows_origins bs b.1.origin.pieces ≡ true) × AreFounded bs
