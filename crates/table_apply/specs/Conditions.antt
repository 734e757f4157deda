-- What is asked of a change before it is taken.
use Rattle.std.specs.Prelude.{◌==◌, ℕ, Bool, true, false, ◌&&◌, ◌||◌, not, List, [], ◌∷◌, map, filter, nat_eq, nat_le, Option, Some, None, if◌then◌else◌}
use Rattle.std.specs.List.{list_any, list_all}
use Rattle.std.specs.Cmp.Lexicographic.{pointwise}
use Rattle.region_map.specs.declared.id.Id.{Id}
use Rattle.region_map.specs.declared.id.NodeId.{NodeId}
use Rattle.region_map.specs.declared.region.Region.{Region}
use Rattle.region_map.specs.Regions.{in_region}
use Rattle.region_map.specs.Maps.{Pieced, value_at}
use Rattle.region_map.specs.Equal.{same_id}
use Rattle.branch_history.specs.declared.version.Version.{Version}
use Rattle.branch_history.specs.declared.history.BranchBirth.{BranchBirth}
use Rattle.branch_history.specs.Paths.{Branches}
use Rattle.branch_history.specs.Histories.{knows, knows_origins}
use Rattle.contract_types.specs.declared.contract.Contract.{Contract}
use Rattle.contract_types.specs.declared.contract.Holder.{Holder}
use Rattle.contract_types.specs.declared.tiling.Rule.TheVariants.{Tiles}
use Rattle.contract_types.specs.Tilings.{allows_at, everywhere}
use Rattle.contract_types.specs.Tables.{branch_at}

-- ---- contracts by id

abbrev pub is_among : List Id → Id → Bool
is_among ids id = list_any (λ i. same_id i id) ids

abbrev pub has_id : List Contract → Id → Bool
has_id contracts id = list_any (λ c. same_id c.id id) contracts

-- the contracts that leave, and those that stay
abbrev pub leaving : List Contract → List Id → List Contract
leaving contracts removed = filter (λ c. is_among removed c.id) contracts

abbrev pub staying : List Contract → List Id → List Contract
staying contracts removed = filter (λ c. not (is_among removed c.id)) contracts

-- ---- regions and primaries

abbrev pub same_bounds : Option (List ℕ) → Option (List ℕ) → Bool
same_bounds None None = true
same_bounds None (Some b) = false
same_bounds (Some a) None = false
same_bounds (Some a) (Some b) = pointwise nat_eq a b

abbrev pub same_regions : Region → Region → Bool
same_regions a b = ((a.hash_from == b.hash_from) && (a.hash_to == b.hash_to)) && (same_bounds a.from b.from && same_bounds a.to b.to)

abbrev pub contract_region : Contract → Region
contract_region c = c.region

-- whether a server holds the region as its primary; to whom it hands over is not compared
abbrev pub is_held_by : Option Holder → NodeId → Bool
is_held_by None server = false
is_held_by (Some h) server = h.server.0 == server.0

abbrev pub is_held : Option Holder → Bool
is_held None = false
is_held (Some h) = true

-- whether two contracts have the same primary server, or both have none
abbrev pub same_primaries : Option Holder → Option Holder → Bool
same_primaries None None = true
same_primaries None (Some b) = false
same_primaries (Some a) None = false
same_primaries (Some a) (Some b) = a.server.0 == b.server.0

-- ---- the conditions of new contracts

-- each removed id is current
abbrev pub are_current : List Contract → List Id → Bool
are_current contracts removed = list_all (λ id. has_id contracts id) removed

-- no pair lies in two of the added regions, and each lies in one of them where it lies in one of the removed
unfoldable pub tile : List Contract → List Contract → Bool
tile added removed = everywhere contract_region contract_region added removed (allows_at Tiles contract_region contract_region added removed)

-- a primary keeps its region, or takes over one that had none: an added contract with a primary has the region
-- of a removed one, whose primary is the same server or none
abbrev pub may_follow : Contract → Contract → Bool
may_follow c old = same_regions old.region c.region && (not (is_held old.primary) || same_primaries old.primary c.primary)

abbrev pub have_primaries : List Contract → List Contract → Bool
have_primaries removed added = list_all (λ c. not (is_held c.primary) || list_any (may_follow c) removed) added

-- no added id is current, nor is it that of another added contract
abbrev pub are_new : List Contract → List Contract → Bool
are_new contracts [] = true
are_new contracts (c ∷ cs) = (not (has_id contracts c.id) && not (has_id cs c.id)) && are_new contracts cs

-- ---- the conditions of a branch

-- a current contract has this region, this tenure, and the maker as its primary
abbrev pub has_tenure : List Contract → Region → ℕ → NodeId → Bool
has_tenure contracts region tenure maker = list_any (λ c. same_regions c.region region && ((c.tenure == tenure) && is_held_by c.primary maker)) contracts

abbrev pub same_branches : Option Id → Option Id → Bool
same_branches None None = true
same_branches None (Some b) = false
same_branches (Some a) None = false
same_branches (Some a) (Some b) = same_id a b

abbrev pub branch_region : Id × BranchBirth → Region
branch_region b = b.1.region

abbrev pub itself : Region → Region
itself r = r

-- a region, and those of the pieces of a map
abbrev pub regions_of : Region → List (Region × Id) → List Region
regions_of region pieces = region ∷ map (λ p. p.0) pieces

-- the branch of a pair on a region: the current one, and none outside of the region
abbrev pub branch_on : Branches → Region → ℕ → List ℕ → Option Id
branch_on history region h k = if in_region region h k then branch_at history h k else None

-- whether a map has the current branch of the region at a pair, if its hash is one of the table
abbrev pub based_at : ℕ → Branches → Region → List (Region × Id) → ℕ → List ℕ → Bool
based_at hashes history region pieces h k = nat_le hashes h || same_branches (value_at pieces h k) (branch_on history region h k)

-- whether a map is that of the current branches on a region
unfoldable pub is_based_on : ℕ → Branches → Region → Pieced Id → Bool
is_based_on hashes history region based_on =
    (based_on.hashes == hashes)
    && everywhere branch_region itself history (regions_of region based_on.pieces) (based_at hashes history region based_on.pieces)

-- whether two lists of pieces are the same
abbrev pub same_pieces : List (Region × Id) → List (Region × Id) → Bool
same_pieces a b = pointwise (λ p q. same_regions p.0 q.0 && same_id p.1 q.1) a b

-- the branch is new, and each branch that it goes on from is registered
abbrev pub is_new_branch : Branches → Id → List (Region × Version) → Bool
is_new_branch history branch pieces = not (knows history branch) && knows_origins history pieces
