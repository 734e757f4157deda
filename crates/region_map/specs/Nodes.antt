-- What clients see of a set of nodes: the list of its members.
use Rattle.std.specs.Prelude.{◌==◌, ℕ, ◌*◌, Bool, not, List, [], ◌∷◌, length, filter, count_by, nat_lt, if◌then◌else◌, Option, Some, None}
use Rattle.std.specs.List.{list_any}
use Rattle.region_map.specs.declared.id.NodeId.{NodeId}

-- whether a node is a member
abbrev pub has : List ℕ → ℕ → Bool
has s n = list_any (λ k. k == n) s

-- a set in rising order with one more member
abbrev pub with_member : List ℕ → ℕ → List ℕ
with_member [] n = n ∷ []
with_member (k ∷ ks) n = if nat_lt n k then n ∷ k ∷ ks else if k == n then k ∷ ks else k ∷ with_member ks n

-- the members that are not in the other set
abbrev pub without : List ℕ → List ℕ → List ℕ
without s t = filter (λ k. not (has t k)) s

abbrev pub node_id : ℕ → NodeId
node_id n = record { 0 = n }

-- the least member of a set in rising order
abbrev pub first : List ℕ → Option NodeId
first [] = None
first (k ∷ ks) = Some (node_id k)

-- twice the members of both exceed the members of `of`
abbrev pub is_majority : List ℕ → List ℕ → Bool
is_majority set of = nat_lt (length of) (2 * count_by (has set) of)
