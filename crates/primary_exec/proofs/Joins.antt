-- The servers that join are the members of a set.
use Rattle.std.proofs.Common.{◌≡◌, ℕ, List, [], ◌∷◌, map, refl, ap}
use Rattle.region_map.specs.declared.id.NodeId.{NodeId}
use Rattle.region_map.specs.Nodes.{node_id}

pub numbers_of_nodes : (ns : List ℕ) → map (λ (n : NodeId). n.0) (map node_id ns) ≡ ns
numbers_of_nodes [] = refl
numbers_of_nodes (n ∷ ns) = ap (λ (l : List ℕ). n ∷ l) (numbers_of_nodes ns)
