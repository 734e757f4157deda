use Rattle.std.proofs.Common.{◌≡◌, map}
use Rattle.region_map.specs.Bits.{numbers_where, is_set}
use Rattle.region_map.specs.Nodes.{node_id}
use Rattle.region_map.proofs.node_set.NodeSet.members.Given as goal

abbrev pub invariant-loop-n : goal.invariant-loop-n
invariant-loop-n l = l.found.items ≡ map node_id (numbers_where (is_set l.bits) 0 l.n)
