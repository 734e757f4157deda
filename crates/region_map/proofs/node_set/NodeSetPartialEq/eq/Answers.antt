use Rattle.std.proofs.Common.{arith}
use Rattle.region_map.specs.Bits.{bits_of-members}
use Rattle.region_map.proofs.node_set.NodeSetPartialEq.eq.Goals as goal

pub returns : goal.returns
returns c = grind (arith, bits_of-members)
