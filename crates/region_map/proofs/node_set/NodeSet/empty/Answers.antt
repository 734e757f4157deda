use Rattle.region_map.proofs.SetLemmas.{members-zero}
use Rattle.region_map.proofs.node_set.NodeSet.empty.Goals as goal

pub returns : goal.returns
returns c = members-zero
