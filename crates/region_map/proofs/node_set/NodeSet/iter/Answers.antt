use Rattle.region_map.proofs.SetLemmas.{members_few}
use Rattle.region_map.proofs.node_set.NodeSet.iter.Goals as goal

pub returns-clause-small : goal.returns-clause-small
returns-clause-small c = members_few c.self.inside.bits c.self.invariant
