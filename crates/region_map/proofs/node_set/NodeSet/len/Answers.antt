use Rattle.std.proofs.Common.{ap, ◌∙◌, sym, length}
use Rattle.region_map.proofs.SetLemmas.{length-members}
use Rattle.region_map.proofs.node_set.NodeSet.len.Goals as goal

pub returns-clause-len : goal.returns-clause-len
returns-clause-len c = sym (length-members c.self.inside.bits c.self.invariant) ∙ ap length c.self.view_is
