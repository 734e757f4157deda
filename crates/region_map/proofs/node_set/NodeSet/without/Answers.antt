use Rattle.std.proofs.Common.{ap₂, ◌∙◌}
use Rattle.region_map.specs.Nodes.{without}
use Rattle.region_map.proofs.SetLemmas.{members_without}
use Rattle.region_map.proofs.node_set.NodeSet.without.Goals as goal

pub returns : goal.returns
returns c = members_without c.self.inside.bits c.other.inside.bits c.other.invariant ∙ ap₂ without c.self.view_is c.other.view_is
