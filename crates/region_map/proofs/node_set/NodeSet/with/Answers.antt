use Rattle.std.proofs.Common.{ap, ◌∙◌, mod-lt, lit<}
use Rattle.std.proofs.lemmas.Nat.{or_lt}
use Rattle.region_map.specs.Nodes.{with_member}
use Rattle.region_map.proofs.SetLemmas.{members_with}
use Rattle.region_map.proofs.node_set.NodeSet.with.Goals as goal

pub invariant_of-result : goal.invariant_of-result
invariant_of-result c = or_lt 64 _ _ c.self.invariant (mod-lt _ (lit< tt))

pub returns : goal.returns
returns c = members_with _ _ c.requires ∙ ap (λ s. with_member s c.args.n.0) c.self.view_is
