use Rattle.std.proofs.Common.{ap, ◌∙◌, sym}
use Rattle.region_map.specs.Bits.{members}
use Rattle.region_map.specs.Nodes.{first}
use Rattle.region_map.proofs.SetLemmas.{members-zero, first-members}
use Rattle.region_map.proofs.node_set.NodeSet.first.Goals as goal

pub returns-then-self-eq0 : goal.returns-then-self-eq0
returns-then-self-eq0 c = sym (ap first members-zero) ∙ ap (λ b. first (members b)) (sym c.if-self-eq0.true) ∙ ap first c.self.view_is

pub returns-else-self-eq0 : goal.returns-else-self-eq0
returns-else-self-eq0 c = sym (first-members c.self.inside.bits c.if-self-eq0.false c.self.invariant) ∙ ap first c.self.view_is
