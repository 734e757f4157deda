use Rattle.std.proofs.Common.{ap, ◌∙◌, sym}
use Rattle.std.proofs.lemmas.Bool.{le-ltb}
use Rattle.region_map.specs.Nodes.{has}
use Rattle.region_map.proofs.SetLemmas.{has-test, has-members_above}
use Rattle.region_map.proofs.node_set.NodeSet.has.Goals as goal

pub returns-then-n-lt64 : goal.returns-then-n-lt64
returns-then-n-lt64 c = has-test c.self.inside.bits c.args.n.0 c.if-n-lt64.true ∙ ap (λ s. has s c.args.n.0) c.self.view_is

pub returns-else-n-lt64 : goal.returns-else-n-lt64
returns-else-n-lt64 c =
    le-ltb c.args.n.0 64 c.if-n-lt64.false
    ∙ sym (has-members_above c.self.inside.bits c.args.n.0 c.if-n-lt64.false) ∙ ap (λ s. has s c.args.n.0) c.self.view_is
