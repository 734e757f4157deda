use Rattle.std.proofs.Common.{ap₂, ◌∙◌, sym, nat_lt, ◌*◌}
use Rattle.region_map.specs.Nodes.{is_majority}
use Rattle.region_map.proofs.SetLemmas.{length-members, count_common}
use Rattle.region_map.proofs.node_set.majority.Goals as goal

pub returns : goal.returns
returns c =
    ap₂ (λ m n. nat_lt m (2 * n)) (sym (length-members c.of.inside.bits c.of.invariant)) (sym (count_common c.set.inside.bits c.of.inside.bits c.of.invariant))
    ∙ ap₂ is_majority c.set.view_is c.of.view_is
