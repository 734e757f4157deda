use Rattle.std.proofs.Common.{nat_lt, ap, ◌∙◌}
use Rattle.std.specs.List.{list_all}
use Rattle.contract_types.specs.Setup.{nodes_below}
use Rattle.contract_types.proofs.Below.{below_within}
use Rattle.table_play.proofs.events.nodes_of.Goals as goal

pub returns-in-None-clause-within : goal.returns-in-None-clause-within
returns-in-None-clause-within c =
    ap (list_all (λ n. nat_lt n c.args.setup.now.nodes)) (c.nodes_below.ensures ∙ ap nodes_below c.nodes.ensures.value) ∙ below_within c.args.setup.now.nodes
