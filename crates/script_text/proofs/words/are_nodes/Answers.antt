use Rattle.std.proofs.Common.{rules, tests, ◌∙◌, map, List, Bool}
use Rattle.std.specs.Prelude.{nat_lt}
use Rattle.std.proofs.lemmas.Iterator.Consumers.{YieldsList-from_first}
use Rattle.std.proofs.lemmas.Iterator.Search.{all_from_yields_List}
use Rattle.region_map.specs.declared.id.NodeId.{NodeId}
use Rattle.region_map.specs.Nodes.{node_id}
use Rattle.script_text.proofs.ShardLaws.{all_below}
use Rattle.script_text.proofs.words.are_nodes.Goals as goal

pub returns : goal.returns
returns c =
    let test : NodeId → Bool = λ n. nat_lt n.0 c.args.setup.now.nodes in
    all_from_yields_List test _ _ _ c.all.ensures.ran
    (YieldsList-from_first (λ (x : NodeId). x) (λ (s : List NodeId). s) (map node_id c.args.set.now) cc)
    (λ x b q k. search (rules, tests))
    ∙ all_below c.args.setup.now.nodes c.args.set.now
