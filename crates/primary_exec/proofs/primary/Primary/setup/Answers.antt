use Rattle.std.proofs.Common.{rules, ◌≡◌, map, ap, ◌∙◌}
use Rattle.region_map.specs.declared.id.NodeId.{NodeId}
use Rattle.region_map.specs.Nodes.{node_id}
use Rattle.contract_types.specs.Tables.{setup_id}
use Rattle.primary_exec.specs.Execution.{Execution, begun, join_all}
use Rattle.primary_exec.proofs.Joins.{numbers_of_nodes}
use Rattle.primary_exec.proofs.primary.Primary.setup.Goals as goal

pub loop-server-init : goal.loop-server-init
loop-server-init c =
    let members : c.into_iter-server-iterator.result ≡ map node_id c.args.contract.replicas = search rules in
    let numbers = ap (map (λ (n : NodeId). n.0)) members ∙ numbers_of_nodes c.args.contract.replicas in
    let first : c.begin-primary.result ≡ begun c.args.contract c.args.me (setup_id c.args.place c.args.me) =
    c.begin-primary.ensures ∙ ap (begun c.args.contract c.args.me) c.setup_id.ensures in (
      ap (λ (x : Execution). x.me) first,
      ap (join_all c.args.place c.begin-primary.result) numbers ∙ ap (λ (x : Execution). join_all c.args.place x c.args.contract.replicas) first,
    )
