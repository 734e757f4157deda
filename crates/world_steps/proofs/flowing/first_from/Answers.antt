-- One receiver more.
use Rattle.std.proofs.Common.{◌≡◌, ℕ, suc, ◌+◌, subst, arith}
use Rattle.region_map.specs.Nodes.{node_id}
use Rattle.world_steps.specs.Pairs.{IsLeast, flows_between, flows_from}
use Rattle.world_steps.proofs.flowing.first_from.Goals as goal

pub loop-to-preserved : goal.loop-to-preserved
loop-to-preserved c =
    let next : suc c.loop-to.to ≡ c.loop-to.to + 1 = omega arith in
    subst (λ (m : ℕ). IsLeast (flows_from c.args.nodes.now c.args.only.now c.args.waits.now m c.args.from) c.lesser-first.result) next
    (c.lesser-first.ensures (flows_between c.args.nodes.now c.args.only.now c.args.waits.now c.args.from (node_id c.loop-to.to))
    (flows_from c.args.nodes.now c.args.only.now c.args.waits.now c.loop-to.to c.args.from) c.first_between.ensures c.loop-to.invariant)
