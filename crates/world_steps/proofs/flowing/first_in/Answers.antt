-- One sender more.
use Rattle.std.proofs.Common.{◌≡◌, ℕ, suc, ◌+◌, subst, arith}
use Rattle.region_map.specs.Nodes.{node_id}
use Rattle.world_steps.specs.Pairs.{IsLeast, flows_from, flows_in}
use Rattle.world_steps.proofs.flowing.first_in.Goals as goal

pub loop-from-preserved : goal.loop-from-preserved
loop-from-preserved c =
    let next : suc c.loop-from.from ≡ c.loop-from.from + 1 = omega arith in
    subst (λ (m : ℕ). IsLeast (flows_in c.args.nodes.now c.args.only.now c.args.waits.now m) c.lesser-first.result) next
    (c.lesser-first.ensures (flows_from c.args.nodes.now c.args.only.now c.args.waits.now c.args.waits.now.nodes (node_id c.loop-from.from))
    (flows_in c.args.nodes.now c.args.only.now c.args.waits.now c.loop-from.from) c.first_from.ensures c.loop-from.invariant)
