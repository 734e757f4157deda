-- The node that is stored is as the journal gives it.
use Rattle.std.proofs.Common.{◌<◌, ap, ◌∙◌, arith}
use Rattle.world_steps.specs.World.{WorldState}
use Rattle.world_steps.proofs.States.{up_told}
use Rattle.world_core.proofs.world.World.is_up.Goals as goal

pub returns-then-node-nodes : goal.returns-then-node-nodes
returns-then-node-nodes c = λ e.
    let w = c.self.inside in
    let h = c.self.invariant.in_step (ap (λ (v : WorldState). v.ended) c.self.view_is ∙ e) in
    let within : c.args.node.0 < w.setup.nodes = omega (arith, c.if-node-nodes.true, c.nodes.ensures.value) in
    up_told c.args.self.now w.setup w.journal.past w.lost.items w.ended c.deref.result.now c.args.node c.is_up.result c.self.view_is
    (c.deref.ensures.value ∙ h.states_are) within c.is_up.ensures
