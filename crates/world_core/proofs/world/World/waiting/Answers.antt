-- The least number in the sets of pairs that may flow is the least message that does.
use Rattle.std.proofs.Common.{◌≡◌, ap, ◌∙◌, nat_lt, true, sym, subst}
use Rattle.std.specs.List.{list_all}
use Rattle.world_steps.specs.World.{WorldState}
use Rattle.world_steps.specs.Waiting.{waiting}
use Rattle.world_steps.proofs.Least.{waiting_is}
use Rattle.world_core.proofs.world.World.waiting.Goals as goal

pub returns : goal.returns
returns c = λ e.
    let w = c.self.inside in
    let is = c.self.view_is in
    let h = c.self.invariant.in_step (ap (λ (v : WorldState). v.ended) is ∙ e) in
    let within : list_all (λ k. nat_lt k w.setup.nodes) c.args.only.now ≡ true =
    subst (λ (v : WorldState). list_all (λ k. nat_lt k v.setup.nodes) c.args.only.now ≡ true) (sym is) c.requires in
    waiting_is w.setup w.journal.past w.lost.items c.args.only.now c.deref.result.now w.waits c.first_in.result (c.deref.ensures.value ∙ h.states_are) h.waits_are within c.first_in.ensures
    ∙ ap (λ (v : WorldState). waiting v.setup v.past v.lost c.args.only.now) is
