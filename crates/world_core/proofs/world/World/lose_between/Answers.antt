-- The whole set of the pair is lost.
use Rattle.std.proofs.Common.{◌≡◌, ◌<◌, ◌++◌, List, ℕ, sym, ap, ◌∙◌, subst}
use Rattle.world_steps.specs.Waiting.{waiting_between}
use Rattle.world_steps.specs.World.{WorldState}
use Rattle.world_steps.proofs.Least.{IsInStep-between, lost_between}
use Rattle.world_core.proofs.world.World.lose_between.Goals as goal

pub invariant_of-self-2 : goal.invariant_of-self-2
invariant_of-self-2 c =
    let w = c.self.inside in
    let all = c.in_ok-lose_all.ensures in
    record {
      begun = c.self.invariant.begun;
      run = c.self.invariant.run;
      weighed = c.self.invariant.weighed;
      in_step = λ e.
          let h = c.self.invariant.in_step e in
          let hf : c.args.from.0 < w.waits.nodes = subst (λ (m : ℕ). c.args.from.0 < m) (sym h.waits_are.nodes_are) (subst (λ (v : WorldState). c.args.from.0 < v.setup.nodes) (sym c.self.view_is) c.requires.sender) in
          let ht : c.args.to.0 < w.waits.nodes = subst (λ (m : ℕ). c.args.to.0 < m) (sym h.waits_are.nodes_are) (subst (λ (v : WorldState). c.args.to.0 < v.setup.nodes) (sym c.self.view_is) c.requires.receiver) in
          IsInStep-between w.setup w.journal.past w.lost.items c.lose_all.new.lost.items w.nodes.items w.sent.items w.waits c.lose_all.new.self w.requested c.args.from c.args.to
          h hf ht (all.ordered hf ht) (all.lost hf ht) all.nodes all.emptied;
    }

pub returns-clause-lost : goal.returns-clause-lost
returns-clause-lost c = λ ended.
    let w = c.self.inside in
    let all = c.in_ok-lose_all.ensures in
    let is = c.self.view_is in
    let h = c.self.invariant.in_step (ap (λ (v : WorldState). v.ended) is ∙ ended) in
    let hf : c.args.from.0 < w.waits.nodes = subst (λ (m : ℕ). c.args.from.0 < m) (sym h.waits_are.nodes_are) (subst (λ (v : WorldState). c.args.from.0 < v.setup.nodes) (sym is) c.requires.sender) in
    let ht : c.args.to.0 < w.waits.nodes = subst (λ (m : ℕ). c.args.to.0 < m) (sym h.waits_are.nodes_are) (subst (λ (v : WorldState). c.args.to.0 < v.setup.nodes) (sym is) c.requires.receiver) in
    let grown : c.lose_all.new.lost.items ≡ w.lost.items ++ waiting_between w.journal.past w.lost.items c.args.from c.args.to =
    lost_between w.setup w.journal.past w.lost.items c.lose_all.new.lost.items w.waits c.args.from c.args.to h.waits_are hf ht (all.ordered hf ht) (all.lost hf ht) in
    ap (λ (ls : List ℕ). record { setup = w.setup; past = w.journal.past; lost = ls; ended = w.ended }) grown
    ∙ ap (λ (v : WorldState). record v { lost = v.lost ++ waiting_between v.past v.lost c.args.from c.args.to }) is
