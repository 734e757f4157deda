-- A message that was sent and is marked lost waits no longer.
use Rattle.std.proofs.Common.{◌≡◌, ◌==◌, ◌&&◌, not, List, true, is_some, sym, ap, ◌∙◌}
use Rattle.std.specs.Prelude.{Option}
use Rattle.path_runs.specs.runs.declared.envelope.Envelope.{Envelope}
use Rattle.path_runs.specs.runs.Run.{numbered}
use Rattle.world_steps.specs.Waiting.{is_between}
use Rattle.world_steps.specs.Pairs.{pair_has}
use Rattle.world_steps.proofs.States.{IsInStep-lost}
use Rattle.world_core.proofs.world.World.lose.Goals as goal

pub invariant_of-self-2 : goal.invariant_of-self-2
invariant_of-self-2 c =
    let w = c.self.inside in
    let there : is_some (numbered w.sent.items c.args.message) ≡ true =
    ap (λ (o : Option Envelope). is_some o) (ap (λ (ms : _). numbered ms c.args.message) (sym c.deref.ensures.value) ∙ sym c.in-Some.ensures) in
    record {
      begun = c.self.invariant.begun;
      run = c.self.invariant.run;
      weighed = c.self.invariant.weighed;
      in_step = λ e. IsInStep-lost w.setup w.journal.past w.lost.items _ c.args.message w.nodes.items w.sent.items w.waits _ w.requested (c.self.invariant.in_step e) c.in_ok-push.ensures.items there c.stop_waiting.ensures.nodes
          (λ a b ha hb k. c.stop_waiting.ensures.stopped a b ha hb k
          ∙ ap (λ (ms : List Envelope). not ((c.args.message == k) && is_between a b (numbered ms k)) && pair_has w.waits a b k) c.deref-2.ensures.value);
    }
