-- What a step gives, as the journal says it: the message that is brought, and the state of the node.
use Rattle.std.proofs.Common.{◌≡◌, ℕ, not, ◌<◌, ◌&&◌, ◌||◌, length, sym, subst, List, ◌∷◌, ◌++◌, Some, None, inr, get_or, ap, ◌∙◌}
use Rattle.std.proofs.lemmas.Result.{err_from_is_err_and}
use Rattle.contract_types.specs.Setup.{SetupState}
use Rattle.exec_types.specs.declared.output.Output.{Output}
use Rattle.node_core.specs.Journal.{JournalState}
use Rattle.runs.specs.declared.envelope.Envelope.{Envelope}
use Rattle.world_steps.specs.Waiting.{delivers, is_between}
use Rattle.world_steps.specs.Pairs.{pair_has, comes_between}
use Rattle.runs.specs.Run.{numbered, brought, state, outs_of, sent_by}
use Rattle.world_steps.specs.World.{total_weight}
use Rattle.world_steps.proofs.States.{state_stored, numbers_refused, weight_next, weight_decides, outs_given, node_given, IsInStep-next}
use Rattle.world_steps.proofs.parts.take.Goals as goal

pub returns-in_err-outputs-clause-refused : goal.returns-in_err-outputs-clause-refused
returns-in_err-outputs-clause-refused c = λ (setup : SetupState) (lost : List ℕ) h _.
    let past = c.args.journal.now.past in
    let given : c.in_ok-brought.brought ≡ brought past c.args.input = c.in_ok-brought.ensures past (c.deref.ensures.value ∙ h.sent_are) in
    let stored : get_or c.args.nodes.now.items c.args.node.0 None ≡ Some (state setup c.args.node.0 past) = state_stored setup past lost _ _ _ _ c.args.node.0 h c.requires in
    let r = numbers_refused c.in_err-outputs.field-0.0 setup past c.args.node c.args.input _ given (c.in_err-outputs.ensures.ends (state setup c.args.node.0 past) stored) in
    let p = err_from_is_err_and c.from_residual-in_err-outputs.result c.from_residual-in_err-outputs.ensures.1 in
    rw (p.1, p.2) r

pub returns-clause-entry : goal.returns-clause-entry
returns-clause-entry c = λ (setup : SetupState) (lost : List ℕ) h.
    let past = c.args.journal.now.past in
    let given : c.in_ok-brought.brought ≡ brought past c.args.input = c.in_ok-brought.ensures past (c.deref.ensures.value ∙ h.sent_are) in
    let stored : get_or c.args.nodes.now.items c.args.node.0 None ≡ Some (state setup c.args.node.0 past) = state_stored setup past lost _ _ _ _ c.args.node.0 h c.requires in
    let outs : c.in_ok-outputs.outputs ≡ outs_of setup past c.args.node c.args.input =
    outs_given setup past c.args.node c.args.input _ c.in_ok-outputs.outputs given (c.in_ok-outputs.ensures.outs (state setup c.args.node.0 past) stored) in
    let after : List Output → JournalState = λ os. record c.args.journal.now { past = record { node = c.args.node; input = c.args.input; outputs = os } ∷ past } in
    c.in_ok-push.ensures.ok ∙ ap after outs

pub returns-clause-in_step : goal.returns-clause-in_step
returns-clause-in_step c = λ (setup : SetupState) (lost : List ℕ) h goes.
    let past = c.args.journal.now.past in
    let given : c.in_ok-brought.brought ≡ brought past c.args.input = c.in_ok-brought.ensures past (c.deref.ensures.value ∙ h.sent_are) in
    let stored : get_or c.args.nodes.now.items c.args.node.0 None ≡ Some (state setup c.args.node.0 past) = state_stored setup past lost _ _ _ _ c.args.node.0 h c.requires in
    let outs : c.in_ok-outputs.outputs ≡ outs_of setup past c.args.node c.args.input =
    outs_given setup past c.args.node c.args.input _ c.in_ok-outputs.outputs given (c.in_ok-outputs.ensures.outs (state setup c.args.node.0 past) stored) in
    IsInStep-next setup past lost c.args.node c.args.input _ _ _ _ _ _ _ _ h c.requires goes
    (node_given setup past c.args.node c.args.input _ _ _ given (c.in_ok-outputs.ensures.nodes (state setup c.args.node.0 past) stored))
    (c.in_ok-collect.ensures.sent ∙ ap (λ (os : List Output). c.args.messages.now.items ++ sent_by c.args.node os) (c.as_slice.ensures ∙ outs))
    (c.in_ok-collect.ensures.nodes ∙ c.arrive.ensures.nodes)
    (λ a b ha hb k. c.in_ok-collect.ensures.waits a b (subst (λ m. a.0 < m) (sym c.arrive.ensures.nodes) ha) (subst (λ m. b.0 < m) (sym c.arrive.ensures.nodes) hb) k
    ∙ ap (λ v. comes_between (length c.args.messages.now.items) c.collect.new.sent.items a b k || v)
    (c.arrive.ensures.arrived a b ha hb k ∙ ap (λ (ms : List Envelope). not (delivers c.args.input k && is_between a b (numbered ms k)) && pair_has c.args.waits.now a b k) c.deref-2.ensures.value))
    (c.in_ok-note.ensures past h.ops_are)

pub returns-clause-taken : goal.returns-clause-taken
returns-clause-taken c = λ (setup : SetupState) (lost : List ℕ) h weighed.
    let past = c.args.journal.now.past in
    let given : c.in_ok-brought.brought ≡ brought past c.args.input = c.in_ok-brought.ensures past (c.deref.ensures.value ∙ h.sent_are) in
    let stored : get_or c.args.nodes.now.items c.args.node.0 None ≡ Some (state setup c.args.node.0 past) = state_stored setup past lost _ _ _ _ c.args.node.0 h c.requires in
    let outs : c.in_ok-outputs.outputs ≡ outs_of setup past c.args.node c.args.input =
    outs_given setup past c.args.node c.args.input _ c.in_ok-outputs.outputs given (c.in_ok-outputs.ensures.outs (state setup c.args.node.0 past) stored) in
    weight_decides setup past c.args.node c.args.input _ c.in_ok-outputs.outputs c.args.before None given (c.in_ok-outputs.ensures.goes (state setup c.args.node.0 past) stored) outs weighed
    c.in_ok-after.ensures.light

pub returns-in_err-after-clause-refused : goal.returns-in_err-after-clause-refused
returns-in_err-after-clause-refused c = λ (setup : SetupState) (lost : List ℕ) h weighed.
    let past = c.args.journal.now.past in
    let given : c.in_ok-brought.brought ≡ brought past c.args.input = c.in_ok-brought.ensures past (c.deref.ensures.value ∙ h.sent_are) in
    let stored : get_or c.args.nodes.now.items c.args.node.0 None ≡ Some (state setup c.args.node.0 past) = state_stored setup past lost _ _ _ _ c.args.node.0 h c.requires in
    let outs : c.in_ok-outputs.outputs ≡ outs_of setup past c.args.node c.args.input =
    outs_given setup past c.args.node c.args.input _ c.in_ok-outputs.outputs given (c.in_ok-outputs.ensures.outs (state setup c.args.node.0 past) stored) in
    let r = weight_decides setup past c.args.node c.args.input _ c.in_ok-outputs.outputs c.args.before _ given (c.in_ok-outputs.ensures.goes (state setup c.args.node.0 past) stored) outs weighed
    c.in_err-after.ensures.err in
    let p = err_from_is_err_and c.from_residual-in_err-after.result c.from_residual-in_err-after.ensures.1 in
    rw (p.1, p.2) (inr r)

pub returns-clause-weighed : goal.returns-clause-weighed
returns-clause-weighed c = λ weighed.
    let past = c.args.journal.now.past in
    c.in_ok-after.ensures.ok ∙ weight_next past (record { node = c.args.node; input = c.args.input; outputs = c.in_ok-outputs.outputs }) c.args.before weighed
    ∙ ap (λ (j : JournalState). total_weight j.past) (sym c.in_ok-push.ensures.ok)
