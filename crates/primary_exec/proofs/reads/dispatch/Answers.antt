use Rattle.std.proofs.Common.{◌+◌, List, Some, None, subst, sym, ap, ◌∙◌}
use Rattle.register_laws.specs.declared.operation.Reply.TheVariants.{Was}
use Rattle.majority_read.specs.declared.waiting_read.WaitingRead.{WaitingRead}
use Rattle.write_dispatch.specs.Dispatch.{DispatchState, with_pending}
use Rattle.primary_exec.specs.Reads.{IsKept, dispatch_with}
use Rattle.primary_exec.proofs.Values.{dispatched, dispatched_read, kept-next, reads_below}
use Rattle.primary_exec.proofs.reads.dispatch.Goals as goal

pub returns-in_err-dispatch-in-Read-Was-clause-kept : goal.returns-in_err-dispatch-in-Read-Was-clause-kept
returns-in_err-dispatch-in-Read-Was-clause-kept c =
    subst (λ (p : DispatchState). IsKept (c.args.at + 1) p.waiting c.args.reads.now) (sym c.in_err-dispatch-in-Read-Was.ensures.err) (kept-next c.args.at c.args.pending.now.waiting c.args.reads.now c.requires)

pub ask-requires : goal.ask-requires
ask-requires c = reads_below c.args.at c.args.pending.now.waiting c.args.reads.now c.requires.below c.requires.reads_of

pub returns-in_err-ask-in-Read-Was-clause-kept : goal.returns-in_err-ask-in-Read-Was-clause-kept
returns-in_err-ask-in-Read-Was-clause-kept c =
    let done = dispatched c.args.at c.args.pending.now c.dispatch.new.self c.args.reads.now c.args.op (Was None) c.requires c.in_ok-dispatch-in-Read-Was.ensures.ok in
    subst (λ (rs : List WaitingRead). IsKept (c.args.at + 1) c.dispatch.new.self.waiting rs) (sym c.in_err-ask-in-Read-Was.ensures.err) done.kept

pub returns-in_err-dispatch-in_default-clause-kept : goal.returns-in_err-dispatch-in_default-clause-kept
returns-in_err-dispatch-in_default-clause-kept c =
    subst (λ (p : DispatchState). IsKept (c.args.at + 1) p.waiting c.args.reads.now) (sym c.in_err-dispatch-in_default.ensures.err) (kept-next c.args.at c.args.pending.now.waiting c.args.reads.now c.requires)

pub returns-in_ok-ask-in-Read-Was-clause-pending : goal.returns-in_ok-ask-in-Read-Was-clause-pending
returns-in_ok-ask-in-Read-Was-clause-pending c =
    let done = dispatched_read c.args.at c.args.pending.now c.dispatch.new.self c.args.reads.now c.ask.new.self c.args.op c.in-Read-Was.value c.requires c.in_ok-dispatch-in-Read-Was.ensures.ok c.in_ok-ask-in-Read-Was.ensures.ok in
    done.shown ∙ ap (with_pending (dispatch_with c.args.pending.now c.args.reads.now) (Some c.args.op) c.args.at) (sym c.in-Read-Was.is-1)

pub returns-in_ok-ask-in-Read-Was-clause-kept : goal.returns-in_ok-ask-in-Read-Was-clause-kept
returns-in_ok-ask-in-Read-Was-clause-kept c =
    (dispatched_read c.args.at c.args.pending.now c.dispatch.new.self c.args.reads.now c.ask.new.self c.args.op c.in-Read-Was.value c.requires c.in_ok-dispatch-in-Read-Was.ensures.ok c.in_ok-ask-in-Read-Was.ensures.ok).kept

pub returns-in_ok-dispatch-in_default-clause-pending : goal.returns-in_ok-dispatch-in_default-clause-pending
returns-in_ok-dispatch-in_default-clause-pending c =
    (dispatched c.args.at c.args.pending.now c.dispatch-in_default.new.self c.args.reads.now c.args.op c.args.reply c.requires c.in_ok-dispatch-in_default.ensures.ok).shown

pub returns-in_ok-dispatch-in_default-clause-kept : goal.returns-in_ok-dispatch-in_default-clause-kept
returns-in_ok-dispatch-in_default-clause-kept c =
    (dispatched c.args.at c.args.pending.now c.dispatch-in_default.new.self c.args.reads.now c.args.op c.args.reply c.requires c.in_ok-dispatch-in_default.ensures.ok).kept
