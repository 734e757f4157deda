use Rattle.std.proofs.Common.{◌++◌, append_assoc, append-nil, sym, ap, ◌∙◌, List}
use Rattle.exec_types.specs.declared.output.Output.{Output}
use Rattle.write_dispatch.specs.Dispatch.{DispatchState}
use Rattle.primary_exec.specs.Execution.{answers, answers_under}
use Rattle.primary_exec.specs.Reads.{with_reads}
use Rattle.primary_exec.proofs.Values.{answered, undecided}
use Rattle.primary_exec.proofs.answers.answer_decided.Goals as goal

pub loop-done-preserved : goal.loop-done-preserved
loop-done-preserved c =
    let inv = c.loop-done.invariant in
    let done = c.with_its_read-done in
    let t = answered c.args.pending.now.acks c.args.contract.now c.args.me.0 c.args.branch c.loop-done.pending c.take_decided.new.self c.loop-done.reads c.in-Some.done done.result done.new.reads
    inv.0 c.in-Some.ensures.first c.take_decided.ensures.rest done.ensures.done done.ensures.reads inv.4 inv.5 in
    let said = answers c.args.branch done.result done.result.op in
    let rest = answers_under c.args.pending.now.acks c.args.contract.now c.args.me.0 c.args.branch (with_reads c.take_decided.new.self.waiting done.new.reads) in (
      ap (λ (p : DispatchState). p.acks) c.take_decided.ensures.rest ∙ inv.0,
      t.rest ∙ inv.1,
      ap (λ (o : List Output). o ++ rest) c.in_ok-answer.ensures ∙ append_assoc c.loop-done.out said rest ∙ ap (λ (l : List Output). c.loop-done.out ++ l) (sym t.said) ∙ inv.2,
      λ at h. t.below at (inv.3 at h),
      t.rises,
      t.kept,
    )

pub returns-in_err-answer-clause-reads : goal.returns-in_err-answer-clause-reads
returns-in_err-answer-clause-reads c =
    let inv = c.loop-done.invariant in
    let done = c.with_its_read-done in
    (answered c.args.pending.now.acks c.args.contract.now c.args.me.0 c.args.branch c.loop-done.pending c.take_decided.new.self c.loop-done.reads c.in-Some.done done.result done.new.reads
    inv.0 c.in-Some.ensures.first c.take_decided.ensures.rest done.ensures.done done.ensures.reads inv.4 inv.5).kept

pub returns-clause-pending : goal.returns-clause-pending
returns-clause-pending c =
    let inv = c.loop-done.invariant in
    let t = undecided c.args.pending.now.acks c.args.contract.now c.args.me.0 c.args.branch c.loop-done.pending c.take_decided.new.self c.loop-done.reads inv.0 c.in_default.ensures.first c.take_decided.ensures.rest inv.4 inv.5 in
    let waiting' = t.rest ∙ inv.1 in
    let acks' = ap (λ (p : DispatchState). p.acks) c.take_decided.ensures.rest ∙ inv.0 in
    λ i. record { waiting = waiting' i; acks = acks' i }

pub returns-clause-out : goal.returns-clause-out
returns-clause-out c =
    let inv = c.loop-done.invariant in
    let t = undecided c.args.pending.now.acks c.args.contract.now c.args.me.0 c.args.branch c.loop-done.pending c.take_decided.new.self c.loop-done.reads inv.0 c.in_default.ensures.first c.take_decided.ensures.rest inv.4 inv.5 in
    sym (ap (λ (l : List Output). c.loop-done.out ++ l) t.said ∙ append-nil c.loop-done.out) ∙ inv.2
