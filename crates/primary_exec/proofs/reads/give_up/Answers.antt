use Rattle.std.proofs.Common.{◌≡◌, List, option_map, sym, ap, ◌∙◌, rules}
use Rattle.majority_read.specs.declared.waiting_read.WaitingRead.{WaitingRead}
use Rattle.write_dispatch.specs.declared.decided.Decided.{Decided}
use Rattle.write_dispatch.specs.Dispatch.{DispatchState, pending_of, without_op, all_below}
use Rattle.primary_exec.specs.Reads.{with_reads, are_reads_of, dispatch_with, without_read_at}
use Rattle.primary_exec.proofs.Sound.{below-without_op}
use Rattle.primary_exec.proofs.Values.{answer-with, left}
use Rattle.primary_exec.proofs.reads.give_up.Goals as goal

pub returns-in_err-counts-clause-answer : goal.returns-in_err-counts-clause-answer
returns-in_err-counts-clause-answer c =
    search rules ∙ sym (answer-with c.args.pending.now.acks c.args.contract.now c.args.me.0 c.args.op c.args.pending.now.waiting c.args.reads.now)

pub returns-clause-answer : goal.returns-clause-answer
returns-clause-answer c =
    c.in_ok-counts.ensures.answer ∙ sym (answer-with c.args.pending.now.acks c.args.contract.now c.args.me.0 c.args.op c.args.pending.now.waiting c.args.reads.now)

pub returns-clause-ok : goal.returns-clause-ok
returns-clause-ok c =
    let ds = c.args.pending.now.waiting in
    let op = c.args.op in
    let gone = left c.args.pending.now.acks c.args.contract.now c.args.me.0 op ds c.args.reads.now c.in_ok-counts.counts c.in_ok-counts.ensures.answer c.pending.ensures.rising c.requires in
    let reads : c.drop_read_at.new.reads ≡ without_read_at op (option_map (λ (d : Decided). d.at) (pending_of ds op)) c.args.reads.now = search rules in
    ap (λ (p : DispatchState). dispatch_with p c.drop_read_at.new.reads) c.in_ok-counts.ensures.ok
    ∙ ap (λ (rs : List WaitingRead). let d : DispatchState = record { waiting = with_reads (without_op ds op) rs; acks = c.args.pending.now.acks } in d) reads
    ∙ ap (λ (l : List Decided). let d : DispatchState = record { waiting = l; acks = c.args.pending.now.acks } in d) gone.shown

pub returns-clause-below : goal.returns-clause-below
returns-clause-below c =
    λ at h. ap (λ (p : DispatchState). all_below at p.waiting) c.in_ok-counts.ensures.ok ∙ below-without_op at c.args.pending.now.waiting c.args.op h

pub returns-clause-reads : goal.returns-clause-reads
returns-clause-reads c =
    let ds = c.args.pending.now.waiting in
    let op = c.args.op in
    let gone = left c.args.pending.now.acks c.args.contract.now c.args.me.0 op ds c.args.reads.now c.in_ok-counts.counts c.in_ok-counts.ensures.answer c.pending.ensures.rising c.requires in
    let reads : c.drop_read_at.new.reads ≡ without_read_at op (option_map (λ (d : Decided). d.at) (pending_of ds op)) c.args.reads.now = search rules in
    ap (λ (p : DispatchState). are_reads_of p.waiting c.drop_read_at.new.reads) c.in_ok-counts.ensures.ok ∙ ap (are_reads_of (without_op ds op)) reads ∙ gone.kept
