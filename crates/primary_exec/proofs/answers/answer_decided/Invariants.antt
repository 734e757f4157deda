use Rattle.std.proofs.Common.{◌≡◌, ℕ, true, ◌++◌, length}
use Rattle.write_dispatch.specs.Dispatch.{all_below, is_rising}
use Rattle.primary_exec.specs.Execution.{answers_under, undecided_under}
use Rattle.primary_exec.specs.Reads.{with_reads, are_reads_of}
use Rattle.primary_exec.proofs.answers.answer_decided.Given as goal

abbrev pub invariant-loop-done : goal.invariant-loop-done
invariant-loop-done l =
    (l.pending.acks ≡ l.fn.pending.acks)
    × (undecided_under l.fn.pending.acks l.contract l.me.0 (with_reads l.pending.waiting l.reads) ≡ undecided_under l.fn.pending.acks l.contract l.me.0 (with_reads l.fn.pending.waiting l.fn.reads))
    × (l.out ++ answers_under l.fn.pending.acks l.contract l.me.0 l.branch (with_reads l.pending.waiting l.reads) ≡ l.fn.out ++ answers_under l.fn.pending.acks l.contract l.me.0 l.branch (with_reads l.fn.pending.waiting l.fn.reads))
    × ((at : ℕ) → all_below at l.fn.pending.waiting ≡ true → all_below at l.pending.waiting ≡ true)
    × (is_rising l.pending.waiting ≡ true)
    × (are_reads_of l.pending.waiting l.reads ≡ true)

abbrev pub decreases-loop-done : goal.decreases-loop-done
decreases-loop-done l = length l.pending.waiting
