-- How a primary keeps what waits: a pending read keeps its value apart from its entry.
use Rattle.std.specs.Prelude.{◌≡◌, ℕ, ◌==◌, Bool, true, false, ◌&&◌, nat_eq, List, [], ◌∷◌, Option, Some, None, if◌then◌else◌}
use Rattle.std.specs.Option.{option_eq}
use Rattle.register_laws.specs.declared.operation.OpId.{OpId}
use Rattle.register_laws.specs.declared.operation.Reply.TheVariants.{Was}
use Rattle.majority_read.specs.declared.waiting_read.WaitingRead.{WaitingRead}
use Rattle.majority_read.specs.Reads.{sync_of, without_read_of}
use Rattle.write_dispatch.specs.declared.decided.Decided.{Decided}
use Rattle.write_dispatch.specs.Dispatch.{DispatchState, all_below, is_of}

-- a pending operation with its reply: a read's is the value that it found
abbrev pub with_read : Decided → Option WaitingRead → Decided
with_read d None = d
with_read d (Some r) = record d { reply = Was r.value }

-- the pending operations with their replies
abbrev pub with_reads : List Decided → List WaitingRead → List Decided
with_reads [] rs = []
with_reads (d ∷ ds) [] = d ∷ ds
with_reads (d ∷ ds) (r ∷ rs) = if d.at == r.at then with_read d (Some r) ∷ with_reads ds rs else d ∷ with_reads ds (r ∷ rs)

-- each read is of a pending operation, and took its timestamp; the two lists have one order
abbrev pub are_reads_of : List Decided → List WaitingRead → Bool
are_reads_of ds [] = true
are_reads_of [] (r ∷ rs) = false
are_reads_of (d ∷ ds) (r ∷ rs) = if d.at == r.at then is_of r.op d.op && are_reads_of ds rs else are_reads_of ds (r ∷ rs)

-- what waits took its timestamp below this one, and the reads are among it
pub record IsKept (at : ℕ) (waiting : List Decided) (reads : List WaitingRead) : Type 0 where
  pub below : all_below at waiting ≡ true
  pub reads_of : are_reads_of waiting reads ≡ true

-- what waits, with its replies, and the acks
abbrev pub dispatch_with : DispatchState → List WaitingRead → DispatchState
dispatch_with d reads = record d { waiting = with_reads d.waiting reads }

-- the reads without the first of an operation, where that took this timestamp
abbrev pub without_read_at : OpId → Option ℕ → List WaitingRead → List WaitingRead
without_read_at op at reads = if option_eq nat_eq (sync_of op reads) at then without_read_of op reads else reads
