use Rattle.std.proofs.Common.{◌≡◌, drop}
use Rattle.write_dispatch.specs.Dispatch.{pending_of}
use Rattle.primary_exec.proofs.reads.least_of.Given as goal

abbrev pub invariant-loop-one : goal.invariant-loop-one
invariant-loop-one l = pending_of (drop l.one-index l.pending) l.op ≡ pending_of l.pending l.op
