use Rattle.std.proofs.Common.{take, reverse}
use Rattle.report_text.specs.Known.{KeepsRequests}
use Rattle.report_text.proofs.known.requests_of.Given as goal

abbrev pub invariant-loop-entry : goal.invariant-loop-entry
invariant-loop-entry l = KeepsRequests l.requested (reverse (take l.entry-index l.entries))
