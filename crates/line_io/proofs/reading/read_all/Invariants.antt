use Rattle.std.proofs.Common.{◌≤◌, ◌-◌, length}
use Rattle.line_io.specs.Bytes.{Gives}
use Rattle.line_io.proofs.reading.read_all.Given as goal

-- the bytes so far are what came, and no more than is taken
abbrev pub invariant-loop-bytes : goal.invariant-loop-bytes
invariant-loop-bytes g l = record {
  came : Gives (g.S.Source.left l.initial.source) l.bytes.items (g.S.Source.left l.source);
  within : length l.bytes.items ≤ l.limit;
  never_falls : g.S.Source.faults l.initial.source ≤ g.S.Source.faults l.source;
}

abbrev pub decreases-loop-bytes : goal.decreases-loop-bytes
decreases-loop-bytes g l = l.limit - length l.bytes.items
