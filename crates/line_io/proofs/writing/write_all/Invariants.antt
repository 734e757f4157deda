use Rattle.std.proofs.Common.{◌≤◌, ◌-◌, length, take}
use Rattle.line_io.specs.Bytes.{Appends}
use Rattle.line_io.proofs.writing.write_all.Given as goal

-- the front of the piece was taken
abbrev pub invariant-loop-at : goal.invariant-loop-at
invariant-loop-at g l = record {
  within : l.at ≤ length l.piece;
  taken : Appends (g.K.Sink.held l.initial.sink) (take l.at l.piece) (g.K.Sink.held l.sink);
  never_falls : g.K.Sink.faults l.initial.sink ≤ g.K.Sink.faults l.sink;
}

abbrev pub decreases-loop-at : goal.decreases-loop-at
decreases-loop-at g l = length l.piece - l.at
