use Rattle.std.proofs.Common.{◌≤◌, take}
use Rattle.line_io.specs.Bytes.{Appends}
use Rattle.report_text.specs.Report.{joined}
use Rattle.report_text.proofs.printing.write_lines.Given as goal

-- the lines so far were taken
abbrev pub invariant-loop-line : goal.invariant-loop-line
invariant-loop-line g l = record {
  taken : Appends (g.K.Sink.held l.initial.sink) (joined (take l.line-index l.lines)) (g.K.Sink.held l.sink);
  never_falls : g.K.Sink.faults l.initial.sink ≤ g.K.Sink.faults l.sink;
}
