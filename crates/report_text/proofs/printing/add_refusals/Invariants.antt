use Rattle.std.proofs.Common.{◌≡◌, ◌++◌, map, take}
use Rattle.report_text.specs.Report.{refusal_line}
use Rattle.report_text.proofs.printing.add_refusals.Given as goal

abbrev pub invariant-loop-refusal : goal.invariant-loop-refusal
invariant-loop-refusal l =
    l.lines.items ≡ l.initial.lines.items ++ map refusal_line (take l.refusal-index l.refused)
