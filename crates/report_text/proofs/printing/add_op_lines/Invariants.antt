use Rattle.std.proofs.Common.{◌≡◌, ◌++◌, drop}
use Rattle.report_text.specs.Report.{op_lines}
use Rattle.report_text.proofs.printing.add_op_lines.Given as goal

-- with the lines of the items that are left, it comes to those of all
abbrev pub invariant-loop-item : goal.invariant-loop-item
invariant-loop-item l =
    l.lines.items ++ op_lines l.known.past l.known.down (drop l.item-index l.items) ≡ l.initial.lines.items ++ op_lines l.known.past l.known.down l.items
