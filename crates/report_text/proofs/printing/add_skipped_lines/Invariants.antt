use Rattle.std.proofs.Common.{◌≡◌, ◌+◌, ◌++◌, map, drop}
use Rattle.report_text.specs.Report.{skipped_lines}
use Rattle.report_text.proofs.printing.add_skipped_lines.Given as goal

-- with the lines of the changes that are left, it comes to those of all
abbrev pub invariant-loop-place : goal.invariant-loop-place
invariant-loop-place l =
    l.lines.items ++ skipped_lines (l.place + 1) (map (λ r. r.now) (drop l.place l.viewed)) ≡ l.initial.lines.items ++ skipped_lines 1 (map (λ r. r.now) l.viewed)
