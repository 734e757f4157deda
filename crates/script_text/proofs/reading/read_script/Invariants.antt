use Rattle.std.proofs.Common.{◌≡◌, ◌≤◌, ◌+◌, length}
use Rattle.script_text.specs.Lines.{lines, read_from, read_lines}
use Rattle.script_text.proofs.reading.read_script.Given as goal

-- the lines so far said what the text says up to them
abbrev pub invariant-loop-rest : goal.invariant-loop-rest
invariant-loop-rest l = record {
  counted : l.number + length l.rest ≤ length l.text;
  same : read_from (lines l.rest) (l.number + 1) l.reader ≡ read_lines l.text;
}

abbrev pub decreases-loop-rest : goal.decreases-loop-rest
decreases-loop-rest l = length l.rest
