use Rattle.std.proofs.Common.{◌≡◌, ◌++◌, map}
use Rattle.report_text.specs.Stories.{line_by}
use Rattle.report_text.proofs.printing.add_story_lines.Given as goal

-- with the lines of the keys that are left, it comes to those of all
abbrev pub invariant-loop-key : goal.invariant-loop-key
invariant-loop-key l =
    l.lines.items ++ map (line_by l.texts) l.key-iterator ≡ l.initial.lines.items ++ map (line_by l.texts) l.keys.keys
