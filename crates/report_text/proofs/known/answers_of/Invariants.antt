use Rattle.std.proofs.Common.{take, reverse}
use Rattle.report_text.specs.Known.{KeepsAnswers}
use Rattle.report_text.proofs.known.answers_of.Given as goal

abbrev pub invariant-loop-entry : goal.invariant-loop-entry
invariant-loop-entry l = KeepsAnswers l.answers (reverse (take l.entry-index l.entries))
