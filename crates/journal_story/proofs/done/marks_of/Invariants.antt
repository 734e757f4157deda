use Rattle.std.proofs.Common.{take, reverse}
use Rattle.journal_story.specs.Done.{MarksAnswers}
use Rattle.journal_story.proofs.done.marks_of.Given as goal

abbrev pub invariant-loop-entry : goal.invariant-loop-entry
invariant-loop-entry l = MarksAnswers l.marks (reverse (take l.entry-index l.entries))
