use Rattle.std.proofs.Common.{◌≡◌, ◌||◌, ℕ, drop}
use Rattle.std.specs.Ordering.{nat_cmp}
use Rattle.std.specs.BTreeSet.{contains}
use Rattle.journal_story.specs.Done.{op_of}
use Rattle.report_text.specs.Report.{is_down}
use Rattle.report_text.proofs.known.numbers_of.Given as goal

-- with the operations that are left, it comes to all
abbrev pub invariant-loop-op : goal.invariant-loop-op
invariant-loop-op l =
    (n : ℕ) → (contains nat_cmp l.numbers n || is_down (drop l.op-index l.ops) (op_of n)) ≡ is_down l.ops (op_of n)
