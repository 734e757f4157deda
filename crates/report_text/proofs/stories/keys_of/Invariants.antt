use Rattle.std.proofs.Common.{◌≡◌, [], drop}
use Rattle.report_text.specs.Report.{keys_from}
use Rattle.report_text.proofs.stories.keys_of.Given as goal

abbrev pub invariant-loop-item : goal.invariant-loop-item
invariant-loop-item l = keys_from l.keys.keys (drop l.item-index l.items) ≡ keys_from [] l.items
