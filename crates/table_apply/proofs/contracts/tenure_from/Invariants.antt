use Rattle.std.proofs.Common.{◌≡◌, drop}
use Rattle.table_apply.specs.Effects.{tenure_from}
use Rattle.table_apply.proofs.contracts.tenure_from.Given as goal

abbrev pub invariant-loop-old : goal.invariant-loop-old
invariant-loop-old l = tenure_from (drop l.old-index l.removed) l.index l.contract ≡ tenure_from l.removed l.index l.contract
