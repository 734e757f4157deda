use Rattle.std.proofs.Common.{◌≡◌, take}
use Rattle.table_apply.specs.Conditions.{leaving}
use Rattle.table_apply.proofs.contracts.leaving.Given as goal

abbrev pub invariant-loop-contract : goal.invariant-loop-contract
invariant-loop-contract l = l.found.items ≡ leaving (take l.contract-index l.contracts) l.removed
