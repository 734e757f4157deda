use Rattle.std.proofs.Common.{◌≡◌, take}
use Rattle.table_apply.specs.Conditions.{staying}
use Rattle.table_apply.proofs.contracts.staying.Given as goal

abbrev pub invariant-loop-contract : goal.invariant-loop-contract
invariant-loop-contract l = l.found.items ≡ staying (take l.contract-index l.contracts) l.removed
