use Rattle.std.proofs.Common.{◌≡◌, ◌++◌, map, take}
use Rattle.table_apply.specs.Effects.{placed}
use Rattle.table_apply.proofs.contracts.add_placed.Given as goal

abbrev pub invariant-loop-contract : goal.invariant-loop-contract
invariant-loop-contract l = l.contracts.items ≡ l.fn.contracts.items ++ map (placed l.removed l.index) (take l.contract-index l.added)
