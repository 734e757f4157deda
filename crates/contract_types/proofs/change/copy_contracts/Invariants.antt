use Rattle.std.proofs.Common.{◌≡◌, take}
use Rattle.contract_types.proofs.change.copy_contracts.Given as goal

abbrev pub invariant-loop-contract : goal.invariant-loop-contract
invariant-loop-contract l = l.copy.items ≡ take l.contract-index l.contracts
