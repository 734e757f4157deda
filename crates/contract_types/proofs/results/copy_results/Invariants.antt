use Rattle.std.proofs.Common.{◌≡◌, take}
use Rattle.contract_types.proofs.results.copy_results.Given as goal

abbrev pub invariant-loop-one : goal.invariant-loop-one
invariant-loop-one l = l.copy.items ≡ take l.one-index l.results
