use Rattle.std.proofs.Common.{◌≡◌, ◌++◌, drop}
use Rattle.contract_types.specs.Tables.{first_contracts}
use Rattle.contract_types.proofs.first.first_contracts.Given as goal

abbrev pub invariant-loop-place : goal.invariant-loop-place
invariant-loop-place l = l.contracts.items ++ first_contracts l.place (drop l.place l.shards) ≡ first_contracts 0 l.shards
