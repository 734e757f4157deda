use Rattle.std.proofs.Common.{◌≡◌, ◌+◌, drop}
use Rattle.node_core.specs.Starting.{place_of}
use Rattle.node_core.proofs.starting.place_of.Given as goal

abbrev pub invariant-loop-contract : goal.invariant-loop-contract
invariant-loop-contract l = record {
  place : l.place ≡ l.contract-index;
  rest : l.place + place_of (drop l.contract-index l.contracts) l.id ≡ place_of l.contracts l.id;
}
