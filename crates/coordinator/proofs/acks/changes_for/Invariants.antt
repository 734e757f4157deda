use Rattle.std.proofs.Common.{◌≡◌, ◌++◌, drop}
use Rattle.coordinator.specs.Proposals.{changes_for}
use Rattle.coordinator.proofs.acks.changes_for.Given as goal

abbrev pub invariant-loop-contract : goal.invariant-loop-contract
invariant-loop-contract l = l.changes.items ++ changes_for l.acks l.state (drop l.contract-index l.contracts) ≡ changes_for l.acks l.state l.contracts
