use Rattle.std.proofs.Common.{◌≡◌, drop}
use Rattle.coordinator.specs.Acks.{acks_under}
use Rattle.coordinator.proofs.acks.acks_under.Given as goal

abbrev pub invariant-loop-kept : goal.invariant-loop-kept
invariant-loop-kept l = acks_under (drop l.kept-index l.acks) l.contract ≡ acks_under l.acks l.contract
