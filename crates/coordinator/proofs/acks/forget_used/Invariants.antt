use Rattle.std.proofs.Common.{◌≡◌, ◌++◌, map, take, drop}
use Rattle.coordinator.specs.Proposals.{without_used}
use Rattle.coordinator.proofs.acks.forget_used.Given as goal

abbrev pub invariant-loop-kept : goal.invariant-loop-kept
invariant-loop-kept l = l.acks ≡ map (without_used l.state) (take l.kept-index l.fn.acks) ++ drop l.kept-index l.fn.acks
