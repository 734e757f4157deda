use Rattle.std.proofs.Common.{◌≡◌, ◌+◌, ◌++◌, drop, length}
use Rattle.node_core.specs.Step.{waitings_from}
use Rattle.node_core.proofs.restarting.begin_waitings.Given as goal

abbrev pub invariant-loop-contract : goal.invariant-loop-contract
invariant-loop-contract l =
    l.waitings.items ++ waitings_from l.me l.life (l.first + length l.waitings.items) (drop l.contract-index l.contracts) ≡ waitings_from l.me l.life l.first l.contracts
