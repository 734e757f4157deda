use Rattle.std.proofs.Common.{◌≡◌, ◌++◌, drop, length}
use Rattle.node_core.specs.Step.{askings_from}
use Rattle.node_core.proofs.restarting.begin_askings.Given as goal

abbrev pub invariant-loop-contract : goal.invariant-loop-contract
invariant-loop-contract l =
    l.askings.items ++ askings_from l.me l.life (length l.askings.items) (drop l.contract-index l.contracts) ≡ askings_from l.me l.life 0 l.contracts
