use Rattle.std.proofs.Common.{◌≡◌, ◌++◌, drop}
use Rattle.node_core.specs.Saying.{Roles, says_all}
use Rattle.node_core.proofs.saying.say_all.Given as goal

abbrev pub invariant-loop-contract : goal.invariant-loop-contract
invariant-loop-contract l =
    let roles : Roles = record { asking = l.asking; executions = l.executions; waiting = l.waiting; followings = l.followings } in
    l.out ++ says_all l.me l.leader l.current l.store.versions l.view roles (drop l.contract-index l.contracts)
    ≡ l.initial.out ++ says_all l.me l.leader l.current l.store.versions l.view roles l.contracts
