use Rattle.std.proofs.Common.{◌≡◌, ◌++◌, drop}
use Rattle.node_core.specs.Saying.{acknowledgements_to}
use Rattle.node_core.proofs.saying.acknowledge.Given as goal

abbrev pub invariant-loop-following : goal.invariant-loop-following
invariant-loop-following l =
    l.out ++ acknowledgements_to l.contract l.holder.server l.view (drop l.following-index l.followings)
    ≡ l.initial.out ++ acknowledgements_to l.contract l.holder.server l.view l.followings
