use Rattle.std.proofs.Common.{◌≡◌, drop}
use Rattle.node_core.specs.Saying.{asking_ack}
use Rattle.node_core.proofs.saying.asking_ack.Given as goal

abbrev pub invariant-loop-asks : goal.invariant-loop-asks
invariant-loop-asks l = asking_ack l.contract l.current l.store.versions (drop l.asks-index l.asking) ≡ asking_ack l.contract l.current l.store.versions l.asking
