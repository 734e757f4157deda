-- Nothing is due in the entries so far, and the next message has that number.
use Rattle.std.proofs.Common.{◌≡◌, reverse, take}
use Rattle.runs.specs.Run.{sent}
use Rattle.node_turn.specs.declared.search.Found.TheVariants.{Passed}
use Rattle.node_turn.specs.Search.{search}
use Rattle.node_turn.proofs.search.next_due.Given as goal

abbrev pub invariant-loop-index : goal.invariant-loop-index
invariant-loop-index l = search l.chance l.node l.taken (sent (reverse (take l.index l.seen))) 1 ≡ Passed l.number
