-- The search among the outputs that are left comes to what the whole search does, and counts as far.
use Rattle.std.proofs.Common.{◌≡◌, ◌+◌, drop, length}
use Rattle.runs.specs.Run.{sent_by}
use Rattle.node_turn.specs.Search.{search}
use Rattle.node_turn.proofs.search.search_entry.Given as goal

abbrev pub invariant-loop-output : goal.invariant-loop-output
invariant-loop-output l =
    (search l.chance l.node l.taken (sent_by l.entry.node (drop l.output-index l.output-items)) l.next
    ≡ search l.chance l.node l.taken (sent_by l.entry.node l.entry.outputs) l.number)
    × (l.next + length (sent_by l.entry.node (drop l.output-index l.output-items)) ≡ l.number + length (sent_by l.entry.node l.entry.outputs))
