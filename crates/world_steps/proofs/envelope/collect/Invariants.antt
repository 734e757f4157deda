-- What was sent, and the messages among the outputs that are left, are what comes of all outputs; what came so far waits.
use Rattle.std.proofs.Common.{◌≡◌, ◌++◌, ◌||◌, ℕ, ◌<◌, ◌≤◌, length, drop}
use Rattle.region_map.specs.declared.id.NodeId.{NodeId}
use Rattle.runs.specs.Run.{sent_by}
use Rattle.world_steps.specs.Pairs.{pair_has, comes_between}
use Rattle.world_steps.proofs.envelope.collect.Given as goal

abbrev pub invariant-loop-output : goal.invariant-loop-output
invariant-loop-output l =
    (l.sent.items ++ sent_by l.from (drop l.output-index l.outputs) ≡ l.fn.sent.items ++ sent_by l.fn.from l.fn.outputs)
    × (length l.fn.sent.items ≤ length l.sent.items)
    × (l.waits.nodes ≡ l.fn.waits.nodes)
    × ((a b : NodeId) → a.0 < l.fn.waits.nodes → b.0 < l.fn.waits.nodes → (n : ℕ)
    → pair_has l.waits a b n ≡ (comes_between (length l.fn.sent.items) l.sent.items a b n || pair_has l.fn.waits a b n))
