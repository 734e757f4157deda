use Rattle.std.proofs.Common.{◌≡◌, map, reverse}
use Rattle.contract_types.specs.Setup.{nodes_below}
use Rattle.step_runs.specs.runs.Latest.{longest_of}
use Rattle.journal_story.proofs.latest.longest.Given as goal

-- the longest list of the nodes so far
abbrev pub invariant-loop-node : goal.invariant-loop-node
invariant-loop-node l = map (λ r. r.now) l.longest.items ≡ longest_of (reverse l.entries) (nodes_below l.node)
