-- The nodes so far are those below the index.
use Rattle.std.proofs.Common.{◌≡◌, ℕ, Some, map}
use Rattle.contract_types.specs.Setup.{nodes_below}
use Rattle.node_core.specs.Step.{begin_node}
use Rattle.world_steps.proofs.parts.begin_nodes.Given as goal

abbrev pub invariant-loop-n : goal.invariant-loop-n
invariant-loop-n l = l.nodes.items ≡ map (λ (n : ℕ). Some (begin_node l.setup n)) (nodes_below l.n)
