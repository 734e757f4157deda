use Rattle.std.proofs.Common.{◌≡◌, [], drop}
use Rattle.json_form.specs.Sets.{with_rising}
use Rattle.json_form.proofs.sets.set_of.Given as goal

abbrev pub invariant-loop-node : goal.invariant-loop-node
invariant-loop-node l = with_rising l.least l.set (drop l.node-index l.nodes) ≡ with_rising 0 [] l.nodes
