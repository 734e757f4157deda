-- The least of those to the receivers so far.
use Rattle.world_steps.specs.Pairs.{IsLeast, flows_from}
use Rattle.world_steps.proofs.flowing.first_from.Given as goal

abbrev pub invariant-loop-to : goal.invariant-loop-to
invariant-loop-to l = IsLeast (flows_from l.nodes l.only l.waits l.to l.from) l.first
