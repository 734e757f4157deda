-- The least of those from the senders so far.
use Rattle.world_steps.specs.Pairs.{IsLeast, flows_in}
use Rattle.world_steps.proofs.flowing.first_in.Given as goal

abbrev pub invariant-loop-from : goal.invariant-loop-from
invariant-loop-from l = IsLeast (flows_in l.nodes l.only l.waits l.from) l.first
