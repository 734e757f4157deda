-- A step's refusal, as that of an event.
use Rattle.std.specs.Prelude.{◌≡◌}
use Rattle.region_map.specs.declared.step_refused.StepRefused.{StepRefused}
use Rattle.region_map.specs.declared.step_refused.StepRefused.TheVariants.{NumbersEnd as StepEnds, OutOfMemory as StepMemory}
use Rattle.raft_laws.specs.declared.world.RaftPushRefused.{RaftPushRefused}
use Rattle.raft_laws.specs.declared.world.RaftPushRefused.TheVariants.{NumbersEnd, OutOfMemory}

abbrev pub as_push : StepRefused → RaftPushRefused
as_push StepEnds = NumbersEnd
as_push StepMemory = OutOfMemory

abbrev pub Refuses : StepRefused → RaftPushRefused → Type 0
Refuses step push = push ≡ as_push step
