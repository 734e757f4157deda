use Rattle.coordinator.proofs.Once.{planned}
use Rattle.coordinator.proofs.laws.proposals_are_planned.Goals as goal

pub returns : goal.returns
returns c = planned
