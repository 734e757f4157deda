use Rattle.coordinator.proofs.Once.{kept, none, others}
use Rattle.coordinator.proofs.laws.an_ack_is_used_once.Goals as goal

pub returns : goal.returns
returns c = record { kept = kept; none = none; others = others }
