use Rattle.coordinator.proofs.Lookups.{read_ack}
use Rattle.coordinator.proofs.laws.the_last_ack_is_kept.Goals as goal

pub returns : goal.returns
returns c = read_ack
