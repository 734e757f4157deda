use Rattle.write_dispatch.proofs.Later.{with_ack-again}
use Rattle.write_dispatch.proofs.laws.repeated_ack_changes_nothing.Goals as goal

pub returns : goal.returns
returns c = with_ack-again
