use Rattle.write_dispatch.proofs.Later.{with_ack-other}
use Rattle.write_dispatch.proofs.laws.ack_is_kept_for_its_server_alone.Goals as goal

pub returns : goal.returns
returns c = with_ack-other
