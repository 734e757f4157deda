use Rattle.write_dispatch.proofs.Later.{counted-later}
use Rattle.write_dispatch.proofs.laws.later_ack_takes_no_server_back.Goals as goal

pub returns : goal.returns
returns c = counted-later
