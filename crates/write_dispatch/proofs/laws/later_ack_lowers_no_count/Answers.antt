use Rattle.write_dispatch.proofs.Later.{count-later}
use Rattle.write_dispatch.proofs.laws.later_ack_lowers_no_count.Goals as goal

pub returns : goal.returns
returns c = count-later
