use Rattle.write_dispatch.proofs.Later.{decided-earlier}
use Rattle.write_dispatch.proofs.laws.earlier_timestamps_are_decided_too.Goals as goal

pub returns : goal.returns
returns c = decided-earlier
