use Rattle.write_dispatch.proofs.Later.{decided-later}
use Rattle.write_dispatch.proofs.laws.decided_stays_decided.Goals as goal

pub returns : goal.returns
returns c = decided-later
