use Rattle.primary_exec.proofs.Ready.{alone_is_ready}
use Rattle.primary_exec.proofs.laws.a_primary_that_votes_alone_is_ready_at_once.Goals as goal

pub returns : goal.returns
returns c = alone_is_ready
