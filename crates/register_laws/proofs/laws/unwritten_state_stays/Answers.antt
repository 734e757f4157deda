use Rattle.register_laws.proofs.Replies.{state_after-unwritten}
use Rattle.register_laws.proofs.laws.unwritten_state_stays.Goals as goal

pub returns : goal.returns
returns c = state_after-unwritten
