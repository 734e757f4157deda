use Rattle.step_laws.proofs.Applies.{applies_next}
use Rattle.step_laws.proofs.following.next_parts_are_applied.Goals as goal

pub returns : goal.returns
returns c = applies_next
