use Rattle.primary_exec.proofs.Sound.{IsSound-below}
use Rattle.primary_exec.proofs.primary.Primary.decide.Goals as goal

pub invariant_of-self : goal.invariant_of-self
invariant_of-self c = (IsSound-below _ _ _ _ c.self.invariant.0 c.answer_decided.ensures.below, c.answer_decided.ensures.reads)

pub invariant_of-self-2 : goal.invariant_of-self-2
invariant_of-self-2 c = (IsSound-below _ _ _ _ c.self.invariant.0 c.answer_decided.ensures.below, c.answer_decided.ensures.reads)
