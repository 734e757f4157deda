use Rattle.std.proofs.Common.{◌++◌, ap, ◌∙◌}
use Rattle.primary_exec.specs.Execution.{Execution, give_up_outs}
use Rattle.primary_exec.proofs.Sound.{IsSound-below}
use Rattle.primary_exec.proofs.primary.Primary.give_up.Goals as goal

pub invariant_of-self : goal.invariant_of-self
invariant_of-self c = (IsSound-below _ _ _ _ c.self.invariant.0 c.answer_given_up.ensures.below, c.answer_given_up.ensures.reads)

pub invariant_of-self-2 : goal.invariant_of-self-2
invariant_of-self-2 c = (IsSound-below _ _ _ _ c.self.invariant.0 c.answer_given_up.ensures.below, c.answer_given_up.ensures.reads)

pub returns-clause-out : goal.returns-clause-out
returns-clause-out c = c.in_ok-answer_given_up.ensures.out ∙ ap (λ (x : Execution). c.args.out.now ++ give_up_outs x c.args.op) c.self.view_is
