use Rattle.contract_plan.proofs.Due.{due_tenure, due_new, due_applied}
use Rattle.contract_plan.proofs.laws.plans_are_due.Goals as goal

pub returns : goal.returns
returns c = record {
  tenure = λ t c acks branch region tenure maker based_on origin m f. due_tenure t c acks branch region tenure maker based_on origin f m;
  new = due_new;
  applied = λ t c acks index branch region tenure maker based_on origin m f. due_applied t c acks branch region tenure maker based_on origin f index m;
}
