use Rattle.contract_plan.proofs.Due.{rests, proposes}
use Rattle.contract_plan.proofs.laws.plans_rest_on_an_ack.Goals as goal

pub returns : goal.returns
returns c = record { rests = rests; proposes = proposes }
