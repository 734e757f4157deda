use Rattle.step_laws.proofs.Appends.{appends_each_plan}
use Rattle.step_laws.proofs.leading.leaders_append_each_plan.Goals as goal

pub returns : goal.returns
returns c = appends_each_plan
