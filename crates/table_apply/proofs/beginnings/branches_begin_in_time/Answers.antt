use Rattle.table_apply.proofs.InForce.{initial_is, origin_in_time}
use Rattle.table_apply.proofs.beginnings.branches_begin_in_time.Goals as goal

pub returns : goal.returns
returns c = record { initial = initial_is; origin = origin_in_time }
