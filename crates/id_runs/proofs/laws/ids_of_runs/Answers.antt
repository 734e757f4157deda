use Rattle.id_runs.proofs.DrawnIds.{asked_one, waited_one, asked_not_waited, asked_new}
use Rattle.id_runs.proofs.laws.ids_of_runs.Goals as goal

pub returns-clause-branches : goal.returns-clause-branches
returns-clause-branches c = asked_one

pub returns-clause-joins : goal.returns-clause-joins
returns-clause-joins c = waited_one

pub returns-clause-apart : goal.returns-clause-apart
returns-clause-apart c = asked_not_waited

pub returns-clause-new : goal.returns-clause-new
returns-clause-new c = asked_new
