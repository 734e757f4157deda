use Rattle.row_runs.proofs.StoredLaws.{has_version, stored_row, leading_row, served_row}
use Rattle.row_runs.proofs.laws.rows_of_runs.Goals as goal

pub returns-clause-versions : goal.returns-clause-versions
returns-clause-versions c = has_version

pub returns-clause-rows : goal.returns-clause-rows
returns-clause-rows c = stored_row

pub returns-clause-leading : goal.returns-clause-leading
returns-clause-leading c = leading_row

pub returns-clause-served : goal.returns-clause-served
returns-clause-served c = served_row
