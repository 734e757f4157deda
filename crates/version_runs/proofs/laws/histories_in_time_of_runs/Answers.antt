use Rattle.version_runs.proofs.Times.{in_time_told, in_time_there, had_then}
use Rattle.version_runs.proofs.laws.histories_in_time_of_runs.Goals as goal

pub returns-clause-told : goal.returns-clause-told
returns-clause-told c = in_time_told

pub returns-clause-tables : goal.returns-clause-tables
returns-clause-tables c = in_time_there

pub returns-clause-had : goal.returns-clause-had
returns-clause-had c = had_then
