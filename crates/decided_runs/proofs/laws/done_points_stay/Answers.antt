use Rattle.decided_runs.proofs.Staying.{done_goes_on, done_goes_on_in_all, done_goes_on_at, done_on_current}
use Rattle.decided_runs.proofs.laws.done_points_stay.Goals as goal

pub returns-clause-told : goal.returns-clause-told
returns-clause-told c = done_goes_on

pub returns-clause-whole : goal.returns-clause-whole
returns-clause-whole c = done_goes_on_in_all

pub returns-clause-tables : goal.returns-clause-tables
returns-clause-tables c = done_goes_on_at

pub returns-clause-on_path : goal.returns-clause-on_path
returns-clause-on_path c = done_on_current
