use Rattle.path_runs.proofs.Stays.{done_stays, done_stays_in_all, done_stays_at, done_on_path}
use Rattle.path_runs.proofs.laws.answered_points_stay.Goals as goal

pub returns-clause-told : goal.returns-clause-told
returns-clause-told c = done_stays

pub returns-clause-whole : goal.returns-clause-whole
returns-clause-whole c = done_stays_in_all

pub returns-clause-tables : goal.returns-clause-tables
returns-clause-tables c = done_stays_at

pub returns-clause-on_path : goal.returns-clause-on_path
returns-clause-on_path c = done_on_path
