use Rattle.version_runs.proofs.TracedRuns.{stored, followed, carried, in_session, logged}
use Rattle.version_runs.proofs.laws.versions_in_messages_of_runs.Goals as goal

pub returns-clause-stores : goal.returns-clause-stores
returns-clause-stores c = stored

pub returns-clause-followings : goal.returns-clause-followings
returns-clause-followings c = followed

pub returns-clause-messages : goal.returns-clause-messages
returns-clause-messages c = carried

pub returns-clause-sessions : goal.returns-clause-sessions
returns-clause-sessions c = in_session

pub returns-clause-logs : goal.returns-clause-logs
returns-clause-logs c = logged
