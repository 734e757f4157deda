use Rattle.step_laws.proofs.Requested.{requested_dispatched, requested_refused}
use Rattle.step_laws.proofs.primaries.requests_are_taken_up_at_once.Goals as goal

pub returns-clause-dispatched : goal.returns-clause-dispatched
returns-clause-dispatched c = requested_dispatched

pub returns-clause-refused : goal.returns-clause-refused
returns-clause-refused c = requested_refused
