use Rattle.step_laws.proofs.Waits.{none_left, order_stays, answered_at_once, dispatched_waits}
use Rattle.step_laws.proofs.primaries.what_has_a_majority_is_answered.Goals as goal

pub returns-clause-none_is_left : goal.returns-clause-none_is_left
returns-clause-none_is_left c = none_left

pub returns-clause-in_order : goal.returns-clause-in_order
returns-clause-in_order c = order_stays

pub returns-clause-done : goal.returns-clause-done
returns-clause-done c = answered_at_once

pub returns-clause-dispatched : goal.returns-clause-dispatched
returns-clause-dispatched c = dispatched_waits
