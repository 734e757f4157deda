use Rattle.answer_runs.proofs.OnceGivenUp.{given_up_where, given_up_short}
use Rattle.answer_runs.proofs.laws.give_ups_of_runs.Goals as goal

pub returns-clause-given_up : goal.returns-clause-given_up
returns-clause-given_up c = given_up_where

pub returns-clause-short : goal.returns-clause-short
returns-clause-short c = given_up_short
