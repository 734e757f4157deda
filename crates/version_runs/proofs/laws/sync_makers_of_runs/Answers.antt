use Rattle.version_runs.proofs.TakenRuns.{taker_is, taken_in, taken_rise, taken_once}
use Rattle.version_runs.proofs.laws.sync_makers_of_runs.Goals as goal

pub returns-clause-node : goal.returns-clause-node
returns-clause-node c = taker_is

pub returns-clause-life : goal.returns-clause-life
returns-clause-life c = taken_in

pub returns-clause-rise : goal.returns-clause-rise
returns-clause-rise c = taken_rise

pub returns-clause-one : goal.returns-clause-one
returns-clause-one c = taken_once
