use Rattle.durability_laws.proofs.HeldRuns.{done_held}
use Rattle.durability_laws.proofs.Holding.{held_lasts}
use Rattle.durability_laws.proofs.laws.done_points_are_held.Goals as goal

pub returns-clause-majority : goal.returns-clause-majority
returns-clause-majority c = done_held

pub returns-clause-lasts : goal.returns-clause-lasts
returns-clause-lasts c = held_lasts
