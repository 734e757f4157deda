use Rattle.path_facts.proofs.Held.{lasts, counted_hold, all_held, all_held_by_second}
use Rattle.path_facts.proofs.decided_points_are_held.Goals as goal

pub returns-clause-majority : goal.returns-clause-majority
returns-clause-majority g c r f = all_held r f

pub returns-clause-ready : goal.returns-clause-ready
returns-clause-ready g c r f = all_held_by_second r f

pub returns-clause-lasts : goal.returns-clause-lasts
returns-clause-lasts g c r f p = lasts r f p.birth p.timestamp p.is_in p.decided

pub returns-clause-counted : goal.returns-clause-counted
returns-clause-counted g c r f p = counted_hold r f p.birth p.timestamp p.is_in p.decided
