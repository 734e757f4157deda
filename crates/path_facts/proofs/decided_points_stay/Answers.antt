use Rattle.path_facts.proofs.Held.{on_versions, ordered}
use Rattle.path_facts.proofs.Staying.{decided_stays}
use Rattle.path_facts.proofs.decided_points_stay.Goals as goal

pub returns-clause-origins : goal.returns-clause-origins
returns-clause-origins g c r f p = decided_stays r f p.birth p.timestamp p.is_in p.decided

pub returns-clause-versions : goal.returns-clause-versions
returns-clause-versions g c r f p = on_versions r f p.birth p.timestamp p.is_in p.decided

pub returns-clause-one_path : goal.returns-clause-one_path
returns-clause-one_path g c r f = ordered r f
