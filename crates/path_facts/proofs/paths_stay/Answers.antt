use Rattle.path_facts.proofs.Paths.{known_stays, known_points}
use Rattle.path_facts.proofs.paths_stay.Goals as goal

pub returns-clause-path : goal.returns-clause-path
returns-clause-path g c same names w bs h y v x = known_stays same names w bs y v x h

pub returns-clause-points : goal.returns-clause-points
returns-clause-points g c same names w bs h v x = known_points same names w bs v x h
