use Rattle.region_map.proofs.Majorities.{majorities_meet}
use Rattle.region_map.proofs.node_set.majorities_meet.Goals as goal

pub returns : goal.returns
returns c a b of h i = majorities_meet a b of h i
