use Rattle.region_map.proofs.Same.{same_maps}
use Rattle.region_map.proofs.map.same_maps.Goals as goal

pub returns : goal.returns
returns g c = same_maps c.args.a.now c.args.b.now c.hashes-first.ensures.canonical c.hashes-second.ensures.canonical c.requires.hashes c.requires.values
