use Rattle.region_map.proofs.Same.{same_maps}
use Rattle.store_api.proofs.Maps.{same_rows}
use Rattle.store_api.proofs.laws.stores_are_maps.Goals as goal

pub returns : goal.returns
returns g c = record {
  rows = same_rows (g.T.Store.rows c.args.a.now) (g.U.Store.rows c.args.b.now) c.hashes-first.ensures.sound.ordered c.hashes-second.ensures.sound.ordered c.requires.rows;
  versions = same_maps (g.T.Store.versions c.args.a.now) (g.U.Store.versions c.args.b.now) c.hashes-first.ensures.sound.canonical c.hashes-second.ensures.sound.canonical c.requires.hashes c.requires.versions;
}
