use Rattle.std.proofs.Common.{cond, ◌∙◌, sym, ap}
use Rattle.region_map.proofs.Same.{same_maps}
use Rattle.store_api.specs.Rows.{with_item}
use Rattle.store_api.specs.Versions.{comes_to}
use Rattle.store_api.proofs.laws.effects_come_last.Goals as goal

pub returns : goal.returns
returns g c = record {
  versions = same_maps (g.T.Store.versions c.args.with.now) (g.T.Store.versions c.args.without.now) c.hashes-same.ensures.sound.canonical c.hashes-hashes.ensures.sound.canonical
      (c.requires.with.hashes_are ∙ sym c.requires.without.hashes_are) (λ h k. c.requires.with.versions_are h k ∙ sym (c.requires.without.versions_are h k));
  rows = c.requires.with.rows_are
      ∙ ap (λ r. cond (comes_to c.args.part.now c.args.branch c.args.at (g.T.Store.versions c.args.old.now) c.args.effect.now.key) (with_item r c.args.effect.now) r) (sym c.requires.without.rows_are);
}
