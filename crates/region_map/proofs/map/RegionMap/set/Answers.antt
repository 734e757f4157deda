use Rattle.region_map.specs.Calls.{overlaid}
use Rattle.region_map.proofs.Calls.{set_at}
use Rattle.region_map.proofs.Made.{set_is}
use Rattle.region_map.proofs.map.RegionMap.set.Goals as goal

pub returns-clause-at : goal.returns-clause-at
returns-clause-at g c h k =
    set_at c.args.self.now c.in_ok-new.new c.in_ok-other.other c.args.value c.args.part.now c.in_ok-copy.field-0 c.hashes.result h k c.hashes.ensures.canonical c.hashes.ensures.value c.in_ok-copy.ensures
    (c.in_ok-other.ensures.at h k) (c.in_ok-new.ensures.at h k) (c.in_ok-new.ensures.beyond h k)

pub returns-clause-made : goal.returns-clause-made
returns-clause-made g c =
    set_is g.V.MapValue.same g.met.V.MapValue.decides c.args.part.now c.args.value overlaid c.args.self.now c.in_ok-other.other c.in_ok-new.new c.hashes.ensures.canonical.some_hash
    c.in_ok-new.ensures.made (λ h k. returns-clause-at g c h k)
