-- The pieces of a region map stand in order.
use Rattle.std.proofs.Common.{sym, subst}
use Rattle.region_map.specs.Lookups.{AreInOrder}
use Rattle.region_map.proofs.Lookups.{canonical_in_order}
use Rattle.region_map.proofs.map.RegionMap.get.Goals as goal

pub find-requires : goal.find-requires
find-requires g c = subst (λ ps. AreInOrder ps) (sym c.deref.ensures.value) (canonical_in_order _ c.self.invariant)
