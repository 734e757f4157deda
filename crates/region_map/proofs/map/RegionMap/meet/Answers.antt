use Rattle.std.proofs.Common.{subst}
use Rattle.region_map.specs.Maps.{IsCanonical}
use Rattle.region_map.proofs.Calls.{meet_at}
use Rattle.region_map.proofs.map.RegionMap.meet.Goals as goal

pub returns-clause-at : goal.returns-clause-at
returns-clause-at g c h k =
    meet_at c.args.self.now c.args.other.now c.in_ok-new.new h k (subst (λ m. IsCanonical m) c.self.view_is c.self.invariant)
    (c.in_ok-new.ensures.at h k) (c.in_ok-new.ensures.beyond h k)
