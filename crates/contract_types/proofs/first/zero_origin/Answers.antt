use Rattle.std.proofs.Common.{cond, ◌&&◌, nat_lt, Some, None, ap₂, ◌∙◌}
use Rattle.region_map.specs.Regions.{in_region}
use Rattle.contract_types.proofs.Begins.{zero_origin_is}
use Rattle.contract_types.proofs.first.zero_origin.Goals as goal

pub returns : goal.returns
returns c =
    zero_origin_is c.in_ok-origin.origin c.args.hashes c.args.region.now c.requires c.is_known.ensures c.is_known-2.ensures
    c.hashes-hashes.ensures.canonical c.in_ok-origin.ensures.hashes
    (λ h k. c.in_ok-origin.ensures.at h k ∙ ap₂ (λ r v. cond (nat_lt h c.args.hashes && in_region r h k) (Some v) None) c.in_ok-copy.ensures c.zero.ensures)
