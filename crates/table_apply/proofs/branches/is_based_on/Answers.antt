use Rattle.std.proofs.Common.{◌≡◌, cond, None, ap, ap₂, ◌∙◌, arith}
use Rattle.region_map.specs.Regions.{in_region}
use Rattle.table_apply.specs.Conditions.{same_pieces}
use Rattle.table_apply.proofs.Based.{based_decides}
use Rattle.table_apply.proofs.branches.is_based_on.Goals as goal

pub returns : goal.returns
returns c =
    let same : c.args.based_on.now.hashes ≡ c.args.state.now.config.hashes =
    omega (arith, c.hashes.ensures.value, c.hashes-hashes.ensures.value, c.current-current.ensures.hashes) in
    based_decides c.in_ok-here.here c.args.based_on.now c.args.state.now.config.hashes c.args.state.now.history c.args.region.now c.same_pieces.result
    c.hashes-hashes-2.ensures.canonical c.hashes.ensures.canonical
    (c.in_ok-here.ensures.hashes ∙ c.current-current.ensures.hashes) same
    (λ h k l. c.in_ok-here.ensures.at h k ∙ ap (λ o. cond (in_region c.args.region.now h k) o None) (c.current-current.ensures.at h k l))
    (c.same_pieces.ensures ∙ ap₂ same_pieces c.pieces.ensures.value c.pieces-2.ensures.value)
