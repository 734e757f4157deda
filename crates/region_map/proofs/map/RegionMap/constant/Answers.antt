use Rattle.std.proofs.Common.{◌<◌, ◌∙◌, [], Some, None, cond, refl, ap, sym}
use Rattle.std.proofs.lemmas.Bool.{and_parts, ltb-true}
use Rattle.region_map.specs.Regions.{in_range}
use Rattle.region_map.specs.Maps.{value_at}
use Rattle.region_map.proofs.Bands.{one_canonical, nothing_in, all_in, lesser_le}
use Rattle.region_map.proofs.Calls.{push_first}
use Rattle.region_map.proofs.Made.{bands_canonical, constant_is}
use Rattle.region_map.proofs.map.RegionMap.constant.Goals as goal

pub returns-then-not-has_any-clause-at : goal.returns-then-not-has_any-clause-at
returns-then-not-has_any-clause-at g c h k =
    ap (λ ps. value_at ps h k) c.new-pieces.ensures.items
    ∙ sym (ap (λ b. cond b (Some c.args.value) None) (nothing_in c.args.domain c.args.hashes c.lesser-hash_to.result h k c.lesser-hash_to.ensures (sym c.has_any.ensures ∙ c.if-not-has_any.true)))

pub invariant_of-result-2 : goal.invariant_of-result-2
invariant_of-result-2 g c =
    let both = and_parts _ _ (sym c.has_any.ensures ∙ c.if-not-has_any.false) in
    let some : 0 < c.args.hashes = c.requires in
    one_canonical c.args.hashes c.args.domain.hash_from c.lesser-hash_to.result (record { from = c.args.domain.from; to = c.args.domain.to; value = c.args.value }) c.push.new.self.items
    (push_first _ _ _ c.in_ok-push.ensures.items c.new-pieces.ensures.items) some (ltb-true _ _ both.0)
    (lesser_le c.args.domain.hash_to c.args.hashes c.lesser-hash_to.result c.lesser-hash_to.ensures)
    (record { holds = both.1; begins = c.is_known.ensures; ends = c.is_known-2.ensures })

pub returns-clause-at : goal.returns-clause-at
returns-clause-at g c h k =
    ap (λ ps. value_at ps h k) (push_first _ _ _ c.in_ok-push.ensures.items c.new-pieces.ensures.items)
    ∙ ap (λ b. cond b (Some c.args.value) None) (all_in c.args.domain c.args.hashes c.lesser-hash_to.result h (in_range c.args.domain.from c.args.domain.to k) c.lesser-hash_to.ensures)

pub returns-then-not-has_any-clause-made : goal.returns-then-not-has_any-clause-made
returns-then-not-has_any-clause-made g c =
    constant_is g.V.MapValue.same g.met.V.MapValue.decides c.args.domain c.args.hashes c.args.value (record { hashes = c.args.hashes; pieces = c.new-pieces.result.items })
    (bands_canonical c.args.hashes c.args.hashes [] c.new-pieces.result.items refl c.requires tt c.new-pieces.ensures.items)
    refl (λ h k. returns-then-not-has_any-clause-at g c h k)

pub returns-clause-made : goal.returns-clause-made
returns-clause-made g c =
    constant_is g.V.MapValue.same g.met.V.MapValue.decides c.args.domain c.args.hashes c.args.value (record { hashes = c.args.hashes; pieces = c.push.new.self.items })
    (invariant_of-result-2 g c) refl (λ h k. returns-clause-at g c h k)
