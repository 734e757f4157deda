use Rattle.std.proofs.Common.{◌≡◌, ◌+◌, ◌&&◌, ◌∷◌, cond, Some, sym, ap, ap₂, ◌∙◌, subst}
use Rattle.std.specs.Option.{is_some}
use Rattle.region_map.specs.Regions.{in_region}
use Rattle.region_map.specs.Maps.{value_at}
use Rattle.contract_types.specs.Tables.{IsBegun, first_id, first_birth}
use Rattle.contract_types.proofs.Begins.{begun_next}
use Rattle.contract_types.proofs.first.begin_branch.Goals as goal

pub returns-clause-begun : goal.returns-clause-begun
returns-clause-begun c =
    let i : c.setup_id-id.result ≡ first_id c.args.place c.args.shard.now = c.setup_id-id.ensures in
    let e : c.add_branch.new.history ≡ (first_id c.args.place c.args.shard.now, first_birth c.args.hashes c.args.shard.now) ∷ c.args.history.now =
    c.in_ok-add_branch.ensures.ok
    ∙ ap (λ id. (id, record { region = c.in_ok-copy.field-0; initial = 0; origin = c.in_ok-zero_origin.field-0; tenure = 0 }) ∷ c.args.history.now) i
    ∙ ap₂ (λ r o. (first_id c.args.place c.args.shard.now, record { region = r; initial = 0; origin = o; tenure = 0 }) ∷ c.args.history.now) c.in_ok-copy.ensures c.in_ok-zero_origin.ensures in
    subst (λ h. IsBegun c.args.hashes (c.args.place + 1) h c.set.new.self) (sym e)
    (begun_next c.args.hashes c.args.place c.args.history.now c.args.current.now c.set.new.self c.args.shard.now c.requires.begun c.in_ok-set.ensures.hashes
    (λ h k. c.in_ok-set.ensures.at h k
    ∙ ap (λ id. cond (in_region c.args.shard.now.region h k && is_some (value_at c.args.current.now.pieces h k)) (Some id) (value_at c.args.current.now.pieces h k)) i))
