use Rattle.std.proofs.Common.{◌≡◌, ◌<◌, not, length, get_or, true, [], sym, ap, ◌∙◌, subst, arith}
use Rattle.std.proofs.lemmas.Grind.{common_steps}
use Rattle.region_map.specs.Nodes.{node_id}
use Rattle.contract_types.specs.Configs.{is_bad_region}
use Rattle.contract_types.specs.Tables.{IsBegun, first_branches}
use Rattle.contract_types.proofs.Begins.{hashes_some, begun_first, shard_good, begun_kept}
use Rattle.contract_types.proofs.first.first_branches.Goals as goal

pub constant-requires : goal.constant-requires
constant-requires c = let h = hashes_some c.args.config.now c.hashes-hashes.ensures.config in omega (arith, c.hashes-hashes.ensures.value)

pub loop-place-init : goal.loop-place-init
loop-place-init c = record {
  rest = ap (λ h. first_branches c.hashes-hashes.result 0 c.shards-shards.result.now h) c.new-history.ensures;
  begun = subst (λ h. IsBegun c.hashes-hashes.result 0 h c.in_ok-current.current) (sym c.new-history.ensures)
      (begun_first c.hashes-hashes.result c.in_ok-current.current (record { node = node_id 0; life = 0; counter = 0 }) c.in_ok-current.ensures.hashes c.in_ok-current.ensures.at);
}

pub begin_branch-requires-clause-region : goal.begin_branch-requires-clause-region
begin_branch-requires-clause-region c =
    let e = c.shards-shards.ensures.value in
    let l : c.loop-place.place < length c.args.config.now.shards = omega (arith, ap length e) in
    subst (λ n. not (is_bad_region n c.index-shards-place.result.region) ≡ true) (sym c.hashes-hashes.ensures.value)
    (shard_good c.args.config.now c.loop-place.place c.index-shards-place.result c.hashes-hashes.ensures.config l
    (c.index-shards-place.is ∙ ap (λ xs. get_or xs c.loop-place.place c.index-shards-place.result) e))

pub returns-clause-kept : goal.returns-clause-kept
returns-clause-kept c =
    let d = c.hashes-hashes.ensures.value in
    let e : c.loop-place.history ≡ first_branches c.args.config.now.hashes 0 c.args.config.now.shards [] = grind (arith, common_steps) in
    begun_kept c.args.config.now c.loop-place.place c.loop-place.history c.loop-place.current c.hashes-hashes.ensures.config
    (subst (λ n. IsBegun n c.loop-place.place c.loop-place.history c.loop-place.current) d c.loop-place.invariant.begun) e
