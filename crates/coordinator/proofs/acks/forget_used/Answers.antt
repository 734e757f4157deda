use Rattle.std.proofs.Common.{◌∙◌, get_or, ap, set, arith}
use Rattle.std.proofs.lemmas.List.{get_or_default}
use Rattle.std.proofs.lemmas.List.Edits.{map_over_more}
use Rattle.coordinator.specs.declared.acks.ContractAcks.{ContractAcks}
use Rattle.coordinator.specs.Proposals.{without_used}
use Rattle.coordinator.proofs.acks.forget_used.Goals as goal

pub loop-kept-preserved : goal.loop-kept-preserved
loop-kept-preserved c =
    let kept : ContractAcks = get_or c.loop-kept.acks c.loop-kept.kept-index c.kept-item.result in
    ap (λ l. set c.loop-kept.acks c.loop-kept.kept-index (record kept { acks = l })) c.forget_used.ensures
    ∙ map_over_more (without_used c.args.state.now) c.args.acks.now c.loop-kept.acks c.loop-kept.kept-index _ c.loop-kept-test.true c.loop-kept.invariant (get_or_default c.loop-kept.acks c.loop-kept.kept-index _ _ (omega arith))
