use Rattle.std.proofs.Common.{rules, not, filter, ap, ◌∙◌}
use Rattle.std.proofs.lemmas.Fn.{filter_same}
use Rattle.coordinator.specs.Proposals.{is_used}
use Rattle.coordinator.proofs.server_acks.ServerAcks.forget_used.Goals as goal

pub returns : goal.returns
returns c =
    filter_same _ (λ a. not (is_used c.args.state.now c.args.contract.now a)) _ (λ x b f' k. search rules) _ _ c.retain.ensures.filtered
    ∙ ap (filter (λ a. not (is_used c.args.state.now c.args.contract.now a))) c.self.view_is
