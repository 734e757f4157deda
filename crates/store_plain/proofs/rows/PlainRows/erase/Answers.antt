use Rattle.std.proofs.Common.{rules, not, ap, ◌∙◌}
use Rattle.std.proofs.lemmas.Map.Made.{filter_same_pairs}
use Rattle.store_api.specs.Rows.{has_key, rows_outside}
use Rattle.store_plain.proofs.rows.PlainRows.erase.Goals as goal

pub returns : goal.returns
returns c =
    filter_same_pairs _ (λ e. not (has_key c.args.part.now c.args.hashes e.0)) _ (λ k v b w f' t. search rules) _ _ c.retain.ensures.filtered
    ∙ ap (rows_outside c.args.part.now c.args.hashes) c.self.view_is
