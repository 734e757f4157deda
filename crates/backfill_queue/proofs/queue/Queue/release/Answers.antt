use Rattle.std.proofs.Common.{rules, ap, ◌∙◌, vec_items}
use Rattle.std.proofs.lemmas.Fn.{filter_same}
use Rattle.backfill_queue.specs.Released.{released, is_released}
use Rattle.backfill_queue.proofs.queue.Queue.release.Goals as goal

pub returns-clause-released : goal.returns-clause-released
returns-clause-released c =
    ap vec_items c.replace.ensures.value
    ∙ filter_same _ (is_released c.args.part.now c.args.hashes c.args.after) _ (λ x b f' k. search rules) _ _ c.retain.ensures.filtered
    ∙ ap (released c.args.part.now c.args.hashes c.args.after) c.self.view_is
