use Rattle.std.proofs.Common.{◌≡◌, suc, ◌+◌, take, ap, ◌∙◌, arith}
use Rattle.store_api.specs.Rows.{newer_keys}
use Rattle.backfill_items.proofs.Fronts.{same_cut_front}
use Rattle.backfill_items.proofs.pre.pre_items.Goals as goal

pub returns-clause-upto : goal.returns-clause-upto
returns-clause-upto g c =
    let newer = newer_keys c.args.part.now c.args.ancestors.now (g.T.Store.rows c.args.store.now) in
    let more : c.args.limit + 1 ≡ suc c.args.limit = omega arith in
    let front : c.in_ok-keys.keys.items ≡ take (suc c.args.limit) newer = c.in_ok-keys.ensures ∙ ap (λ n. take n newer) more in
    c.in_ok-upto.ensures.end ∙ (same_cut_front c.args.limit c.in_ok-keys.keys.items newer c.args.part.now.to front).end
