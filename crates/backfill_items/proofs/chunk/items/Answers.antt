use Rattle.std.proofs.Common.{◌≡◌, suc, ◌+◌, take, map, ap, ◌∙◌, subst, arith, IfOk}
use Rattle.store_api.specs.Rows.{newer_keys}
use Rattle.backfill_items.specs.declared.chunk.ChunkItems.{ChunkItems}
use Rattle.backfill_items.specs.Changed.{chunk_keys, item_of, with_keys}
use Rattle.backfill_items.proofs.Fronts.{IsSameCut, same_cut}
use Rattle.backfill_items.proofs.KeySets.{take-with_front, sorted_taken, sorted_newer}
use Rattle.backfill_items.proofs.chunk.items.Goals as goal

pub set_of-requires : goal.set_of-requires
set_of-requires g c =
    rw c.in_ok-found.ensures (sorted_taken (c.args.limit + 1) (newer_keys c.args.part.now c.args.ancestors.now (g.T.Store.rows c.args.store.now))
    (sorted_newer c.args.part.now c.args.ancestors.now (g.T.Store.rows c.args.store.now) c.hashes-hashes.ensures.sound.ordered))

pub returns-clause-items : goal.returns-clause-items
returns-clause-items g c =
    let rows = g.T.Store.rows c.args.store.now in
    let newer = newer_keys c.args.part.now c.args.ancestors.now rows in
    let keys = chunk_keys c.args.part.now c.args.ancestors.now rows c.args.pre.now in
    let more : c.args.limit + 1 ≡ suc c.args.limit = omega arith in
    let set : c.add_keys.new.set.keys ≡ with_keys (take (suc c.args.limit) newer) c.args.pre.now =
    c.in_ok-add_keys.ensures ∙ ap (λ ks. with_keys ks c.args.pre.now) (c.in_ok-keys.ensures ∙ c.in_ok-found.ensures ∙ ap (λ n. take n newer) more) in
    let cut : IsSameCut c.args.limit c.add_keys.new.set.keys keys c.args.part.now.to =
    same_cut c.args.limit c.add_keys.new.set.keys keys c.args.part.now.to (ap (take (suc c.args.limit)) set ∙ take-with_front (suc c.args.limit) newer c.args.pre.now) in
    subst (λ ks. IfOk c.first_items.result (λ (chunk : ChunkItems). chunk.items.items ≡ map (item_of rows) ks)) cut.front c.first_items.ensures.items

pub returns-clause-to : goal.returns-clause-to
returns-clause-to g c =
    let rows = g.T.Store.rows c.args.store.now in
    let newer = newer_keys c.args.part.now c.args.ancestors.now rows in
    let keys = chunk_keys c.args.part.now c.args.ancestors.now rows c.args.pre.now in
    let more : c.args.limit + 1 ≡ suc c.args.limit = omega arith in
    let set : c.add_keys.new.set.keys ≡ with_keys (take (suc c.args.limit) newer) c.args.pre.now =
    c.in_ok-add_keys.ensures ∙ ap (λ ks. with_keys ks c.args.pre.now) (c.in_ok-keys.ensures ∙ c.in_ok-found.ensures ∙ ap (λ n. take n newer) more) in
    let cut : IsSameCut c.args.limit c.add_keys.new.set.keys keys c.args.part.now.to =
    same_cut c.args.limit c.add_keys.new.set.keys keys c.args.part.now.to (ap (take (suc c.args.limit)) set ∙ take-with_front (suc c.args.limit) newer c.args.pre.now) in
    subst (λ end. IfOk c.first_items.result (λ (chunk : ChunkItems). chunk.to ≡ end)) cut.end c.first_items.ensures.to
