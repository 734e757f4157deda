use Rattle.std.proofs.Common.{◌≡◌, length, map, sym, ap, ◌∙◌, arith}
use Rattle.store_api.specs.declared.Item.{Item}
use Rattle.backfill_items.specs.Changed.{item_of, first_or}
use Rattle.backfill_items.proofs.Fronts.{one_more, taken_all}
use Rattle.backfill_items.proofs.chunk.first_items.Goals as goal

pub loop-key-preserved : goal.loop-key-preserved
loop-key-preserved g c =
    let keys = c.args.keys.keys in
    let items = c.loop-key.items.items in
    let item : Item = record { key = c.in-Some.key; row = c.in_ok-row.row } in
    let is : item ≡ item_of (g.T.Store.rows c.args.store.now) c.in-Some.key = λ i. record { key = c.in-Some.key; row = c.in_ok-row.ensures i } in
    let more = one_more (item_of (g.T.Store.rows c.args.store.now)) keys items c.push.new.self.items c.in-Some.key c.next.new.self item
    c.loop-key.invariant.items (sym c.loop-key.invariant.rest ∙ c.in-Some.ensures.steps) c.in_ok-push.ensures.items is in
    record { items = more.pushed; rest = more.left; few = omega (arith, more.long) }

pub returns-clause-items : goal.returns-clause-items
returns-clause-items g c =
    let all = taken_all (length c.loop-key.items.items) c.args.limit c.args.keys.keys c.loop-key.invariant.few (sym c.loop-key.invariant.rest ∙ c.in-None.ensures.steps.0) in
    c.loop-key.invariant.items ∙ ap (map (item_of (g.T.Store.rows c.args.store.now))) all.0

pub returns-clause-to : goal.returns-clause-to
returns-clause-to g c =
    let all = taken_all (length c.loop-key.items.items) c.args.limit c.args.keys.keys c.loop-key.invariant.few (sym c.loop-key.invariant.rest ∙ c.in-None.ensures.steps.0) in
    c.in_ok-to.ensures.copy ∙ sym (ap (first_or c.args.to.now) all.1)
