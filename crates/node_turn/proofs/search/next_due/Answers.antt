-- The entry that is searched stands behind those that were passed.
use Rattle.std.proofs.Common.{◌≡◌, ◌≤◌, ◌+◌, ◌∷◌, ◌++◌, [], take, sym, ap, ◌∙◌, arith, ◌^◌, length, reverse}
use Rattle.std.proofs.lemmas.List.{take_more}
use Rattle.runs.specs.node_core.declared.journal.Entry.{Entry}
use Rattle.runs.specs.Run.{sent, sent_by}
use Rattle.node_turn.specs.declared.search.Found.TheVariants.{Due}
use Rattle.node_turn.specs.Search.{search}
use Rattle.node_turn.proofs.Searches.{next_entry, due_found, due_from, placed_later, count_within, on_err}
use Rattle.node_turn.proofs.search.next_due.Goals as goal

pub returns-in-Due-clause-due : goal.returns-in-Due-clause-due
returns-in-Due-clause-due c =
    let seen = c.args.seen.now in
    let i = c.loop-index.index in
    let e = c.index-seen-index.result in
    let more : take (i + 1) seen ≡ take i seen ++ e ∷ [] =
    take_more seen i e c.loop-index-test.true ∙ ap (λ (x : Entry). take i seen ++ x ∷ []) (sym c.index-seen-index.is) in
    due_found c.args.chance.now c.args.node c.args.taken seen i c.loop-index.number e c.in-Due.copy more c.loop-index.invariant
    (sym c.in_ok-copy.ensures.found ∙ c.in-Due.is)

pub returns-in-Due-clause-goes_on : goal.returns-in-Due-clause-goes_on
returns-in-Due-clause-goes_on c =
    let e = c.index-seen-index.result in
    let here : search c.args.chance.now c.args.node c.args.taken (sent_by e.node e.outputs) c.loop-index.number ≡ Due c.in-Due.copy =
    sym c.in_ok-copy.ensures.found ∙ c.in-Due.is in
    placed_later c.args.chance.now c.args.node c.args.taken c.args.seen.now c.loop-index.index c.loop-index.number c.in-Due.copy
    (record { within = omega (arith, c.loop-index-test.true); passed = c.loop-index.invariant })
    (due_from c.args.chance.now c.args.node c.args.taken (sent_by e.node e.outputs) c.loop-index.number c.in-Due.copy here)

pub loop-index-preserved : goal.loop-index-preserved
loop-index-preserved c =
    let seen = c.args.seen.now in
    let i = c.loop-index.index in
    let e = c.index-seen-index.result in
    let more : take (i + 1) seen ≡ take i seen ++ e ∷ [] =
    take_more seen i e c.loop-index-test.true ∙ ap (λ (x : Entry). take i seen ++ x ∷ []) (sym c.index-seen-index.is) in
    next_entry c.args.chance.now c.args.node c.args.taken seen i c.loop-index.number e more c.loop-index.invariant
    ∙ sym c.in_ok-copy.ensures.found ∙ c.in-Passed.is

pub returns-in_err-copy-clause-ends : goal.returns-in_err-copy-clause-ends
returns-in_err-copy-clause-ends c =
    let seen = c.args.seen.now in
    let i = c.loop-index.index in
    let e = c.index-seen-index.result in
    let more : take (i + 1) seen ≡ take i seen ++ e ∷ [] =
    take_more seen i e c.loop-index-test.true ∙ ap (λ (x : Entry). take i seen ++ x ∷ []) (sym c.index-seen-index.is) in
    let within : c.loop-index.number + length (sent_by e.node e.outputs) ≤ 1 + length (sent (reverse seen)) =
    count_within c.args.chance.now c.args.node c.args.taken seen i c.loop-index.number e more c.loop-index.invariant in
    let ends : 2 ^ 64 ≤ c.loop-index.number + length (sent_by e.node e.outputs) = c.in_err-copy.ensures.ends in
    let past : 2 ^ 64 ≤ 1 + length (sent (reverse seen)) = omega (arith, within, ends) in
    on_err c.from_residual.result past
