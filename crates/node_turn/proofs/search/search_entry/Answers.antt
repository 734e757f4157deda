-- One output more is tried, and the rest is left.
use Rattle.std.proofs.Common.{◌≡◌, ◌+◌, ◌∷◌, List, drop, length, Ok, sym, ap, ◌∙◌}
use Rattle.std.proofs.lemmas.List.{drop_more}
use Rattle.runs.specs.exec_types.declared.output.Output.{Output}
use Rattle.runs.specs.Run.{sent_by}
use Rattle.node_turn.specs.Search.{search, goes_on}
use Rattle.node_turn.proofs.search.search_entry.Goals as goal

pub loop-output-preserved : goal.loop-output-preserved
loop-output-preserved c =
    let from = c.args.entry.now.node in
    let items = c.as_slice-output-items.result.now in
    let i = c.loop-output.output-index in
    let rest : List Output = drop (i + 1) items in
    let left : drop i items ≡ c.output-item.result ∷ rest =
    drop_more items i c.output-item.result c.loop-output-test.true ∙ ap (λ (o : Output). o ∷ rest) (sym c.output-item.is) in (
      sym (ap (λ f. goes_on f (search c.args.chance.now c.args.node c.args.taken (sent_by from rest))) c.in-Passed.is)
          ∙ c.in_ok-copy.ensures.found from rest
          ∙ ap (λ (os : List Output). search c.args.chance.now c.args.node c.args.taken (sent_by from os) c.loop-output.next) (sym left)
          ∙ c.loop-output.invariant.0,
      c.try_output.ensures.counted from rest c.in-Passed.after (c.in_ok-copy.was ∙ ap Ok c.in-Passed.is)
          ∙ ap (λ (os : List Output). c.loop-output.next + length (sent_by from os)) (sym left)
          ∙ c.loop-output.invariant.1,
    )
