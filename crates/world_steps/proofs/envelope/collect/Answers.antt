-- Those that came before, and those of one more output, are those that came.
use Rattle.std.proofs.Common.{◌≡◌, ◌+◌, ◌∷◌, drop, ◌<◌, ◌||◌, ◌++◌, List, length, sym, ap, ◌∙◌, subst}
use Rattle.std.proofs.lemmas.List.{drop_more}
use Rattle.exec_types.specs.declared.output.Output.{Output}
use Rattle.runs.specs.Run.{sent_by}
use Rattle.world_steps.specs.Pairs.{pair_has, comes_between}
use Rattle.world_steps.proofs.Waits.{comes_more_to, grows}
use Rattle.world_steps.proofs.envelope.collect.Goals as goal

pub loop-output-preserved : goal.loop-output-preserved
loop-output-preserved c =
    let i = c.loop-output.invariant in
    let put = c.in_ok-put_output.ensures in
    let outs = c.args.outputs.now in
    let left : drop c.loop-output.output-index outs ≡ c.output-item.result ∷ drop (c.loop-output.output-index + 1) outs =
    drop_more outs c.loop-output.output-index c.output-item.result c.loop-output-test.true ∙ ap (λ (o : Output). o ∷ drop (c.loop-output.output-index + 1) outs) (sym c.output-item.is) in
    let was = c.args.waits.now in (
      put.sent (drop (c.loop-output.output-index + 1) outs) ∙ ap (λ (os : List Output). c.loop-output.sent.items ++ sent_by c.args.from os) (sym left) ∙ i.0,
      grows c.loop-output.sent.items c.put_output.new.sent.items put.behind.0 (length c.args.sent.now.items) put.behind.1 i.1,
      put.nodes ∙ i.2,
      λ a b ha hb n.
          put.waits a b (subst (λ m. a.0 < m) (sym i.2) ha) (subst (λ m. b.0 < m) (sym i.2) hb) n
          ∙ ap (λ v. comes_between (length c.loop-output.sent.items) c.put_output.new.sent.items a b n || v) (i.3 a b ha hb n)
          ∙ comes_more_to c.loop-output.sent.items c.put_output.new.sent.items put.behind.0 (length c.args.sent.now.items) put.behind.1 i.1 a b n (pair_has was a b n),
    )
