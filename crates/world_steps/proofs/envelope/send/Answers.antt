-- The message that comes is the last.
use Rattle.std.proofs.Common.{◌≡◌, ℕ, ◌+◌, ◌==◌, ◌&&◌, Some, ◌||◌, List, length, sym, ap, ◌∙◌, arith}
use Rattle.runs.specs.declared.envelope.Envelope.{Envelope}
use Rattle.world_steps.specs.Waiting.{is_between}
use Rattle.world_steps.specs.Pairs.{pair_has, comes_between}
use Rattle.world_steps.proofs.Waits.{comes_one}
use Rattle.world_steps.proofs.envelope.send.Goals as goal

pub returns-clause-waits : goal.returns-clause-waits
returns-clause-waits c = λ a b ha hb n.
    let ms = c.args.sent.now.items in
    let count : c.len.result ≡ length ms = omega (arith, c.len.ensures) in
    let old = pair_has c.args.waits.now a b n in
    c.in_ok-add.ensures.added a b ha hb n ∙ ap (λ (l : ℕ). ((l + 1 == n) && is_between a b (Some c.args.envelope)) || old) count ∙ ap (λ v. v || old) (sym (comes_one ms c.args.envelope a b n))
    ∙ ap (λ (l : List Envelope). comes_between (length ms) l a b n || old) (sym c.in_ok-push.ensures.items)
