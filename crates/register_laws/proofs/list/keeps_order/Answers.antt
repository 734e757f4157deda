use Rattle.std.proofs.Common.{◌≡◌, true, false, arith, sym, ◌∙◌, refl}
use Rattle.std.proofs.lemmas.Grind.{common_steps}
use Rattle.std.proofs.lemmas.Bool.{false≢true}
use Rattle.register_laws.specs.Lists.{in_order_from}
use Rattle.register_laws.proofs.Order.{keeps_order-from_walk, walk-from_keeps_order}
use Rattle.register_laws.proofs.list.keeps_order.Goals as goal

pub returns-then-is_ended_before : goal.returns-then-is_ended_before
returns-then-is_ended_before c =
    let ends : in_order_from c.args.spans.now 0 c.args.list.now ≡ false = grind (arith, common_steps) in
    ((λ e. absurd (false≢true e)), λ k. sym ends ∙ walk-from_keeps_order _ _ k)

pub returns : goal.returns
returns c =
    let whole : in_order_from c.args.spans.now 0 c.args.list.now ≡ true = grind (arith, common_steps) in
    ((λ _. keeps_order-from_walk _ _ whole), λ _. refl)
