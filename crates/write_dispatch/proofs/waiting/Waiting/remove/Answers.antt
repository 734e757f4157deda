use Rattle.std.proofs.Common.{◌+◌, ◌≤◌, List, length, drop, remove, ap, ◌∙◌, arith, length-drop}
use Rattle.write_dispatch.specs.declared.decided.Decided.{Decided}
use Rattle.write_dispatch.proofs.Queue.{drop-remove}
use Rattle.write_dispatch.proofs.waiting.Waiting.remove.Goals as goal

pub returns : goal.returns
returns c =
    let fits : c.self.inside.head + c.args.index ≤ length c.self.inside.items.items = omega (arith, length-drop c.self.inside.head c.self.inside.items.items, ap length c.self.view_is) in
    ap (drop c.self.inside.head) c.remove.ensures.items ∙ drop-remove c.self.inside.head c.args.index c.self.inside.items.items fits ∙ ap (λ (ds : List Decided). remove ds c.args.index) c.self.view_is
