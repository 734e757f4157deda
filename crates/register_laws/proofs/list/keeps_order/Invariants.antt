use Rattle.std.proofs.Common.{◌≡◌, drop}
use Rattle.register_laws.specs.Lists.{in_order_from}
use Rattle.register_laws.proofs.list.keeps_order.Given as goal

abbrev pub invariant-loop-op : goal.invariant-loop-op
invariant-loop-op l = in_order_from l.spans l.moment (drop l.op-index l.list) ≡ in_order_from l.spans 0 l.list
