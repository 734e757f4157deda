use Rattle.std.proofs.Common.{◌≡◌, max, drop}
use Rattle.register_laws.specs.Lists.{last_asked}
use Rattle.register_laws.proofs.list.asked_last.Given as goal

abbrev pub invariant-loop-span : goal.invariant-loop-span
invariant-loop-span l = max l.last (last_asked (drop l.span-index l.spans) l.op) ≡ last_asked l.spans l.op
