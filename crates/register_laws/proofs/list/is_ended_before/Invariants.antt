use Rattle.std.proofs.Common.{◌≡◌, drop}
use Rattle.register_laws.specs.Lists.{ended_before}
use Rattle.register_laws.proofs.list.is_ended_before.Given as goal

abbrev pub invariant-loop-span : goal.invariant-loop-span
invariant-loop-span l = ended_before (drop l.span-index l.spans) l.op l.moment ≡ ended_before l.spans l.op l.moment
