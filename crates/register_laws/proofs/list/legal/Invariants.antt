use Rattle.std.proofs.Common.{◌↔◌, drop}
use Rattle.std.specs.Option.{option_copied}
use Rattle.register_laws.specs.Lists.{IsLegalFrom, IsLegal}
use Rattle.register_laws.proofs.list.legal.Given as goal

abbrev pub invariant-loop-told : goal.invariant-loop-told
invariant-loop-told l = IsLegalFrom (option_copied l.state) (drop l.told-index l.list) ↔ IsLegal l.list
