use Rattle.std.proofs.Common.{◌≡◌, true, subst}
use Rattle.region_map.specs.Equal.{same_id}
use Rattle.branch_history.proofs.PathLaws.{id_same, id_self}
use Rattle.branch_history.proofs.laws.ids_are_their_parts.Goals as goal

pub returns : goal.returns
returns c = λ a b. (id_same a b, λ e. subst (λ x. same_id a x ≡ true) e (id_self a))
