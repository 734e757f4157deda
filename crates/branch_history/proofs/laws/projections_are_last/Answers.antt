use Rattle.branch_history.specs.Paths.{whole}
use Rattle.branch_history.proofs.Ancestors.{ancestor_last, projects_once, projection_last, ancestors_keep_order}
use Rattle.branch_history.proofs.laws.projections_are_last.Goals as goal

pub returns : goal.returns
returns c = record {
  version = λ bs h k v id i. (ancestor_last bs h k v (whole id) i).first;
  branch = λ bs h k v id i. (ancestor_last bs h k v (whole id) i).second;
  last = projection_last;
  once = λ bs h k v id i. projects_once bs h k v (whole id) i;
  ordered = λ bs h k v w id i e. ancestors_keep_order bs h k v w (whole id) i e;
}
