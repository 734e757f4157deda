use Rattle.branch_history.proofs.Ancestors.{ancestor_last, ancestor_only, ancestor_swaps, ancestor_point, projects_once}
use Rattle.branch_history.proofs.laws.ancestors_are_last.Goals as goal

pub returns : goal.returns
returns c = record {
  first = λ bs h k v w i. (ancestor_last bs h k v w i).first;
  second = λ bs h k v w i. (ancestor_last bs h k v w i).second;
  last = λ bs h k v w x i. (ancestor_last bs h k v w i).last x;
  only = ancestor_only;
  symmetric = ancestor_swaps;
  point = ancestor_point;
  once = projects_once;
}
