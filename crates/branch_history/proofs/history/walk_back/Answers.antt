use Rattle.std.proofs.Common.{◌≤◌, ◌∙◌, length, ap, sym, subst, refl, arith}
use Rattle.std.proofs.lemmas.List.{drop_all}
use Rattle.region_map.specs.Maps.{IsCanonical, value_at}
use Rattle.branch_history.specs.Walks.{ended, walked_at}
use Rattle.branch_history.proofs.Walked.{zip_everywhere, ended_at}
use Rattle.branch_history.proofs.history.walk_back.Goals as goal

pub returns-clause-at : goal.returns-clause-at
returns-clause-at c h k =
    let past : length c.args.branches.now ≤ c.loop-branch.branch-index = omega arith in
    zip_everywhere c.loop-branch.walks c.loop-branch.walks c.in_ok-ends.ends ended h k (subst (λ m. IsCanonical m) c.walks.view_is c.walks.invariant) refl
    (c.in_ok-ends.ensures.at h k) (c.in_ok-ends.ensures.beyond h k)
    ∙ ended_at h k (value_at c.loop-branch.walks.pieces h k)
    ∙ ap (λ bs. walked_at bs h k (value_at c.loop-branch.walks.pieces h k)) (sym (drop_all c.loop-branch.branch-index c.args.branches.now past))
    ∙ c.loop-branch.invariant.at h k
