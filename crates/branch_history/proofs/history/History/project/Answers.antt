use Rattle.std.proofs.Common.{◌∙◌, ap, refl}
use Rattle.region_map.specs.Maps.{value_at}
use Rattle.branch_history.specs.Walks.{aimed, walked_at}
use Rattle.branch_history.proofs.AncestorMaps.{projected_map_is}
use Rattle.branch_history.proofs.Walked.{zip_everywhere, aimed_at}
use Rattle.branch_history.proofs.history.History.project.Goals as goal

pub returns-clause-at : goal.returns-clause-at
returns-clause-at c h k =
    c.in_ok-ends.ensures.at h k
    ∙ ap (λ bs. walked_at bs h k (value_at c.in_ok-walks.walks.pieces h k)) (c.deref.ensures.value ∙ c.self.view_is)
    ∙ ap (walked_at c.args.self.now h k)
    (zip_everywhere c.args.versions.now c.args.branches.now c.in_ok-walks.walks aimed h k c.hashes-hashes.ensures.canonical refl (c.in_ok-walks.ensures.at h k) (c.in_ok-walks.ensures.beyond h k))
    ∙ aimed_at c.args.self.now h k (value_at c.args.versions.now.pieces h k) (value_at c.args.branches.now.pieces h k)

pub returns-clause-made : goal.returns-clause-made
returns-clause-made c =
    projected_map_is c.args.self.now c.args.versions.now c.args.branches.now c.in_ok-ends.ends c.hashes-count.ensures.canonical (c.in_ok-ends.ensures.hashes ∙ c.in_ok-walks.ensures.hashes) (λ h k. returns-clause-at c h k)
