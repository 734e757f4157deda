use Rattle.std.proofs.Common.{◌∙◌, sym, ap}
use Rattle.std.specs.List.{list_any}
use Rattle.branch_history.specs.Walks.{stands_on, origin_in}
use Rattle.branch_history.proofs.Walked.{step_at, all_stay}
use Rattle.branch_history.proofs.history.step_back.Goals as goal

pub returns-then-not-has_walks_on-clause-at : goal.returns-then-not-has_walks_on-clause-at
returns-then-not-has_walks_on-clause-at c h k =
    all_stay c.args.branch.now.0 c.args.branch.now.1.initial c.args.walks.pieces (origin_in c.args.branch.now.1 h k) h k
    (ap (λ ps. list_any (λ p. stands_on p.1 c.args.branch.now.0) ps) (sym c.pieces.ensures.value) ∙ sym c.has_walks_on.ensures ∙ c.if-not-has_walks_on.true)

pub returns-clause-at : goal.returns-clause-at
returns-clause-at c h k =
    step_at c.args.branch.now c.args.walks c.in_ok-new.new c.in_ok-here.here c.in_ok-origins.origins c.in_ok-region.region c.hashes-hashes.result h k c.hashes-hashes.ensures.canonical
    c.hashes-hashes.ensures.value c.in_ok-region.ensures c.in_ok-here.ensures.hashes
    (c.in_ok-here.ensures.at h k) (c.in_ok-origins.ensures.at h k) (c.in_ok-new.ensures.at h k) (c.in_ok-new.ensures.beyond h k)
