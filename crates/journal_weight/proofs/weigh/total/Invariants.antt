-- The sum so far is that of the items that were passed.
use Rattle.std.proofs.Common.{◌≡◌, take, sum_by}
use Rattle.journal_weight.specs.Weights.{capped}
use Rattle.journal_weight.proofs.weigh.total.Given as goal

abbrev pub invariant-loop-item : goal.invariant-loop-item
invariant-loop-item g l = l.sum ≡ capped (sum_by g.T.Weigh.weight (take l.item-index l.items))
