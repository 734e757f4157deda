use Rattle.std.proofs.Common.{◌≡◌, drop}
use Rattle.std.specs.List.{list_any}
use Rattle.branch_history.specs.Walks.{stands_on}
use Rattle.branch_history.proofs.history.has_walks_on.Given as goal

abbrev pub invariant-loop-piece : goal.invariant-loop-piece
invariant-loop-piece l = list_any (λ p. stands_on p.1 l.id) (drop l.piece-index l.pieces) ≡ list_any (λ p. stands_on p.1 l.id) l.pieces
