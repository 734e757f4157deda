use Rattle.std.proofs.Common.{◌≡◌, drop}
use Rattle.branch_history.specs.Histories.{knows_origins}
use Rattle.branch_history.proofs.history.are_known.Given as goal

abbrev pub invariant-loop-piece : goal.invariant-loop-piece
invariant-loop-piece l = knows_origins l.branches (drop l.piece-index l.versions.pieces) ≡ knows_origins l.branches l.versions.pieces
