use Rattle.std.proofs.Common.{◌≡◌, [], drop}
use Rattle.contract_types.specs.Tables.{IsBegun, first_branches}
use Rattle.contract_types.proofs.first.first_branches.Given as goal

abbrev pub invariant-loop-place : goal.invariant-loop-place
invariant-loop-place l = record {
  rest : first_branches l.hashes l.place (drop l.place l.shards) l.history ≡ first_branches l.hashes 0 l.shards [];
  begun : IsBegun l.hashes l.place l.history l.current;
}
