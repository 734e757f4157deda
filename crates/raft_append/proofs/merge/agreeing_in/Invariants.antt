use Rattle.std.proofs.Common.{◌≡◌, ◌==◌, ◌+◌, ◌-◌, ◌≤◌, length, drop}
use Rattle.std.specs.List.{common_prefix_len}
use Rattle.raft_append.proofs.merge.agreeing_in.Given as goal

abbrev pub invariant-loop-n : goal.invariant-loop-n
invariant-loop-n g l =
    record {
      own : l.n ≤ length l.own;
      new : l.n ≤ length l.new;
      same : l.n + common_prefix_len (λ x y. x.term == y.term) (drop l.n l.own) (drop l.n l.new) ≡ common_prefix_len (λ x y. x.term == y.term) l.own l.new;
    }

abbrev pub decreases-loop-n : goal.decreases-loop-n
decreases-loop-n g l = length l.own - l.n
