use Rattle.std.proofs.Common.{arith, drop, ◌==◌, length-drop}
use Rattle.std.proofs.lemmas.List.Sums.{common_prefix_len-le}
use Rattle.raft_append.proofs.merge.agreeing_in.Goals as goal

pub returns-else-n-new-clause-count : goal.returns-else-n-new-clause-count
returns-else-n-new-clause-count g c =
    let short = common_prefix_len-le (λ x y. x.term == y.term) (drop c.loop-n.n c.args.own.now) (drop c.loop-n.n c.args.new.now) in
    omega (arith, short, length-drop c.loop-n.n c.args.new.now)
