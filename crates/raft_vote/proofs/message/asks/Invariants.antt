use Rattle.std.proofs.Common.{◌≡◌, map, take}
use Rattle.raft_vote.specs.declared.message.RaftMessage.TheVariants.{VoteAsk}
use Rattle.raft_vote.proofs.message.asks.Given as goal

abbrev pub invariant-loop-n : goal.invariant-loop-n
invariant-loop-n g l = l.sent.items ≡ map (λ n. (n, VoteAsk l.term l.last_term l.last_index)) (take l.n-index l.n-items)
