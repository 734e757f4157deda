use Rattle.std.proofs.Common.{◌∙◌, ap, sym}
use Rattle.raft_vote.specs.State.{VoteState}
use Rattle.raft_vote.specs.Rows.{with_grants}
use Rattle.raft_vote.proofs.Counting.{counted_yes}
use Rattle.raft_vote.proofs.votes.VoteNode.count.Goals as goal

pub returns-then-granted : goal.returns-then-granted
returns-then-granted c =
    let view = sym c.self.view_is in
    c.set_grants.ensures
    ∙ ap (λ votes. with_grants c.args.self.now votes c.in-Candidate.refused) c.with-votes.ensures
    ∙ sym (counted_yes c.args.self.now _ _ c.args.from c.args.term c.args.granted
    (ap (λ (s : VoteState). s.role) view ∙ c.in-Candidate.is) (ap (λ (s : VoteState). s.term) view ∙ c.if-self-term.true) c.if-granted.true)
