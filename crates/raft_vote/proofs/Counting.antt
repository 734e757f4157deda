-- What a candidate makes of an answer.
use Rattle.std.proofs.Common.{◌≡◌, ℕ, Bool, true, List}
use Rattle.std.proofs.lemmas.Bool.{eq-eqb}
use Rattle.region_map.specs.declared.id.NodeId.{NodeId}
use Rattle.region_map.specs.Nodes.{with_member}
use Rattle.raft_vote.specs.declared.votes.Role.TheVariants.{Candidate}
use Rattle.raft_vote.specs.State.{VoteState}
use Rattle.raft_vote.specs.Rows.{counted, with_grants}

pub counted_yes : (s : VoteState) (votes : List ℕ) (refused : Bool) (from : NodeId) (term : ℕ) (granted : Bool) → s.role ≡ Candidate votes refused → s.term ≡ term → granted ≡ true → counted s.role s from term granted ≡ with_grants s (with_member votes from.0) refused
counted_yes s votes refused from term granted is same granted_is =
    rw (is, granted_is, eq-eqb s.term term same)
