-- How a node votes and is voted for, row by row.
use Rattle.std.specs.Prelude.{ℕ, zero, suc, ◌+◌, ◌^◌, ◌==◌, nat_lt, nat_le, Bool, true, false, not, ◌&&◌, ◌||◌, if◌then◌else◌, List, [], map, Option, Some, None}
use Rattle.region_map.specs.declared.id.NodeId.{NodeId}
use Rattle.region_map.specs.Nodes.{has, with_member, without, first, node_id, is_majority}
use Rattle.raft_vote.specs.declared.message.RaftMessage.{RaftMessage}
use Rattle.raft_vote.specs.declared.message.RaftMessage.TheVariants.{VoteAsk}
use Rattle.raft_vote.specs.declared.votes.Role.{Role}
use Rattle.raft_vote.specs.declared.votes.Role.TheVariants.{Follower, Candidate, Leader}
use Rattle.raft_vote.specs.State.{VoteState}

-- the nodes below a number
abbrev pub all_nodes : ℕ → List ℕ
all_nodes zero = []
all_nodes (suc n) = with_member (all_nodes n) n

-- a node that comes up, with the term and the vote that it kept
abbrev pub started : NodeId → List ℕ → ℕ → Option NodeId → VoteState
started me nodes term vote = record { me = me; nodes = nodes; term = term; vote = vote; role = Follower; leader = None }

-- the set of one node
abbrev pub alone : NodeId → List ℕ
alone n = with_member [] n.0

-- all nodes but itself
abbrev pub others : VoteState → List ℕ
others s = without s.nodes (alone s.me)

abbrev pub is_node : Option NodeId → NodeId → Bool
is_node None n = false
is_node (Some m) n = m.0 == n.0

abbrev pub is_leader : Role → Bool
is_leader Follower = false
is_leader (Candidate granted refused) = false
is_leader Leader = true

-- the second state leads, and the first one did not
abbrev pub wins : VoteState → VoteState → Bool
wins s t = not (is_leader s.role) && is_leader t.role

-- ---- ticks

-- a node always sees itself
abbrev pub hidden : VoteState → List ℕ → List ℕ
hidden s unseen = without unseen (alone s.me)

-- it is the least node that it sees
abbrev pub is_least : VoteState → List ℕ → Bool
is_least s unseen = is_node (first (without s.nodes (hidden s unseen))) s.me

abbrev pub is_lost : Option NodeId → List ℕ → Bool
is_lost None hidden = true
is_lost (Some n) hidden = has hidden n.0

-- it knows no leader, or does not see the one that it knows
abbrev pub lost_leader : VoteState → List ℕ → Bool
lost_leader s unseen = is_lost s.leader (hidden s unseen)

-- a candidate with these votes; with a majority it leads
abbrev pub with_grants : VoteState → List ℕ → Bool → VoteState
with_grants s granted refused =
    if is_majority granted s.nodes then record s { role = Leader; leader = Some s.me } else record s { role = Candidate granted refused }

-- a state, and whom it asks for a vote on the way to it
pub record Asking : Type 0 where
  pub node : VoteState
  pub asked : List ℕ

-- an election in the next term; with one node it is won at once
abbrev pub election : VoteState → Asking
election s =
    record {
      node = with_grants (record s { term = s.term + 1; vote = Some s.me; leader = None }) (alone s.me) false;
      asked = others s;
    }

-- whether a tick starts an election
abbrev pub starts_election : Role → VoteState → List ℕ → Bool
starts_election Follower s unseen = lost_leader s unseen && is_least s unseen
starts_election (Candidate granted refused) s unseen = refused && is_least s unseen
starts_election Leader s unseen = false

-- a tick that starts none: a candidate asks again, or gives up where a node refused
abbrev pub waiting : Role → VoteState → Asking
waiting Follower s = record { node = s; asked = [] }
waiting (Candidate granted refused) s =
    if refused then record { node = record s { role = Follower }; asked = [] } else record { node = s; asked = without s.nodes granted }
waiting Leader s = record { node = s; asked = [] }

abbrev pub vote_tick : VoteState → List ℕ → Asking
vote_tick s unseen = if starts_election s.role s unseen then election s else waiting s.role s

-- the next term would be no number
abbrev pub ends_terms : VoteState → List ℕ → Bool
ends_terms s unseen = starts_election s.role s unseen && nat_le (2 ^ 62) (s.term + 1)

-- asks these nodes for their votes in a term, for a log that ends there
abbrev pub asks : {E : Type 0} → ℕ → ℕ → ℕ → List ℕ → List (NodeId × RaftMessage E)
asks term last_term last_index to = map (λ n. (n, VoteAsk term last_term last_index)) (map node_id to)

-- ---- messages

-- a greater term is taken, with no vote, as a follower without known leader
abbrev pub take_term : VoteState → ℕ → VoteState
take_term s term = if nat_lt s.term term then record s { term = term; vote = None; role = Follower; leader = None } else s

-- a follower of this leader
abbrev pub following : VoteState → NodeId → VoteState
following s leader = record s { role = Follower; leader = Some leader }

-- no vote, or this one
abbrev pub is_free : Option NodeId → NodeId → Bool
is_free None n = true
is_free (Some m) n = m.0 == n.0

-- the place where a log ends is not below that where its own ends
abbrev pub reaches : ℕ → ℕ → ℕ → ℕ → Bool
reaches last_term last_index own_term own_index = nat_lt own_term last_term || ((own_term == last_term) && nat_le own_index last_index)

-- whether a node votes for a candidate of a term. `own_term` and `own_index` say where its own log ends
abbrev pub grants : VoteState → NodeId → ℕ → ℕ → ℕ → ℕ → ℕ → Bool
grants s from term last_term last_index own_term own_index =
    (s.term == term) && is_free s.vote from && reaches last_term last_index own_term own_index

abbrev pub with_vote : VoteState → NodeId → Bool → VoteState
with_vote s from granted = if granted then record s { vote = Some from } else s

-- a state, and whether it granted its vote on the way to it
pub record Voting : Type 0 where
  pub node : VoteState
  pub granted : Bool

-- a node is asked for its vote
abbrev pub vote_asked : VoteState → NodeId → ℕ → ℕ → ℕ → ℕ → ℕ → Voting
vote_asked s from term last_term last_index own_term own_index =
    let t = take_term s term in
    let granted = grants t from term last_term last_index own_term own_index in
    record { node = with_vote t from granted; granted = granted }

-- a node that has the term counts an answer
abbrev pub counted : Role → VoteState → NodeId → ℕ → Bool → VoteState
counted Follower s from term granted = s
counted (Candidate votes refused) s from term granted =
    if s.term == term then (if granted then with_grants s (with_member votes from.0) refused else record s { role = Candidate votes true }) else s
counted Leader s from term granted = s

-- a node is told of a vote
abbrev pub vote_said : VoteState → NodeId → ℕ → Bool → VoteState
vote_said s from term granted = let t = take_term s term in counted t.role t from term granted
