-- For whom the messages of the log are: a node of the log knows nodes of the table alone, and sends to them alone.
use Rattle.std.proofs.Common.{◌≡◌, ℕ, ◌+◌, ◌==◌, max, Bool, true, false, cond, not, ◌&&◌, nat_lt, List, [], ◌∷◌, ◌++◌, length, map, slice_set, Option, Some, None}
use Rattle.std.proofs.lemmas.Bool.{cond_both}
use Rattle.std.specs.List.{AllByRecursion}
use Rattle.step_runs.specs.runs.region_map.declared.id.NodeId.{NodeId}
use Rattle.step_runs.specs.runs.region_map.Nodes.{node_id, has, with_member, without, is_majority}
use Rattle.step_runs.specs.runs.raft_vote.declared.log.LogEntry.{LogEntry}
use Rattle.step_runs.specs.runs.raft_vote.declared.message.RaftMessage.{RaftMessage}
use Rattle.step_runs.specs.runs.raft_vote.declared.message.RaftMessage.TheVariants.{VoteAsk, VoteSay, Append, AppendSay}
use Rattle.step_runs.specs.runs.raft_vote.declared.votes.Role.{Role}
use Rattle.step_runs.specs.runs.raft_vote.declared.votes.Role.TheVariants.{Follower, Candidate, Leader}
use Rattle.step_runs.specs.runs.raft_vote.State.{VoteState}
use Rattle.step_runs.specs.runs.raft_vote.Log.{last_term}
use Rattle.step_runs.specs.runs.raft_vote.Rows.{Asking, alone, others, is_leader, wins, with_grants, election, starts_election, waiting, vote_tick, asks, take_term, following, grants, with_vote, counted, vote_said}
use Rattle.step_runs.specs.runs.raft_append.Merge.{taken}
use Rattle.step_runs.specs.runs.raft_append.Peers.{progress_at, progressed, reset_to}
use Rattle.step_runs.specs.runs.raft_append.Commit.{decided}
use Rattle.step_runs.specs.runs.raft_node.declared.input.RaftInput.TheVariants.{Tick, Deliver}
use Rattle.step_runs.specs.runs.raft_node.State.{RaftState}
use Rattle.step_runs.specs.runs.raft_node.Rows.{RaftStepped, is_full, append_to, append_all, with_entry, won, elected, elect_row, tick_row, answered, append_row, say_row, deliver_row, advanced, raft_step}
use Rattle.step_runs.proofs.runs.list_laws.All.{all_append, all_filter}

abbrev IsBelow : ℕ → ℕ → Type 0
IsBelow nodes k = nat_lt k nodes ≡ true

abbrev pub LeaderWithin : ℕ → Option NodeId → Type 0
LeaderWithin nodes None = Unit {0}
LeaderWithin nodes (Some n) = nat_lt n.0 nodes ≡ true

-- a node, those that it votes with, and the leader that it knows are nodes of the table
pub record VotesWithin (nodes : ℕ) (v : VoteState) : Type 0 where
  pub me : nat_lt v.me.0 nodes ≡ true
  pub all : AllByRecursion (IsBelow nodes) v.nodes
  pub leader : LeaderWithin nodes v.leader

abbrev pub SendsWithin : {E : Type 0} → ℕ → List (NodeId × RaftMessage E) → Type 0
SendsWithin nodes sent = AllByRecursion (λ x. nat_lt x.0.0 nodes ≡ true) sent

-- a step of the log that sends to nodes of the table alone, and knows no others
pub record RaftWithin {E : Type 0} (nodes : ℕ) (r : RaftStepped E) : Type 0 where
  pub votes : VotesWithin nodes r.node.votes
  pub sent : SendsWithin nodes r.sent

module _ (nodes : ℕ) where
  -- ---- votes

  granted_within : (v : VoteState) (votes : List ℕ) (refused : Bool) → VotesWithin nodes v → VotesWithin nodes (with_grants v votes refused)
  granted_within v votes refused h =
      cond_both (is_majority votes v.nodes) (record v { role = Leader; leader = Some v.me }) (record v { role = Candidate votes refused }) (VotesWithin nodes)
      (λ _. record { me = h.me; all = h.all; leader = h.me }) (λ _. record { me = h.me; all = h.all; leader = h.leader })

  -- whom an election asks
  record AsksWithin (r : Asking) : Type 0 where
    node : VotesWithin nodes r.node
    asked : AllByRecursion (IsBelow nodes) r.asked

  others_within : (v : VoteState) (set : List ℕ) → VotesWithin nodes v → AllByRecursion (IsBelow nodes) (without v.nodes set)
  others_within v set h = all_filter (IsBelow nodes) (λ k. not (has set k)) v.nodes h.all

  election_within : (v : VoteState) → VotesWithin nodes v → AsksWithin (election v)
  election_within v h =
      record {
        node = granted_within (record v { term = v.term + 1; vote = Some v.me; leader = None }) (alone v.me) false (record { me = h.me; all = h.all; leader = tt });
        asked = others_within v (alone v.me) h;
      }

  waiting_within : (r : Role) (v : VoteState) → VotesWithin nodes v → AsksWithin (waiting r v)
  waiting_within Follower v h = record { node = h; asked = tt }
  waiting_within (Candidate votes refused) v h =
      cond_both refused (record { node = record v { role = Follower }; asked = [] }) (record { node = v; asked = without v.nodes votes }) AsksWithin
      (λ _. record { node = record { me = h.me; all = h.all; leader = h.leader }; asked = tt })
      (λ _. record { node = h; asked = others_within v votes h })
  waiting_within Leader v h = record { node = h; asked = tt }

  vote_tick_within : (v : VoteState) (unseen : List ℕ) → VotesWithin nodes v → AsksWithin (vote_tick v unseen)
  vote_tick_within v unseen h =
      cond_both (starts_election v.role v unseen) (election v) (waiting v.role v) AsksWithin (λ _. election_within v h) (λ _. waiting_within v.role v h)

  term_within : (v : VoteState) (term : ℕ) → VotesWithin nodes v → VotesWithin nodes (take_term v term)
  term_within v term h =
      cond_both (nat_lt v.term term) (record v { term = term; vote = None; role = Follower; leader = None }) v (VotesWithin nodes)
      (λ _. record { me = h.me; all = h.all; leader = tt }) (λ _. h)

  vote_within : (v : VoteState) (from : NodeId) (granted : Bool) → VotesWithin nodes v → VotesWithin nodes (with_vote v from granted)
  vote_within v from granted h =
      cond_both granted (record v { vote = Some from }) v (VotesWithin nodes) (λ _. record { me = h.me; all = h.all; leader = h.leader }) (λ _. h)

  counted_within : (r : Role) (v : VoteState) (from : NodeId) (term : ℕ) (granted : Bool) → VotesWithin nodes v → VotesWithin nodes (counted r v from term granted)
  counted_within Follower v from term granted h = h
  counted_within (Candidate votes refused) v from term granted h =
      let more : VoteState = with_grants v (with_member votes from.0) refused in
      let fewer : VoteState = record v { role = Candidate votes true } in
      cond_both (v.term == term) (cond granted more fewer) v (VotesWithin nodes)
      (λ _. cond_both granted more fewer (VotesWithin nodes) (λ _. granted_within v (with_member votes from.0) refused h) (λ _. record { me = h.me; all = h.all; leader = h.leader }))
      (λ _. h)
  counted_within Leader v from term granted h = h

  said_within : (v : VoteState) (from : NodeId) (term : ℕ) (granted : Bool) → VotesWithin nodes v → VotesWithin nodes (vote_said v from term granted)
  said_within v from term granted h = let t : VoteState = take_term v term in counted_within t.role t from term granted (term_within v term h)

  -- ---- the rows of the log

  module _ {E : Type 0} (noop : E) (s : RaftState E) (h : VotesWithin nodes s.votes) where
    asks_within : (term last index : ℕ) (to : List ℕ) → AllByRecursion (IsBelow nodes) to → SendsWithin {E = E} nodes (asks term last index to)
    asks_within term last index [] all = tt
    asks_within term last index (k ∷ ks) all = (all.0, asks_within term last index ks all.1)

    appends_to : (t : RaftState E) (to : List ℕ) → AllByRecursion (IsBelow nodes) to → SendsWithin nodes (map (λ n. (n, append_to t n)) (map node_id to))
    appends_to t [] all = tt
    appends_to t (k ∷ ks) all = (all.0, appends_to t ks all.1)

    appends_within : (t : RaftState E) → VotesWithin nodes t.votes → SendsWithin nodes (append_all t)
    appends_within t v = appends_to t (others t.votes) (others_within t.votes (alone t.votes.me) v)

    won_within : (t : RaftState E) → VotesWithin nodes t.votes → VotesWithin nodes (won noop t).votes
    won_within t v =
        let u : RaftState E = record t { peers = reset_to (length t.log + 1) t.peers } in
        cond_both (is_full t.log) u (with_entry u noop) (λ (w : RaftState E). VotesWithin nodes w.votes) (λ _. v) (λ _. v)

    elected_within : (votes : VoteState) (sent : List (NodeId × RaftMessage E)) → VotesWithin nodes votes → SendsWithin nodes sent → RaftWithin nodes (elected noop s votes sent)
    elected_within votes sent v to =
        let t : RaftState E = record s { votes = votes } in
        let led = won_within t v in
        cond_both (wins s.votes votes) (record { node = won noop t; sent = sent ++ append_all (won noop t) }) (record { node = t; sent = sent }) (RaftWithin nodes)
        (λ _. record { votes = led; sent = all_append (λ (x : NodeId × RaftMessage E). nat_lt x.0.0 nodes ≡ true) sent (append_all (won noop t)) to (appends_within (won noop t) led) })
        (λ _. record { votes = v; sent = to })

    tick_within : (unseen : List ℕ) → RaftWithin nodes (tick_row noop s unseen)
    tick_within unseen =
        let r = vote_tick_within s.votes unseen h in
        let q : Asking = vote_tick s.votes unseen in
        cond_both (is_leader s.votes.role) (record { node = s; sent = append_all s }) (elect_row noop s unseen) (RaftWithin nodes)
        (λ _. record { votes = h; sent = appends_within s h })
        (λ _. elected_within q.node (asks q.node.term (last_term s.log) (length s.log) q.asked) r.node (asks_within q.node.term (last_term s.log) (length s.log) q.asked r.asked))

    append_within : (from : NodeId) (term prev prev_term : ℕ) (entries : List (LogEntry E)) (commit : ℕ) → nat_lt from.0 nodes ≡ true → RaftWithin nodes (append_row s from term prev prev_term entries commit)
    append_within from term prev prev_term entries commit f =
        let v = term_within s.votes term h in
        let follows : RaftState E = record s { votes = following (take_term s.votes term) from } in
        cond_both (nat_lt term s.votes.term) (record { node = s; sent = (from, AppendSay s.votes.term false 0) ∷ [] })
        (answered follows from (taken s.log s.view prev prev_term entries commit)) (RaftWithin nodes)
        (λ _. record { votes = h; sent = (f, tt) })
        (λ _. record { votes = record { me = v.me; all = v.all; leader = f }; sent = (f, tt) })

    say_within : (from : NodeId) (term : ℕ) (ok : Bool) (upto : ℕ) → VotesWithin nodes (say_row s from term ok upto).votes
    say_within from term ok upto =
        let v = term_within s.votes term h in
        let t : RaftState E = record s { votes = take_term s.votes term } in
        cond_both (is_leader t.votes.role && (t.votes.term == term)) (record t { peers = slice_set s.peers from.0 (progressed (progress_at s.peers from.0) (length s.log) ok upto) }) t
        (λ (w : RaftState E). VotesWithin nodes w.votes) (λ _. v) (λ _. v)

    deliver_within : (from : NodeId) (m : RaftMessage E) → nat_lt from.0 nodes ≡ true → RaftWithin nodes (deliver_row noop s from m)
    deliver_within from (VoteAsk term last index) f =
        let t : VoteState = take_term s.votes term in
        let granted : Bool = grants t from term last index (last_term s.log) (length s.log) in
        record { votes = vote_within t from granted (term_within s.votes term h); sent = (f, tt) }
    deliver_within from (VoteSay term granted) f = elected_within (vote_said s.votes from term granted) [] (said_within s.votes from term granted h) tt
    deliver_within from (Append term prev prev_term entries commit) f = append_within from term prev prev_term entries commit f
    deliver_within from (AppendSay term ok upto) f = record { votes = say_within from term ok upto; sent = tt }

    advanced_within : (r : RaftStepped E) → RaftWithin nodes r → RaftWithin nodes (record { node = advanced r.node; sent = r.sent })
    advanced_within r w =
        record {
          votes =
              cond_both (is_leader r.node.votes.role) (record r.node { view = max r.node.view (decided r.node.votes r.node.log r.node.peers) }) r.node
              (λ (t : RaftState E). VotesWithin nodes t.votes) (λ _. w.votes) (λ _. w.votes);
          sent = w.sent;
        }

    pub raft_ticks : (unseen : List ℕ) → RaftWithin nodes (raft_step noop s (Tick unseen))
    raft_ticks unseen = advanced_within (tick_row noop s unseen) (tick_within unseen)

    pub raft_takes : (from : NodeId) (m : RaftMessage E) → nat_lt from.0 nodes ≡ true → RaftWithin nodes (raft_step noop s (Deliver from m))
    raft_takes from m f = advanced_within (deliver_row noop s from m) (deliver_within from m f)
