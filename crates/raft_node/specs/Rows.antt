-- One step of a node of the log, row by row. `noop` is the change that does nothing.
use Rattle.std.specs.Prelude.{ℕ, ◌+◌, ◌-◌, ◌^◌, ◌==◌, max, nat_lt, nat_le, Bool, true, false, not, ◌&&◌, ◌||◌, if◌then◌else◌, List, [], ◌∷◌, ◌++◌, map, length, take, drop, slice_set}
use Rattle.region_map.specs.declared.id.NodeId.{NodeId}
use Rattle.region_map.specs.Nodes.{node_id}
use Rattle.raft_vote.specs.declared.log.LogEntry.{LogEntry}
use Rattle.raft_vote.specs.declared.message.RaftMessage.{RaftMessage}
use Rattle.raft_vote.specs.declared.message.RaftMessage.TheVariants.{VoteAsk, VoteSay, Append, AppendSay}
use Rattle.raft_vote.specs.State.{VoteState}
use Rattle.raft_vote.specs.Log.{term_at, last_term}
use Rattle.raft_vote.specs.Rows.{others, is_leader, wins, vote_tick, ends_terms, asks, take_term, following, vote_asked, vote_said}
use Rattle.raft_append.specs.Merge.{Taken, fits, taken, agrees_to_view}
use Rattle.raft_append.specs.Peers.{progress_at, reset_to, progressed, ends_progress}
use Rattle.raft_append.specs.Commit.{decided}
use Rattle.raft_node.specs.declared.input.RaftInput.{RaftInput}
use Rattle.raft_node.specs.declared.input.RaftInput.TheVariants.{Tick, Deliver}
use Rattle.raft_node.specs.State.{RaftState}

-- the number of entries at which a log is full
abbrev pub log_limit : ℕ
log_limit = 128

abbrev pub is_full : {E : Type 0} → List (LogEntry E) → Bool
is_full log = nat_le log_limit (length log)

-- a state, and what was sent on the way to it
pub record RaftStepped (E : Type 0) : Type 0 where
  pub node : RaftState E
  pub sent : List (NodeId × RaftMessage E)

-- ---- appends that a leader sends

-- how many entries one message carries at most
abbrev pub entries_limit : ℕ
entries_limit = 64

-- behind which index the entries stand that a node is sent: the one before its next
abbrev pub prev_for : {E : Type 0} → RaftState E → NodeId → ℕ
prev_for s to = (progress_at s.peers to.0).next - 1

abbrev pub append_to : {E : Type 0} → RaftState E → NodeId → RaftMessage E
append_to s to =
    let prev = prev_for s to in
    Append s.votes.term prev (term_at s.log prev) (take entries_limit (drop prev s.log)) s.view

abbrev pub append_all : {E : Type 0} → RaftState E → List (NodeId × RaftMessage E)
append_all s = map (λ n. (n, append_to s n)) (map node_id (others s.votes))

-- ---- elections

-- an entry of the node's own term at the end of its log
abbrev pub with_entry : {E : Type 0} → RaftState E → E → RaftState E
with_entry s change = record s { log = s.log ++ record { term = s.votes.term; change = change } ∷ [] }

-- a new leader knows nothing of the others, and appends an entry that does nothing
abbrev pub won : {E : Type 0} → E → RaftState E → RaftState E
won noop s =
    let t = record s { peers = reset_to (length s.log + 1) s.peers } in
    if is_full s.log then t else with_entry t noop

-- the election part went on to `votes`, and this is sent; where that made the node leader, it begins to lead
abbrev pub elected : {E : Type 0} → E → RaftState E → VoteState → List (NodeId × RaftMessage E) → RaftStepped E
elected noop s votes sent =
    let t = record s { votes = votes } in
    if wins s.votes votes
    then record { node = won noop t; sent = sent ++ append_all (won noop t) }
    else record { node = t; sent = sent }

-- the index behind the last one would be no number, and the election needs it
abbrev pub ends_at_win : {E : Type 0} → RaftState E → VoteState → Bool
ends_at_win s votes = wins s.votes votes && nat_le (2 ^ 62) (length s.log + 1)

-- a node that does not lead may stand for election, or ask again
abbrev pub elect_row : {E : Type 0} → E → RaftState E → List ℕ → RaftStepped E
elect_row noop s unseen =
    let r = vote_tick s.votes unseen in
    elected noop s r.node (asks r.node.term (last_term s.log) (length s.log) r.asked)

-- a leader sends each other node the entries that come next there
abbrev pub tick_row : {E : Type 0} → E → RaftState E → List ℕ → RaftStepped E
tick_row noop s unseen =
    if is_leader s.votes.role
    then record { node = s; sent = append_all s }
    else elect_row noop s unseen

abbrev pub ask_row : {E : Type 0} → RaftState E → NodeId → ℕ → ℕ → ℕ → RaftStepped E
ask_row s from term last_term_asked last_index =
    let r = vote_asked s.votes from term last_term_asked last_index (last_term s.log) (length s.log) in
    record { node = record s { votes = r.node }; sent = (from, VoteSay r.node.term r.granted) ∷ [] }

abbrev pub vote_row : {E : Type 0} → E → RaftState E → NodeId → ℕ → Bool → RaftStepped E
vote_row noop s from term granted = elected noop s (vote_said s.votes from term granted) []

-- ---- appends that come

-- the log and the view that were taken, and the answer
abbrev pub answered : {E : Type 0} → RaftState E → NodeId → Taken E → RaftStepped E
answered s from t = record { node = record s { log = t.log; view = t.view }; sent = (from, AppendSay s.votes.term t.ok t.upto) ∷ [] }

-- a node that has no greater term follows the sender, and takes its entries where they fit
abbrev pub append_row : {E : Type 0} → RaftState E → NodeId → ℕ → ℕ → ℕ → List (LogEntry E) → ℕ → RaftStepped E
append_row s from term prev prev_term entries commit =
    if nat_lt term s.votes.term
    then record { node = s; sent = (from, AppendSay s.votes.term false 0) ∷ [] }
    else answered (record s { votes = following (take_term s.votes term) from }) from (taken s.log s.view prev prev_term entries commit)

-- a leader of that term learns how far a node's log agrees
abbrev pub say_row : {E : Type 0} → RaftState E → NodeId → ℕ → Bool → ℕ → RaftState E
say_row s from term ok upto =
    let t = record s { votes = take_term s.votes term } in
    if is_leader t.votes.role && (t.votes.term == term)
    then record t { peers = slice_set s.peers from.0 (progressed (progress_at s.peers from.0) (length s.log) ok upto) }
    else t

-- ---- a step

abbrev pub deliver_row : {E : Type 0} → E → RaftState E → NodeId → RaftMessage E → RaftStepped E
deliver_row noop s from (VoteAsk term last_term_asked last_index) = ask_row s from term last_term_asked last_index
deliver_row noop s from (VoteSay term granted) = vote_row noop s from term granted
deliver_row noop s from (Append term prev prev_term entries commit) = append_row s from term prev prev_term entries commit
deliver_row noop s from (AppendSay term ok upto) = record { node = say_row s from term ok upto; sent = [] }

abbrev pub input_row : {E : Type 0} → E → RaftState E → RaftInput E → RaftStepped E
input_row noop s (Tick unseen) = tick_row noop s unseen
input_row noop s (Deliver from message) = deliver_row noop s from message

-- a leader acts on what a majority has, up to the last such entry of its own term
abbrev pub advanced : {E : Type 0} → RaftState E → RaftState E
advanced s = if is_leader s.votes.role then record s { view = max s.view (decided s.votes s.log s.peers) } else s

abbrev pub raft_step : {E : Type 0} → E → RaftState E → RaftInput E → RaftStepped E
raft_step noop s input = let r = input_row noop s input in record { node = advanced r.node; sent = r.sent }

-- a leader appends a change
abbrev pub proposed : {E : Type 0} → RaftState E → E → RaftState E
proposed s change = advanced (with_entry s change)

-- ---- where a step is refused, and what it may be given

abbrev pub deliver_ends : {E : Type 0} → RaftState E → NodeId → RaftMessage E → Bool
deliver_ends s from (VoteAsk term last_term_asked last_index) = false
deliver_ends s from (VoteSay term granted) = ends_at_win s (vote_said s.votes from term granted)
deliver_ends s from (Append term prev prev_term entries commit) =
    nat_le s.votes.term term && fits s.log prev prev_term && nat_le (2 ^ 62) (prev + length entries)
deliver_ends s from (AppendSay term ok upto) =
    let t = take_term s.votes term in
    is_leader t.role && (t.term == term) && ends_progress (progress_at s.peers from.0) (length s.log) ok upto

abbrev pub elect_ends : {E : Type 0} → RaftState E → List ℕ → Bool
elect_ends s unseen = ends_terms s.votes unseen || ends_at_win s (vote_tick s.votes unseen).node

-- the next term or an index would be no number
abbrev pub ends_numbers : {E : Type 0} → RaftState E → RaftInput E → Bool
ends_numbers s (Tick unseen) = not (is_leader s.votes.role) && elect_ends s unseen
ends_numbers s (Deliver from message) = deliver_ends s from message

-- an Append of the node's term or a greater one agrees with its log up to its view
abbrev pub keeps_view : {E : Type 0} → RaftState E → RaftMessage E → Bool
keeps_view s (VoteAsk term last_term_asked last_index) = true
keeps_view s (VoteSay term granted) = true
keeps_view s (Append term prev prev_term entries commit) = nat_lt term s.votes.term || agrees_to_view s.log s.view prev entries
keeps_view s (AppendSay term ok upto) = true

-- what a node may be given: the sender is one of `nodes`, and its message keeps what the node acts on
abbrev pub is_well_formed : {E : Type 0} → RaftState E → RaftInput E → Bool
is_well_formed s (Tick unseen) = true
is_well_formed s (Deliver from message) = nat_lt from.0 (length s.votes.nodes) && keeps_view s message
