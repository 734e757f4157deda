-- A log whose changes fit sends changes that fit.
use Rattle.std.proofs.Common.{◌≡◌, ◌∙◌, ◌&&◌, ℕ, ◌+◌, nat_lt, true, false, List, [], ◌∷◌, ◌++◌, length, map, take, drop, refl, ap}
use Rattle.std.proofs.lemmas.Bool.{cond_both}
use Rattle.std.proofs.lemmas.List.Folds.{list_all-append}
use Rattle.region_map.specs.declared.id.NodeId.{NodeId}
use Rattle.region_map.specs.Nodes.{node_id}
use Rattle.raft_vote.specs.declared.message.RaftMessage.{RaftMessage}
use Rattle.raft_vote.specs.declared.message.RaftMessage.TheVariants.{VoteAsk, VoteSay, Append, AppendSay}
use Rattle.raft_vote.specs.State.{VoteState}
use Rattle.raft_vote.specs.Log.{last_term}
use Rattle.raft_vote.specs.Rows.{others, is_leader, wins, vote_tick, vote_said, asks, take_term, following}
use Rattle.raft_append.specs.Merge.{taken}
use Rattle.raft_append.specs.Peers.{reset_to}
use Rattle.raft_node.specs.declared.input.RaftInput.{RaftInput}
use Rattle.raft_node.specs.declared.input.RaftInput.TheVariants.{Tick, Deliver}
use Rattle.raft_node.specs.State.{RaftState}
use Rattle.raft_node.specs.Rows.{RaftStepped, is_full, entries_limit, prev_for, append_to, append_all, with_entry, won, elected, elect_row, answered, raft_step}
use Rattle.contract_types.specs.declared.change.Change.{Change}
use Rattle.contract_types.specs.declared.change.Change.TheVariants.{Noop}
use Rattle.table_log.specs.Fitting.{fits, log_fits, message_fits, sent_fits}
use Rattle.table_log.proofs.Frames.{passes_cut, passes_joined}

module _ (hashes : ℕ) where
  abbrev Sends : List (NodeId × RaftMessage Change) → Type 0
  Sends sent = sent_fits hashes sent ≡ true

  both_fit : (xs ys : List (NodeId × RaftMessage Change)) → Sends xs → Sends ys → Sends (xs ++ ys)
  both_fit xs ys a b = list_all-append (λ m. message_fits hashes m.1) xs ys ∙ ap (λ v. v && sent_fits hashes ys) a ∙ b

  asks_fit : (term last index : ℕ) (to : List ℕ) → Sends (asks term last index to)
  asks_fit term last index [] = refl
  asks_fit term last index (n ∷ ns) = asks_fit term last index ns

  -- the entries that a node is sent are a part of the log
  part_fits : (s : RaftState Change) (n : NodeId) → log_fits hashes s.log ≡ true → log_fits hashes (take entries_limit (drop (prev_for s n) s.log)) ≡ true
  part_fits s n own = (passes_cut (fits hashes) entries_limit (drop (prev_for s n) s.log) (passes_cut (fits hashes) (prev_for s n) s.log own).1).0

  appends_fit : (s : RaftState Change) → log_fits hashes s.log ≡ true → (to : List NodeId) → Sends (map (λ n. (n, append_to s n)) to)
  appends_fit s own [] = refl
  appends_fit s own (n ∷ ns) =
      ap (λ v. v && sent_fits hashes (map (λ n. (n, append_to s n)) ns)) (part_fits s n own) ∙ appends_fit s own ns

  all_fit : (s : RaftState Change) → log_fits hashes s.log ≡ true → Sends (append_all s)
  all_fit s own = appends_fit s own (map node_id (others s.votes))

  module _ (s : RaftState Change) (own : log_fits hashes s.log ≡ true) where
    won_fits : (votes : VoteState) → log_fits hashes (won Noop (record s { votes = votes })).log ≡ true
    won_fits votes =
        let t : RaftState Change = record s { votes = votes; peers = reset_to (length s.log + 1) s.peers } in
        cond_both (is_full s.log) t (with_entry t Noop) (λ (u : RaftState Change). log_fits hashes u.log ≡ true)
        (λ _. own)
        (λ _. passes_joined (fits hashes) s.log (record { term = votes.term; change = Noop } ∷ []) own refl)

    elected_fits : (votes : VoteState) (sent : List (NodeId × RaftMessage Change)) → Sends sent → Sends (elected Noop s votes sent).sent
    elected_fits votes sent before =
        let t : RaftState Change = record s { votes = votes } in
        cond_both (wins s.votes votes) (record { node = won Noop t; sent = sent ++ append_all (won Noop t) }) (record { node = t; sent = sent }) (λ (r : RaftStepped Change). Sends r.sent)
        (λ _. both_fit sent (append_all (won Noop t)) before (all_fit (won Noop t) (won_fits votes)))
        (λ _. before)

    pub sends_fitting : (input : RaftInput Change) → Sends (raft_step Noop s input).sent
    sends_fitting (Tick unseen) =
        let r = vote_tick s.votes unseen in
        cond_both (is_leader s.votes.role) (record { node = s; sent = append_all s }) (elect_row Noop s unseen) (λ (r : RaftStepped Change). Sends r.sent)
        (λ _. all_fit s own)
        (λ _. elected_fits r.node (asks r.node.term (last_term s.log) (length s.log) r.asked) (asks_fit r.node.term (last_term s.log) (length s.log) r.asked))
    sends_fitting (Deliver from (VoteAsk term last_asked last_index)) = refl
    sends_fitting (Deliver from (VoteSay term granted)) = elected_fits (vote_said s.votes from term granted) [] refl
    sends_fitting (Deliver from (Append term prev prev_term entries commit)) =
        cond_both (nat_lt term s.votes.term) (record { node = s; sent = (from, AppendSay s.votes.term false 0) ∷ [] })
        (answered (record s { votes = following (take_term s.votes term) from }) from (taken s.log s.view prev prev_term entries commit))
        (λ (r : RaftStepped Change). Sends r.sent)
        (λ _. refl)
        (λ _. refl)
    sends_fitting (Deliver from (AppendSay term ok upto)) = refl
