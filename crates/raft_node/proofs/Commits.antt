-- What a node acts on stays, whatever the step.
use Rattle.std.proofs.Common.{◌≡◌, ◌∙◌, ℕ, ◌+◌, ◌≤◌, ◌==◌, ◌&&◌, Bool, true, false, inl, inr, max, nat_lt, List, [], ◌∷◌, ◌++◌, length, take, slice_set, refl, sym, ap, arith, le_refl}
use Rattle.std.proofs.lemmas.Bool.{cond_both, or_cases, and_parts, false≢true}
use Rattle.std.proofs.lemmas.List.{take-append-le}
use Rattle.region_map.specs.declared.id.NodeId.{NodeId}
use Rattle.raft_vote.specs.declared.log.LogEntry.{LogEntry}
use Rattle.raft_vote.specs.declared.message.RaftMessage.{RaftMessage}
use Rattle.raft_vote.specs.declared.message.RaftMessage.TheVariants.{VoteAsk, VoteSay, Append, AppendSay}
use Rattle.raft_vote.specs.State.{VoteState}
use Rattle.raft_vote.specs.Log.{last_term}
use Rattle.raft_vote.specs.Rows.{is_leader, wins, vote_tick, vote_said, asks, take_term, following}
use Rattle.raft_append.specs.Merge.{agrees_to_view, taken}
use Rattle.raft_append.specs.Peers.{progress_at, progressed, reset_to}
use Rattle.raft_append.specs.Commit.{decided}
use Rattle.raft_append.proofs.Views.{taken_rises, taken_same}
use Rattle.raft_node.specs.declared.input.RaftInput.{RaftInput}
use Rattle.raft_node.specs.declared.input.RaftInput.TheVariants.{Tick, Deliver}
use Rattle.raft_node.specs.State.{RaftState}
use Rattle.raft_node.specs.Rows.{RaftStepped, is_full, with_entry, won, append_all, elected, elect_row, tick_row, append_row, answered, say_row, deliver_row, advanced, raft_step, proposed, keeps_view, is_well_formed}
use Rattle.raft_node.specs.Committed.{KeepsCommitted}

module _ {E : Type 0} (s : RaftState E) where
  advanced_keeps : (t : RaftState E) → KeepsCommitted s t → KeepsCommitted s (advanced t)
  advanced_keeps t h =
      cond_both (is_leader t.votes.role) (record t { view = max t.view (decided t.votes t.log t.peers) }) t (KeepsCommitted s)
      (λ _. record { rises = omega (arith, h.rises); same = h.same })
      (λ _. h)

  -- entries at the end leave what is before them
  with_entry_keeps : (t : RaftState E) (change : E) → t.view ≡ s.view → t.log ≡ s.log → s.view ≤ length s.log → KeepsCommitted s (with_entry t change)
  with_entry_keeps t change view log within =
      record {
        rises = omega (arith, view);
        same = ap (λ (xs : List (LogEntry E)). take s.view (xs ++ record { term = t.votes.term; change = change } ∷ [])) log ∙ take-append-le s.view s.log (record { term = t.votes.term; change = change } ∷ []) within;
      }

  won_keeps : (noop : E) (t : RaftState E) → t.view ≡ s.view → t.log ≡ s.log → s.view ≤ length s.log → KeepsCommitted s (won noop t)
  won_keeps noop t view log within =
      let u : RaftState E = record t { peers = reset_to (length t.log + 1) t.peers } in
      cond_both (is_full t.log) u (with_entry u noop) (KeepsCommitted s)
      (λ _. record { rises = omega (arith, view); same = ap (take s.view) log })
      (λ _. with_entry_keeps u noop view log within)

  elected_keeps : (noop : E) (votes : VoteState) (sent : List (NodeId × RaftMessage E)) → s.view ≤ length s.log → KeepsCommitted s (elected noop s votes sent).node
  elected_keeps noop votes sent within =
      let t : RaftState E = record s { votes = votes } in
      cond_both (wins s.votes votes) (record { node = won noop t; sent = sent ++ append_all (won noop t) }) (record { node = t; sent = sent }) (λ (r : RaftStepped E). KeepsCommitted s r.node)
      (λ _. won_keeps noop t refl refl within)
      (λ _. record { rises = le_refl s.view; same = refl })

  tick_keeps : (noop : E) (unseen : List ℕ) → s.view ≤ length s.log → KeepsCommitted s (tick_row noop s unseen).node
  tick_keeps noop unseen within =
      cond_both (is_leader s.votes.role) (record { node = s; sent = append_all s }) (elect_row noop s unseen) (λ (r : RaftStepped E). KeepsCommitted s r.node)
      (λ _. record { rises = le_refl s.view; same = refl })
      (λ _. let r = vote_tick s.votes unseen in elected_keeps noop r.node (asks r.node.term (last_term s.log) (length s.log) r.asked) within)

  append_keeps : (from : NodeId) (term prev prev_term : ℕ) (entries : List (LogEntry E)) (commit : ℕ) → s.view ≤ length s.log → keeps_view s (Append term prev prev_term entries commit) ≡ true → KeepsCommitted s (append_row s from term prev prev_term entries commit).node
  append_keeps from term prev prev_term entries commit within agrees =
      cond_both (nat_lt term s.votes.term) (record { node = s; sent = (from, AppendSay s.votes.term false 0) ∷ [] })
      (answered (record s { votes = following (take_term s.votes term) from }) from (taken s.log s.view prev prev_term entries commit))
      (λ (r : RaftStepped E). KeepsCommitted s r.node)
      (λ _. record { rises = le_refl s.view; same = refl })
      (λ e.
      let a : agrees_to_view s.log s.view prev entries ≡ true = elim (or_cases (nat_lt term s.votes.term) (agrees_to_view s.log s.view prev entries) agrees) [
        | inl less ↦ absurd (false≢true (sym e ∙ less))
        | inr a ↦ a
      ] in
      record { rises = taken_rises s.log s.view prev entries prev_term commit; same = taken_same s.log s.view prev entries prev_term commit within a })

  say_keeps : (from : NodeId) (term : ℕ) (ok : Bool) (upto : ℕ) → KeepsCommitted s (say_row s from term ok upto)
  say_keeps from term ok upto =
      let t : RaftState E = record s { votes = take_term s.votes term } in
      cond_both (is_leader t.votes.role && (t.votes.term == term))
      (record t { peers = slice_set s.peers from.0 (progressed (progress_at s.peers from.0) (length s.log) ok upto) }) t (KeepsCommitted s)
      (λ _. record { rises = le_refl s.view; same = refl })
      (λ _. record { rises = le_refl s.view; same = refl })

  deliver_keeps : (noop : E) (from : NodeId) (m : RaftMessage E) → s.view ≤ length s.log → keeps_view s m ≡ true → KeepsCommitted s (deliver_row noop s from m).node
  deliver_keeps noop from (VoteAsk term asked_term asked_index) within agrees = record { rises = le_refl s.view; same = refl }
  deliver_keeps noop from (VoteSay term granted) within agrees = elected_keeps noop (vote_said s.votes from term granted) [] within
  deliver_keeps noop from (Append term prev prev_term entries commit) within agrees = append_keeps from term prev prev_term entries commit within agrees
  deliver_keeps noop from (AppendSay term ok upto) within agrees = say_keeps from term ok upto

  pub step_keeps : (noop : E) (input : RaftInput E) → s.view ≤ length s.log → is_well_formed s input ≡ true → KeepsCommitted s (raft_step noop s input).node
  step_keeps noop (Tick unseen) within given = advanced_keeps (tick_row noop s unseen).node (tick_keeps noop unseen within)
  step_keeps noop (Deliver from m) within given =
      advanced_keeps (deliver_row noop s from m).node (deliver_keeps noop from m within (and_parts (nat_lt from.0 (length s.votes.nodes)) (keeps_view s m) given).1)

  pub proposed_keeps : (change : E) → s.view ≤ length s.log → KeepsCommitted s (proposed s change)
  proposed_keeps change within = advanced_keeps (with_entry s change) (with_entry_keeps s change refl refl within)
