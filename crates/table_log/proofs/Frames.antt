-- What a step of the log leaves as it is, and where the entries of its log come from.
use Rattle.std.proofs.Common.{◌≡◌, ◌∙◌, ◌&&◌, ℕ, ◌+◌, ◌-◌, ◌⊎◌, inl, inr, ◌==◌, nat_lt, min, max, Bool, true, false, List, [], ◌∷◌, ◌++◌, length, take, drop, sym, ap, subst, arith, take-append-drop}
use Rattle.std.specs.List.{list_all}
use Rattle.std.proofs.lemmas.Bool.{cond_both, and_parts}
use Rattle.std.proofs.lemmas.Bool.Decides.{nat_tests}
use Rattle.std.proofs.lemmas.List.Folds.{list_all-append}
use Rattle.region_map.specs.declared.id.NodeId.{NodeId}
use Rattle.raft_vote.specs.declared.log.LogEntry.{LogEntry}
use Rattle.raft_vote.specs.declared.message.RaftMessage.{RaftMessage}
use Rattle.raft_vote.specs.declared.message.RaftMessage.TheVariants.{VoteAsk, VoteSay, Append, AppendSay}
use Rattle.raft_vote.specs.Rows.{is_leader, take_term, following}
use Rattle.raft_append.specs.Merge.{Taken, fits, agreeing, merged, taken}
use Rattle.raft_append.specs.Commit.{decided}
use Rattle.raft_node.specs.declared.input.RaftInput.{RaftInput}
use Rattle.raft_node.specs.declared.input.RaftInput.TheVariants.{Tick, Deliver}
use Rattle.raft_node.specs.State.{RaftState}
use Rattle.raft_node.specs.Rows.{RaftStepped, with_entry, tick_row, answered, append_row, say_row, deliver_row, advanced, raft_step, proposed}

module _ {E : Type 0} (noop : E) (s : RaftState E) where
  pub step_me : (input : RaftInput E) → (raft_step noop s input).node.votes.me ≡ s.votes.me
  step_me input = grind (arith, nat_tests)

  pub step_nodes : (input : RaftInput E) → (raft_step noop s input).node.votes.nodes ≡ s.votes.nodes
  step_nodes input = grind (arith, nat_tests)

  pub proposed_me : (change : E) → (proposed s change).votes.me ≡ s.votes.me
  proposed_me change = grind (arith, nat_tests)

  pub proposed_nodes : (change : E) → (proposed s change).votes.nodes ≡ s.votes.nodes
  proposed_nodes change = grind (arith, nat_tests)

  -- a new leader's entry that does nothing may come to the end of the log
  tick_log : (unseen : List ℕ) → (let t = (tick_row noop s unseen).node in (t.log ≡ s.log) ⊎ (t.log ≡ s.log ++ record { term = t.votes.term; change = noop } ∷ []))
  tick_log unseen = grind (arith, nat_tests)

  said_log : (from : NodeId) (term : ℕ) (granted : Bool) → (let t = (deliver_row noop s from (VoteSay term granted)).node in (t.log ≡ s.log) ⊎ (t.log ≡ s.log ++ record { term = t.votes.term; change = noop } ∷ []))
  said_log from term granted = grind (arith, nat_tests)

module _ {E : Type 0} (p : E → Bool) where
  -- each change passes
  abbrev pub Passes : List (LogEntry E) → Type 0
  Passes log = list_all (λ e. p e.change) log ≡ true

  pub passes_joined : (xs ys : List (LogEntry E)) → Passes xs → Passes ys → Passes (xs ++ ys)
  passes_joined xs ys a b =
      let q : LogEntry E → Bool = λ e. p e.change in
      list_all-append q xs ys ∙ ap (λ v. v && list_all q ys) a ∙ b

  pub passes_cut : (n : ℕ) (xs : List (LogEntry E)) → Passes xs → Passes (take n xs) × Passes (drop n xs)
  passes_cut n xs h =
      let q : LogEntry E → Bool = λ e. p e.change in
      and_parts (list_all q (take n xs)) (list_all q (drop n xs)) (sym (list_all-append q (take n xs) (drop n xs)) ∙ ap (list_all q) (take-append-drop n xs) ∙ h)

  passes_merged : (own new : List (LogEntry E)) → Passes own → Passes new → Passes (merged own new)
  passes_merged own new a b =
      let same = agreeing own new in
      cond_both (same == length new) own (take same own ++ drop same new) Passes
      (λ _. a)
      (λ _. passes_joined (take same own) (drop same new) (passes_cut same own a).0 (passes_cut same new b).1)

  passes_taken : (log : List (LogEntry E)) (view prev prev_term : ℕ) (entries : List (LogEntry E)) (commit : ℕ) → Passes log → Passes entries → Passes (taken log view prev prev_term entries commit).log
  passes_taken log view prev prev_term entries commit a b =
      cond_both (fits log prev prev_term)
      (record { log = take prev log ++ merged (drop prev log) entries; view = max view (min commit (prev + length entries)); ok = true; upto = prev + length entries })
      (record { log = log; view = view; ok = false; upto = min (prev - 1) (length log) })
      (λ (t : Taken E). Passes t.log)
      (λ _. passes_joined (take prev log) (merged (drop prev log) entries) (passes_cut prev log a).0 (passes_merged (drop prev log) entries (passes_cut prev log a).1 b))
      (λ _. a)

  module _ (noop : E) (s : RaftState E) (idle : p noop ≡ true) (own : Passes s.log) where
    passes_grown : (log : List (LogEntry E)) (term : ℕ) → (log ≡ s.log) ⊎ (log ≡ s.log ++ record { term = term; change = noop } ∷ []) → Passes log
    passes_grown log term (inl e) = subst Passes (sym e) own
    passes_grown log term (inr e) =
        subst Passes (sym e) (passes_joined s.log (record { term = term; change = noop } ∷ []) own (ap (λ v. v && true) idle))

    passes_advanced : (t : RaftState E) → Passes t.log → Passes (advanced t).log
    passes_advanced t h =
        cond_both (is_leader t.votes.role) (record t { view = max t.view (decided t.votes t.log t.peers) }) t (λ (u : RaftState E). Passes u.log) (λ _. h) (λ _. h)

    passes_append : (from : NodeId) (term prev prev_term : ℕ) (entries : List (LogEntry E)) (commit : ℕ) → Passes entries → Passes (append_row s from term prev prev_term entries commit).node.log
    passes_append from term prev prev_term entries commit new =
        cond_both (nat_lt term s.votes.term) (record { node = s; sent = (from, AppendSay s.votes.term false 0) ∷ [] })
        (answered (record s { votes = following (take_term s.votes term) from }) from (taken s.log s.view prev prev_term entries commit))
        (λ (r : RaftStepped E). Passes r.node.log)
        (λ _. own)
        (λ _. passes_taken s.log s.view prev prev_term entries commit own new)

    passes_say : (from : NodeId) (term : ℕ) (ok : Bool) (upto : ℕ) → Passes (say_row s from term ok upto).log
    passes_say from term ok upto = let same : (say_row s from term ok upto).log ≡ s.log = grind (arith, nat_tests) in subst Passes (sym same) own

    -- what a message brings passes
    abbrev pub Brings : RaftMessage E → Type 0
    Brings (VoteAsk term last_term last_index) = Unit {0}
    Brings (VoteSay term granted) = Unit {0}
    Brings (Append term prev prev_term entries commit) = Passes entries
    Brings (AppendSay term ok upto) = Unit {0}

    passes_deliver : (from : NodeId) (m : RaftMessage E) → Brings m → Passes (deliver_row noop s from m).node.log
    passes_deliver from (VoteAsk term last_term last_index) b = own
    passes_deliver from (VoteSay term granted) b = passes_grown (deliver_row noop s from (VoteSay term granted)).node.log (deliver_row noop s from (VoteSay term granted)).node.votes.term (said_log noop s from term granted)
    passes_deliver from (Append term prev prev_term entries commit) b = passes_append from term prev prev_term entries commit b
    passes_deliver from (AppendSay term ok upto) b = passes_say from term ok upto

    pub passes_ticked : (unseen : List ℕ) → Passes (raft_step noop s (Tick unseen)).node.log
    passes_ticked unseen =
        let r = tick_row noop s unseen in
        passes_advanced r.node (passes_grown r.node.log r.node.votes.term (tick_log noop s unseen))

    pub passes_delivered : (from : NodeId) (m : RaftMessage E) → Brings m → Passes (raft_step noop s (Deliver from m)).node.log
    passes_delivered from m b = passes_advanced (deliver_row noop s from m).node (passes_deliver from m b)

    pub passes_proposed : (change : E) → p change ≡ true → Passes (proposed s change).log
    passes_proposed change e =
        passes_advanced (with_entry s change) (passes_joined s.log (record { term = s.votes.term; change = change } ∷ []) own (ap (λ v. v && true) e))
