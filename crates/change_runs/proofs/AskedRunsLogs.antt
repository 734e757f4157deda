-- What holds of each change of a log, and of each that comes to it, holds of each change of the log after a step, and of what it sends.
use Rattle.std.proofs.Common.{◌≡◌, ℕ, ◌+◌, ◌-◌, ◌⊎◌, inl, inr, ◌==◌, nat_lt, min, max, Bool, true, false, refl, List, [], ◌∷◌, ◌++◌, length, map, take, drop, sym, subst, arith, take-append-drop}
use Rattle.std.specs.List.{AllByRecursion}
use Rattle.std.proofs.lemmas.Bool.{cond_both}
use Rattle.std.proofs.lemmas.Bool.Decides.{nat_tests}
use Rattle.log_runs.specs.runs.region_map.declared.id.NodeId.{NodeId}
use Rattle.log_runs.specs.runs.region_map.Nodes.{node_id}
use Rattle.log_runs.specs.runs.raft_vote.declared.log.LogEntry.{LogEntry}
use Rattle.log_runs.specs.runs.raft_vote.declared.message.RaftMessage.{RaftMessage}
use Rattle.log_runs.specs.runs.raft_vote.declared.message.RaftMessage.TheVariants.{VoteAsk, VoteSay, Append, AppendSay}
use Rattle.log_runs.specs.runs.raft_vote.State.{VoteState}
use Rattle.log_runs.specs.runs.raft_vote.Log.{last_term}
use Rattle.log_runs.specs.runs.raft_vote.Rows.{others, is_leader, wins, vote_tick, vote_said, asks, take_term, following}
use Rattle.log_runs.specs.runs.raft_append.Merge.{Taken, fits, agreeing, merged, taken}
use Rattle.log_runs.specs.runs.raft_append.Commit.{decided}
use Rattle.log_runs.specs.runs.raft_append.Peers.{reset_to}
use Rattle.log_runs.specs.runs.raft_node.declared.input.RaftInput.TheVariants.{Tick, Deliver}
use Rattle.log_runs.specs.runs.raft_node.State.{RaftState}
use Rattle.log_runs.specs.runs.raft_node.Rows.{RaftStepped, is_full, entries_limit, prev_for, append_to, append_all, with_entry, won, elected, elect_row, tick_row, answered, append_row, say_row, deliver_row, advanced, raft_step, proposed}
use Rattle.log_runs.proofs.step_runs.PointBranches.{all_append}
use Rattle.log_runs.proofs.runs.list_laws.All.{all_split}

-- ---- what a step does to the entries of a log

-- the log has its entries, and maybe one more
abbrev pub IsGrown : {E : Type 0} → List (LogEntry E) → List (LogEntry E) → ℕ → E → Type 0
IsGrown before after term change = (after ≡ before) ⊎ (after ≡ before ++ record { term = term; change = change } ∷ [])

module _ {E : Type 0} (noop : E) (s : RaftState E) where
  tick_log : (unseen : List ℕ) → (let t = (tick_row noop s unseen).node in IsGrown s.log t.log t.votes.term noop)
  tick_log unseen = grind (arith, nat_tests)

  said_log : (from : NodeId) (term : ℕ) (granted : Bool) → (let t = (deliver_row noop s from (VoteSay term granted)).node in IsGrown s.log t.log t.votes.term noop)
  said_log from term granted = grind (arith, nat_tests)

advanced_log : {E : Type 0} (t : RaftState E) → (advanced t).log ≡ t.log
advanced_log {E} t =
    cond_both (is_leader t.votes.role) (record t { view = max t.view (decided t.votes t.log t.peers) }) t (λ (u : RaftState E). u.log ≡ t.log) (λ _. refl) (λ _. refl)

pub ticked_log : {E : Type 0} (noop : E) (s : RaftState E) (unseen : List ℕ) → (let t = (raft_step noop s (Tick unseen)).node in IsGrown s.log t.log (tick_row noop s unseen).node.votes.term noop)
ticked_log noop s unseen =
    let r = tick_row noop s unseen in
    subst (λ l. IsGrown s.log l r.node.votes.term noop) (sym (advanced_log r.node)) (tick_log noop s unseen)

pub proposed_log : {E : Type 0} (s : RaftState E) (change : E) → (proposed s change).log ≡ s.log ++ record { term = s.votes.term; change = change } ∷ []
proposed_log s change = advanced_log (with_entry s change)

module _ {E : Type 0} (P : E → Type 0) where
  abbrev pub Each : List (LogEntry E) → Type 0
  Each log = AllByRecursion (λ (e : LogEntry E). P e.change) log

  -- what a message brings
  abbrev pub Carries : RaftMessage E → Type 0
  Carries (VoteAsk term last_term last_index) = Unit {0}
  Carries (VoteSay term granted) = Unit {0}
  Carries (Append term prev prev_term entries commit) = Each entries
  Carries (AppendSay term ok upto) = Unit {0}

  each_joined : (xs ys : List (LogEntry E)) → Each xs → Each ys → Each (xs ++ ys)
  each_joined xs ys a b = all_append (λ (e : LogEntry E). P e.change) xs ys a b

  each_cut : (n : ℕ) (xs : List (LogEntry E)) → Each xs → Each (take n xs) × Each (drop n xs)
  each_cut n xs h = all_split (λ (e : LogEntry E). P e.change) (take n xs) (drop n xs) (subst Each (sym (take-append-drop n xs)) h)

  each_merged : (own new : List (LogEntry E)) → Each own → Each new → Each (merged own new)
  each_merged own new a b =
      let same = agreeing own new in
      cond_both (same == length new) own (take same own ++ drop same new) Each (λ _. a)
      (λ _. each_joined (take same own) (drop same new) (each_cut same own a).0 (each_cut same new b).1)

  each_taken : (log : List (LogEntry E)) (view prev prev_term : ℕ) (entries : List (LogEntry E)) (commit : ℕ) → Each log → Each entries → Each (taken log view prev prev_term entries commit).log
  each_taken log view prev prev_term entries commit a b =
      cond_both (fits log prev prev_term)
      (record { log = take prev log ++ merged (drop prev log) entries; view = max view (min commit (prev + length entries)); ok = true; upto = prev + length entries })
      (record { log = log; view = view; ok = false; upto = min (prev - 1) (length log) })
      (λ (t : Taken E). Each t.log)
      (λ _. each_joined (take prev log) (merged (drop prev log) entries) (each_cut prev log a).0 (each_merged (drop prev log) entries (each_cut prev log a).1 b))
      (λ _. a)

  module _ (noop : E) (idle : P noop) (s : RaftState E) (own : Each s.log) where
    each_grown : (log : List (LogEntry E)) (term : ℕ) (change : E) → P change → IsGrown s.log log term change → Each log
    each_grown log term change p (inl e) = subst Each (sym e) own
    each_grown log term change p (inr e) = subst Each (sym e) (each_joined s.log (record { term = term; change = change } ∷ []) own (p, tt))

    each_append : (from : NodeId) (term prev prev_term : ℕ) (entries : List (LogEntry E)) (commit : ℕ) → Each entries → Each (append_row s from term prev prev_term entries commit).node.log
    each_append from term prev prev_term entries commit new =
        cond_both (nat_lt term s.votes.term) (record { node = s; sent = (from, AppendSay s.votes.term false 0) ∷ [] })
        (answered (record s { votes = following (take_term s.votes term) from }) from (taken s.log s.view prev prev_term entries commit))
        (λ (r : RaftStepped E). Each r.node.log)
        (λ _. own)
        (λ _. each_taken s.log s.view prev prev_term entries commit own new)

    each_say : (from : NodeId) (term : ℕ) (ok : Bool) (upto : ℕ) → Each (say_row s from term ok upto).log
    each_say from term ok upto = let same : (say_row s from term ok upto).log ≡ s.log = grind (arith, nat_tests) in subst Each (sym same) own

    each_deliver : (from : NodeId) (m : RaftMessage E) → Carries m → Each (deliver_row noop s from m).node.log
    each_deliver from (VoteAsk term last_term last_index) b = own
    each_deliver from (VoteSay term granted) b =
        each_grown (deliver_row noop s from (VoteSay term granted)).node.log (deliver_row noop s from (VoteSay term granted)).node.votes.term noop idle (said_log noop s from term granted)
    each_deliver from (Append term prev prev_term entries commit) b = each_append from term prev prev_term entries commit b
    each_deliver from (AppendSay term ok upto) b = each_say from term ok upto

    pub each_ticked : (unseen : List ℕ) → Each (raft_step noop s (Tick unseen)).node.log
    each_ticked unseen = each_grown (raft_step noop s (Tick unseen)).node.log (tick_row noop s unseen).node.votes.term noop idle (ticked_log noop s unseen)

    pub each_delivered : (from : NodeId) (m : RaftMessage E) → Carries m → Each (raft_step noop s (Deliver from m)).node.log
    each_delivered from m b = subst Each (sym (advanced_log (deliver_row noop s from m).node)) (each_deliver from m b)

    pub each_proposed : (change : E) → P change → Each (proposed s change).log
    each_proposed change p = each_grown (proposed s change).log s.votes.term change p (inr (proposed_log s change))

  -- ---- what is sent

  abbrev pub Sends : List (NodeId × RaftMessage E) → Type 0
  Sends sent = AllByRecursion (λ (m : NodeId × RaftMessage E). Carries m.1) sent

  asks_carry : (term last index : ℕ) (to : List ℕ) → Sends (asks term last index to)
  asks_carry term last index [] = tt
  asks_carry term last index (n ∷ ns) = (tt, asks_carry term last index ns)

  appends_carry : (s : RaftState E) → Each s.log → (to : List NodeId) → Sends (map (λ n. (n, append_to s n)) to)
  appends_carry s own [] = tt
  appends_carry s own (n ∷ ns) = ((each_cut entries_limit (drop (prev_for s n) s.log) (each_cut (prev_for s n) s.log own).1).0, appends_carry s own ns)

  module _ (noop : E) (idle : P noop) (s : RaftState E) (own : Each s.log) where
    won_each : (votes : VoteState) → Each (won noop (record s { votes = votes })).log
    won_each votes =
        let t : RaftState E = record s { votes = votes; peers = reset_to (length s.log + 1) s.peers } in
        cond_both (is_full s.log) t (with_entry t noop) (λ (u : RaftState E). Each u.log)
        (λ _. own) (λ _. each_joined s.log (record { term = votes.term; change = noop } ∷ []) own (idle, tt))

    elected_carry : (votes : VoteState) (sent : List (NodeId × RaftMessage E)) → Sends sent → Sends (elected noop s votes sent).sent
    elected_carry votes sent before =
        let t : RaftState E = record s { votes = votes } in
        cond_both (wins s.votes votes) (record { node = won noop t; sent = sent ++ append_all (won noop t) }) (record { node = t; sent = sent }) (λ (r : RaftStepped E). Sends r.sent)
        (λ _. all_append (λ (m : NodeId × RaftMessage E). Carries m.1) sent (append_all (won noop t)) before (appends_carry (won noop t) (won_each votes) (map node_id (others (won noop t).votes))))
        (λ _. before)

    pub tick_carries : (unseen : List ℕ) → Sends (raft_step noop s (Tick unseen)).sent
    tick_carries unseen =
        let r = vote_tick s.votes unseen in
        cond_both (is_leader s.votes.role) (record { node = s; sent = append_all s }) (elect_row noop s unseen) (λ (r : RaftStepped E). Sends r.sent)
        (λ _. appends_carry s own (map node_id (others s.votes)))
        (λ _. elected_carry r.node (asks r.node.term (last_term s.log) (length s.log) r.asked) (asks_carry r.node.term (last_term s.log) (length s.log) r.asked))

    pub deliver_carries : (from : NodeId) (m : RaftMessage E) → Sends (raft_step noop s (Deliver from m)).sent
    deliver_carries from (VoteAsk term last_asked last_index) = (tt, tt)
    deliver_carries from (VoteSay term granted) = elected_carry (vote_said s.votes from term granted) [] tt
    deliver_carries from (Append term prev prev_term entries commit) =
        cond_both (nat_lt term s.votes.term) (record { node = s; sent = (from, AppendSay s.votes.term false 0) ∷ [] })
        (answered (record s { votes = following (take_term s.votes term) from }) from (taken s.log s.view prev prev_term entries commit))
        (λ (r : RaftStepped E). Sends r.sent) (λ _. (tt, tt)) (λ _. (tt, tt))
    deliver_carries from (AppendSay term ok upto) = tt
