-- Each entry of a log was put to the leader of its term, or is the one with which a leader began.
use Rattle.std.proofs.Common.{◌≡◌, ◌==◌, ◌&&◌, ℕ, zero, suc, ◌+◌, ◌-◌, min, max, nat_lt, cond, not, Bool, true, false, inl, inr, List, [], ◌∷◌, ◌++◌, map, length, take, drop, Option, Some, None, refl, sym, ap, subst, ◌∙◌, arith, slice_get, length-take}
use Rattle.std.proofs.lemmas.Bool.{cond_both, and_from, and_parts}
use Rattle.std.proofs.lemmas.List.Sums.{common_prefix_len-le}
use Rattle.std.specs.Prelude.{slice_set}
use Rattle.std.specs.List.{AllByRecursion}
use Rattle.list_laws.proofs.All.{all_append, all_weaker, all_map, all_map_of, all_at}
use Rattle.region_map.specs.declared.id.NodeId.{NodeId}
use Rattle.region_map.specs.Nodes.{node_id}
use Rattle.raft_vote.specs.declared.log.LogEntry.{LogEntry}
use Rattle.raft_vote.specs.declared.message.RaftMessage.{RaftMessage}
use Rattle.raft_vote.specs.declared.message.RaftMessage.TheVariants.{VoteAsk, VoteSay, Append, AppendSay}
use Rattle.raft_vote.specs.State.{VoteState}
use Rattle.raft_vote.specs.Log.{last_term}
use Rattle.raft_vote.specs.Rows.{others, is_leader, wins, vote_tick, asks, take_term, following, vote_said}
use Rattle.raft_append.specs.Merge.{Taken, fits, agreeing, merged, taken}
use Rattle.raft_append.specs.Commit.{decided}
use Rattle.raft_append.specs.Peers.{progress_at, progressed, reset_to}
use Rattle.raft_node.specs.declared.input.RaftInput.{RaftInput}
use Rattle.raft_node.specs.declared.input.RaftInput.TheVariants.{Tick as InputTick, Deliver as InputDeliver}
use Rattle.raft_node.specs.State.{RaftState}
use Rattle.raft_node.specs.Rows.{RaftStepped, is_full, entries_limit, prev_for, append_to, append_all, with_entry, won, elected, tick_row, answered, deliver_row, input_row, advanced, raft_step, proposed, ends_numbers}
use Rattle.schedule_laws.specs.Schedules.{set_at}
use Rattle.schedule_laws.proofs.Nodes.{set_at_both}
use Rattle.schedule_laws.proofs.Runs.{run-push}
use Rattle.raft_laws.specs.declared.event.RaftEvent.{RaftEvent}
use Rattle.raft_laws.specs.declared.event.RaftEvent.TheVariants.{Tick, Propose, Deliver, Crash, Restart}
use Rattle.raft_laws.specs.World.{Sent, World, start, after, moment, posted, steps, message_to, comes, proposes, kept, acts, rests, happens, leads, term_of_node, log_of}
use Rattle.raft_laws.specs.Sources.{EachFrom, CarriesFrom, HasSources, IsPut}
use Rattle.raft_laws.proofs.Logs.{fits_within}
use Rattle.raft_laws.proofs.Fitting.{message_is}

module _ {E : Type 0} (from : ℕ → LogEntry E → Type 0) where
  each-append : (k : ℕ) (xs ys : List (LogEntry E)) → EachFrom from k xs → EachFrom from (k + length xs) ys → EachFrom from k (xs ++ ys)
  each-append k [] ys h i = let e : k + 0 ≡ k = omega arith in subst (λ (m : ℕ). EachFrom from m ys) e i
  each-append k (x ∷ xs) ys h i =
      let e : k + length (x ∷ xs) ≡ suc k + length xs = omega arith in
      (h.0, each-append (suc k) xs ys h.1 (subst (λ (m : ℕ). EachFrom from m ys) e i))

  each-take : (n k : ℕ) (xs : List (LogEntry E)) → EachFrom from k xs → EachFrom from k (take n xs)
  each-take zero k xs h = tt
  each-take (suc n) k [] h = tt
  each-take (suc n) k (x ∷ xs) h = (h.0, each-take n (suc k) xs h.1)

  each-drop : (n k : ℕ) (xs : List (LogEntry E)) → EachFrom from k xs → EachFrom from (k + n) (drop n xs)
  each-drop zero k xs h = let e : k ≡ k + 0 = omega arith in subst (λ (m : ℕ). EachFrom from m xs) e h
  each-drop (suc n) k [] h = tt
  each-drop (suc n) k (x ∷ xs) h =
      let e : suc k + n ≡ k + suc n = omega arith in
      subst (λ (m : ℕ). EachFrom from m (drop n xs)) e (each-drop n (suc k) xs h.1)

  -- the part of a log behind a place
  each-behind : (n : ℕ) (xs : List (LogEntry E)) → EachFrom from 0 xs → EachFrom from n (drop n xs)
  each-behind n xs h = let e : 0 + n ≡ n = omega arith in subst (λ (m : ℕ). EachFrom from m (drop n xs)) e (each-drop n 0 xs h)

  -- ---- a log that takes entries

  each-merged : (k : ℕ) (own new : List (LogEntry E)) → EachFrom from k own → EachFrom from k new → EachFrom from k (merged own new)
  each-merged k own new a b =
      let same = agreeing own new in
      let short = (common_prefix_len-le (λ x y. x.term == y.term) own new).0 in
      let cut : length (take same own) ≡ same = length-take same own ∙ omega (arith, short) in
      cond_both (same == length new) own (take same own ++ drop same new) (EachFrom from k) (λ _. a)
      (λ _. each-append k (take same own) (drop same new) (each-take same k own a)
      (subst (λ (m : ℕ). EachFrom from (k + m) (drop same new)) (sym cut) (each-drop same k new b)))

  each-taken : (log : List (LogEntry E)) (view prev prev_term : ℕ) (entries : List (LogEntry E)) (commit : ℕ) → EachFrom from 0 log → EachFrom from prev entries → EachFrom from 0 (taken log view prev prev_term entries commit).log
  each-taken log view prev prev_term entries commit a b =
      cond_both (fits log prev prev_term) (record { log = take prev log ++ merged (drop prev log) entries; view = max view (min commit (prev + length entries)); ok = true; upto = prev + length entries })
      (record { log = log; view = view; ok = false; upto = min (prev - 1) (length log) }) (λ (t : Taken E). EachFrom from 0 t.log)
      (λ f.
      let within = fits_within log prev prev_term f in
      let cut : 0 + length (take prev log) ≡ prev = ap (λ (m : ℕ). 0 + m) (length-take prev log) ∙ omega (arith, within) in
      each-append 0 (take prev log) (merged (drop prev log) entries) (each-take prev 0 log a)
      (subst (λ (m : ℕ). EachFrom from m (merged (drop prev log) entries)) (sym cut) (each-merged prev (drop prev log) entries (each-behind prev log a) b)))
      (λ _. a)

  -- ---- rows

  abbrev Carried : List (NodeId × RaftMessage E) → Type 0
  Carried xs = AllByRecursion (λ (x : NodeId × RaftMessage E). CarriesFrom from x.1) xs

  -- what a node has and sends after a row
  pub record StepFrom (r : RaftStepped E) : Type 0 where
    pub log : EachFrom from 0 r.node.log
    pub sent : Carried r.sent

  carried_all : (s : RaftState E) → EachFrom from 0 s.log → Carried (append_all s)
  carried_all s h = all_map_of (λ (x : NodeId × RaftMessage E). CarriesFrom from x.1) (λ (n : NodeId). (n, append_to s n)) (map node_id (others s.votes)) (λ n. each-take entries_limit (prev_for s n) (drop (prev_for s n) s.log) (each-behind (prev_for s n) s.log h))

  carried_asks : (term last index : ℕ) (to : List ℕ) → Carried (asks term last index to)
  carried_asks term last index to = all_map_of (λ (x : NodeId × RaftMessage E). CarriesFrom from x.1) (λ (n : NodeId). (n, VoteAsk term last index)) (map node_id to) (λ n. tt)

  each-entry : (log : List (LogEntry E)) (e : LogEntry E) → EachFrom from 0 log → from (suc (length log)) e → EachFrom from 0 (log ++ e ∷ [])
  each-entry log e h f =
      let at : suc (length log) ≡ suc (0 + length log) = omega arith in
      each-append 0 log (e ∷ []) h (subst (λ (m : ℕ). from m e) at f, tt)

  module _ (noop : E) (begins : (index term : ℕ) → from index (record { term = term; change = noop })) where
    won_from : (s : RaftState E) → EachFrom from 0 s.log → EachFrom from 0 (won noop s).log
    won_from s h =
        let t : RaftState E = record s { peers = reset_to (length s.log + 1) s.peers } in
        cond_both (is_full s.log) t (with_entry t noop) (λ (x : RaftState E). EachFrom from 0 x.log) (λ _. h)
        (λ _. each-entry s.log (record { term = s.votes.term; change = noop }) h (begins (suc (length s.log)) s.votes.term))

    elected_from : (s : RaftState E) (votes : VoteState) (sent : List (NodeId × RaftMessage E)) → EachFrom from 0 s.log → Carried sent → StepFrom (elected noop s votes sent)
    elected_from s votes sent h c =
        let t : RaftState E = record s { votes = votes } in
        cond_both (wins s.votes votes) (record { node = won noop t; sent = sent ++ append_all (won noop t) }) (record { node = t; sent = sent }) StepFrom
        (λ _. let led = won_from t h in record { log = led; sent = all_append (λ (x : NodeId × RaftMessage E). CarriesFrom from x.1) sent (append_all (won noop t)) c (carried_all (won noop t) led) })
        (λ _. record { log = h; sent = c })

    tick_from : (s : RaftState E) (unseen : List ℕ) → EachFrom from 0 s.log → StepFrom (tick_row noop s unseen)
    tick_from s unseen h =
        let r = vote_tick s.votes unseen in
        let ask = asks r.node.term (last_term s.log) (length s.log) r.asked in
        cond_both (is_leader s.votes.role) (record { node = s; sent = append_all s }) (elected noop s r.node ask) StepFrom
        (λ _. record { log = h; sent = carried_all s h })
        (λ _. elected_from s r.node ask h (carried_asks r.node.term (last_term s.log) (length s.log) r.asked))

    deliver_from : (s : RaftState E) (sender : NodeId) (m : RaftMessage E) → EachFrom from 0 s.log → CarriesFrom from m → StepFrom (deliver_row noop s sender m)
    deliver_from s sender (VoteAsk term last index) h c = record { log = h; sent = (tt, tt) }
    deliver_from s sender (VoteSay term granted) h c = elected_from s (vote_said s.votes sender term granted) [] h tt
    deliver_from s sender (Append term prev prev_term entries commit) h c =
        cond_both (nat_lt term s.votes.term) (record { node = s; sent = (sender, AppendSay s.votes.term false 0) ∷ [] })
        (answered (record s { votes = following (take_term s.votes term) sender }) sender (taken s.log s.view prev prev_term entries commit)) StepFrom
        (λ _. record { log = h; sent = (tt, tt) })
        (λ _. record { log = each-taken s.log s.view prev prev_term entries commit h c; sent = (tt, tt) })
    deliver_from s sender (AppendSay term ok upto) h c =
        let t : RaftState E = record s { votes = take_term s.votes term } in
        record {
          log = cond_both (is_leader t.votes.role && (t.votes.term == term)) (record t { peers = slice_set s.peers sender.0 (progressed (progress_at s.peers sender.0) (length s.log) ok upto) }) t
              (λ (x : RaftState E). EachFrom from 0 x.log) (λ _. h) (λ _. h);
          sent = tt;
        }

    advanced_from : (s : RaftState E) → EachFrom from 0 s.log → EachFrom from 0 (advanced s).log
    advanced_from s h = cond_both (is_leader s.votes.role) (record s { view = max s.view (decided s.votes s.log s.peers) }) s (λ (x : RaftState E). EachFrom from 0 x.log) (λ _. h) (λ _. h)

    abbrev Given : RaftInput E → Type 0
    Given (InputTick unseen) = Unit {0}
    Given (InputDeliver sender m) = CarriesFrom from m

    row_from : (s : RaftState E) (i : RaftInput E) → EachFrom from 0 s.log → Given i → StepFrom (input_row noop s i)
    row_from s (InputTick unseen) h g = tick_from s unseen h
    row_from s (InputDeliver sender m) h g = deliver_from s sender m h g

    -- ---- events

    module _ (nodes : ℕ) (w : World E) (h : HasSources from w) where
      steps_from : (n : ℕ) (i : RaftInput E) → Given i → HasSources from (steps noop w n i)
      steps_from n i g =
          let r = raft_step noop (w.node n) i in
          let x = row_from (w.node n) i (h.logs n) g in
          cond_both (not (ends_numbers (w.node n) i)) (record w { node = set_at w.node n r.node; sent = w.sent ++ posted n r.sent }) w (HasSources from)
          (λ _. record {
            logs = set_at_both (λ k (s : RaftState E). EachFrom from 0 s.log) w.node n r.node (advanced_from (input_row noop (w.node n) i).node x.log) (λ k other. h.logs k);
            sent = all_append (λ (m : Sent E). CarriesFrom from m.message) w.sent (posted n r.sent) h.sent
                (all_map (λ (y : NodeId × RaftMessage E). CarriesFrom from y.1) (λ (m : Sent E). CarriesFrom from m.message) (λ (y : NodeId × RaftMessage E). record { from = node_id n; to = y.0; message = y.1 }) r.sent (λ y c. c) x.sent);
          })
          (λ _. h)

      proposes_from : (n : ℕ) (change : E) → (is_leader (w.node n).votes.role ≡ true → from (suc (length (log_of w n))) (record { term = term_of_node w n; change = change })) → HasSources from (proposes w n change)
      proposes_from n change put =
          let s = w.node n in
          cond_both (is_leader s.votes.role && not (is_full s.log)) (record w { node = set_at w.node n (proposed s change) }) w (HasSources from)
          (λ e. record {
            logs = set_at_both (λ k (t : RaftState E). EachFrom from 0 t.log) w.node n (proposed s change)
                (advanced_from (with_entry s change) (each-entry s.log (record { term = s.votes.term; change = change }) (h.logs n) (put (and_parts (is_leader s.votes.role) (not (is_full s.log)) e).0))) (λ k other. h.logs k);
            sent = h.sent;
          })
          (λ _. h)

      comes_from : (n number : ℕ) (o : Option (Sent E)) → message_to w.sent n number ≡ o → HasSources from (comes noop w n o)
      comes_from n number None e = h
      comes_from n zero (Some m) e = absurd (cc e)
      comes_from n (suc place) (Some m) e =
          steps_from n (InputDeliver m.from m.message) (all_at (λ (x : Sent E). CarriesFrom from x.message) w.sent place m h.sent (message_is nodes noop w.sent n place m (slice_get w.sent place) refl e))

      stops_from : (n : ℕ) (up : ℕ → Bool) → HasSources from (record w { node = set_at w.node n (kept nodes (w.node n)); up = up })
      stops_from n up = record { logs = set_at_both (λ k (s : RaftState E). EachFrom from 0 s.log) w.node n (kept nodes (w.node n)) (h.logs n) (λ k other. h.logs k); sent = h.sent }

      -- what is put to a node that leads may stand in a log
      abbrev pub Puts : ℕ → RaftEvent E → Type 0
      Puts n (Tick unseen) = Unit {0}
      Puts n (Propose change) = leads w n ≡ true → from (suc (length (log_of w n))) (record { term = term_of_node w n; change = change })
      Puts n (Deliver number) = Unit {0}
      Puts n Crash = Unit {0}
      Puts n Restart = Unit {0}

      acts_from : (n : ℕ) (e : RaftEvent E) → w.up n ≡ true → Puts n e → HasSources from (acts nodes noop w n e)
      acts_from n (Tick unseen) is p = steps_from n (InputTick unseen) tt
      acts_from n (Propose change) is p = proposes_from n change (λ l. p (and_from (w.up n) (is_leader (w.node n).votes.role) is l))
      acts_from n (Deliver number) is p = comes_from n number (message_to w.sent n number) refl
      acts_from n Crash is p = stops_from n (set_at w.up n false)
      acts_from n Restart is p = h

      rests_from : (n : ℕ) (e : RaftEvent E) → HasSources from (rests nodes w n e)
      rests_from n (Tick unseen) = h
      rests_from n (Propose change) = h
      rests_from n (Deliver number) = h
      rests_from n Crash = h
      rests_from n Restart = stops_from n (set_at w.up n true)

      pub happens_from : (x : NodeId × RaftEvent E) → Puts x.0.0 x.1 → HasSources from (happens nodes noop w x)
      happens_from x p =
          let n = x.0.0 in
          cond_both (nat_lt n nodes) (cond (w.up n) (acts nodes noop w n x.1) (rests nodes w n x.1)) w (HasSources from)
          (λ _. cond_both (w.up n) (acts nodes noop w n x.1) (rests nodes w n x.1) (HasSources from) (λ is. acts_from n x.1 is p) (λ _. rests_from n x.1))
          (λ _. h)

-- ---- runs

module _ {E : Type 0} (f g : ℕ → LogEntry E → Type 0) (weaker : (index : ℕ) (e : LogEntry E) → f index e → g index e) where
  each-weaker : (k : ℕ) (xs : List (LogEntry E)) → EachFrom f k xs → EachFrom g k xs
  each-weaker k [] h = tt
  each-weaker k (x ∷ xs) h = (weaker (suc k) x h.0, each-weaker (suc k) xs h.1)

  carries-weaker : (m : RaftMessage E) → CarriesFrom f m → CarriesFrom g m
  carries-weaker (VoteAsk term last index) h = tt
  carries-weaker (VoteSay term granted) h = tt
  carries-weaker (Append term prev prev_term entries commit) h = each-weaker prev entries h
  carries-weaker (AppendSay term ok upto) h = tt

  pub sources-weaker : (w : World E) → HasSources f w → HasSources g w
  sources-weaker w h =
      record {
        logs = λ n. each-weaker 0 (log_of w n) (h.logs n);
        sent = all_weaker (λ (m : Sent E). CarriesFrom f m.message) (λ (m : Sent E). CarriesFrom g m.message) w.sent (λ m. carries-weaker m.message) h.sent;
      }

pub take_next : {X : Type 0} (xs : List X) (i : ℕ) (x : X) → slice_get xs i ≡ Some x → take (suc i) xs ≡ take i xs ++ x ∷ []
take_next [] i x e = absurd (cc e)
take_next (y ∷ ys) zero x e = let same : y ≡ x = cc in ap (λ z. z ∷ []) same
take_next (y ∷ ys) (suc i) x e = ap (λ zs. y ∷ zs) (take_next ys i x e)

pub take_past : {X : Type 0} (xs : List X) (i : ℕ) → slice_get xs i ≡ None → take (suc i) xs ≡ take i xs
take_past [] zero e = refl
take_past [] (suc i) e = refl
take_past (y ∷ ys) zero e = absurd (cc e)
take_past (y ∷ ys) (suc i) e = ap (λ zs. y ∷ zs) (take_past ys i e)

module _ {E : Type 0} (nodes : ℕ) (noop : E) (events : List (NodeId × RaftEvent E)) where
  abbrev Put : ℕ → ℕ → LogEntry E → Type 0
  Put i = IsPut nodes noop events i

  put-later : (i index : ℕ) (e : LogEntry E) → Put i index e → Put (suc i) index e
  put-later i index e (inl empty) = inl empty
  put-later i index e (inr p) =
      let h = p.earlier in
      inr (record { at = p.at; earlier = omega (arith, h); leader = p.leader; event = p.event; leads = p.leads; term = p.term; place = p.place })

  puts_at : (i : ℕ) (n : NodeId) (e : RaftEvent E) → slice_get events i ≡ Some (n, e) → (h : HasSources (Put (suc i)) (moment nodes noop events i)) → Puts (Put (suc i)) noop (λ index term. inl refl) nodes (moment nodes noop events i) h n.0 e
  puts_at i n (Tick unseen) at h = tt
  puts_at i n (Propose change) at h =
      λ leading. inr (record { at = i; earlier = omega arith; leader = n; event = at; leads = leading; term = refl; place = refl })
  puts_at i n (Deliver number) at h = tt
  puts_at i n Crash at h = tt
  puts_at i n Restart at h = tt

  next_put : (i : ℕ) (o : Option (NodeId × RaftEvent E)) → slice_get events i ≡ o → HasSources (Put (suc i)) (moment nodes noop events i) → HasSources (Put (suc i)) (moment nodes noop events (suc i))
  next_put i None e h = subst (λ es. HasSources (Put (suc i)) (after nodes noop es)) (sym (take_past events i e)) h
  next_put i (Some x) e h =
      let now : moment nodes noop events (suc i) ≡ happens nodes noop (moment nodes noop events i) x = ap (after nodes noop) (take_next events i x e) ∙ run-push (happens nodes noop) (take i events) x (start nodes) in
      subst (HasSources (Put (suc i))) (sym now) (happens_from (Put (suc i)) noop (λ index term. inl refl) nodes (moment nodes noop events i) h x (puts_at i x.0 x.1 e h))

  pub are_put : (i : ℕ) → HasSources (Put i) (moment nodes noop events i)
  are_put zero = record { logs = λ n. tt; sent = tt }
  are_put (suc i) = next_put i (slice_get events i) refl (sources-weaker (Put i) (Put (suc i)) (put-later i) (moment nodes noop events i) (are_put i))
