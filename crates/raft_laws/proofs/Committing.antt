-- What a node acts on, a leader acted on first.
use Rattle.std.proofs.Common.{◌≡◌, ◌==◌, ◌&&◌, ℕ, zero, suc, ◌≤◌, ◌+◌, ◌-◌, min, max, nat_lt, cond, not, Bool, true, false, inl, inr, List, [], ◌∷◌, ◌++◌, map, length, take, drop, Option, Some, None, refl, sym, ap, subst, ◌∙◌, arith, slice_get, append_assoc}
use Rattle.std.proofs.lemmas.Bool.{cond_both, cases_lt, and_from}
use Rattle.std.proofs.lemmas.Bool.Decides.{nat_tests}
use Rattle.std.specs.Prelude.{slice_set}
use Rattle.std.specs.List.{AllByRecursion}
use Rattle.list_laws.proofs.All.{all_append, all_weaker, all_map, all_map_of, all_at}
use Rattle.region_map.specs.declared.id.NodeId.{NodeId}
use Rattle.region_map.specs.Nodes.{node_id}
use Rattle.raft_vote.specs.declared.log.LogEntry.{LogEntry}
use Rattle.raft_vote.specs.declared.message.RaftMessage.{RaftMessage}
use Rattle.raft_vote.specs.declared.message.RaftMessage.TheVariants.{VoteAsk, VoteSay, Append, AppendSay}
use Rattle.raft_vote.specs.State.{VoteState}
use Rattle.raft_vote.specs.Log.{last_term}
use Rattle.raft_vote.specs.Rows.{others, is_leader, wins, vote_tick, asks, take_term, following, vote_asked, vote_said}
use Rattle.raft_append.specs.Merge.{Taken, fits, merged, taken}
use Rattle.raft_append.specs.Commit.{decided}
use Rattle.raft_append.specs.Peers.{progress_at, progressed, reset_to}
use Rattle.raft_node.specs.declared.input.RaftInput.{RaftInput}
use Rattle.raft_node.specs.declared.input.RaftInput.TheVariants.{Tick as InputTick, Deliver as InputDeliver}
use Rattle.raft_node.specs.State.{RaftState}
use Rattle.raft_node.specs.Rows.{RaftStepped, is_full, append_to, append_all, with_entry, won, elected, tick_row, answered, deliver_row, input_row, advanced, raft_step, proposed, ends_numbers}
use Rattle.schedule_laws.specs.Schedules.{set_at}
use Rattle.schedule_laws.proofs.Nodes.{set_at_both, set_at-same}
use Rattle.schedule_laws.proofs.Runs.{run-push}
use Rattle.raft_laws.specs.declared.event.RaftEvent.{RaftEvent}
use Rattle.raft_laws.specs.declared.event.RaftEvent.TheVariants.{Tick, Propose, Deliver, Crash, Restart}
use Rattle.raft_laws.specs.World.{Sent, World, start, after, moment, posted, steps, message_to, comes, proposes, kept, acts, rests, happens, leads, term_of_node, log_of, committed}
use Rattle.raft_laws.specs.Laws.{IsFrontOf}
use Rattle.raft_laws.specs.Commits.{WasLed, IsLed, ShowsFrom, HasViews, IsCommitted, LeadersCommit}
use Rattle.raft_laws.proofs.Fitting.{message_is}
use Rattle.raft_laws.proofs.Moments.{both, agreed, leaders_complete}
use Rattle.raft_laws.proofs.Sources.{take_next, take_past}

-- ---- terms do not fall

tick_term : (s : VoteState) (unseen : List ℕ) → s.term ≤ (vote_tick s unseen).node.term
tick_term s unseen = grind (arith, nat_tests)

asked_term : (s : VoteState) (from : NodeId) (term last_term last_index own_term own_index : ℕ) → s.term ≤ (vote_asked s from term last_term last_index own_term own_index).node.term
asked_term s from term last_term last_index own_term own_index = grind (arith, nat_tests)

said_term : (s : VoteState) (from : NodeId) (term : ℕ) (granted : Bool) → s.term ≤ (vote_said s from term granted).term
said_term s from term granted = grind (arith, nat_tests)

taken_term : (s : VoteState) (term : ℕ) → s.term ≤ (take_term s term).term
taken_term s term = grind (arith, nat_tests)

-- a term that is not smaller is the one that is then had
same_term : (s : VoteState) (term : ℕ) → nat_lt term s.term ≡ false → (take_term s term).term ≡ term
same_term s term e = grind (arith, nat_tests)

greater_of : (P : ℕ → Type 0) (a b : ℕ) → P a → P b → P (max a b)
greater_of P a b x y =
    elim (cases_lt a b) [
      | inl less ↦ let e : max a b ≡ b = omega (arith, less) in subst P (sym e) y
      | inr more ↦ let e : max a b ≡ a = omega (arith, more) in subst P (sym e) x
    ]

-- a view that takes entries is as it was, or goes no further than the leader's
taken_view : {E : Type 0} (log : List (LogEntry E)) (view prev prev_term : ℕ) (entries : List (LogEntry E)) (commit : ℕ) (P : ℕ → Type 0) → P view → ((v : ℕ) → v ≤ commit → P v) → P (taken log view prev prev_term entries commit).view
taken_view {E = E} log view prev prev_term entries commit P old new =
    cond_both (fits log prev prev_term) (record { log = take prev log ++ merged (drop prev log) entries; view = max view (min commit (prev + length entries)); ok = true; upto = prev + length entries })
    (record { log = log; view = view; ok = false; upto = min (prev - 1) (length log) }) (λ (t : Taken E). P t.view)
    (λ _. greater_of P view (min commit (prev + length entries)) old (new (min commit (prev + length entries)) (omega arith)))
    (λ _. old)

shown_asks : (E : Type 0) (from : ℕ → ℕ → Type 0) (term last index : ℕ) (to : List ℕ) → AllByRecursion (λ (x : NodeId × RaftMessage E). ShowsFrom from x.1) (asks term last index to)
shown_asks E from term last index to = all_map_of (λ (x : NodeId × RaftMessage E). ShowsFrom from x.1) (λ (n : NodeId). (n, VoteAsk term last index)) (map node_id to) (λ n. tt)

module _ {E : Type 0} (from : ℕ → ℕ → Type 0) (weaker : (t u v w : ℕ) → t ≤ u → w ≤ v → from t v → from u w) where
  abbrev Shown : List (NodeId × RaftMessage E) → Type 0
  Shown xs = AllByRecursion (λ (x : NodeId × RaftMessage E). ShowsFrom from x.1) xs

  -- how far a node acts on its log and what it sends after a row
  pub record ViewFrom (r : RaftStepped E) : Type 0 where
    pub view : from r.node.votes.term r.node.view
    pub sent : Shown r.sent

  shown_all : (s : RaftState E) → from s.votes.term s.view → Shown (append_all s)
  shown_all s h = all_map_of (λ (x : NodeId × RaftMessage E). ShowsFrom from x.1) (λ (n : NodeId). (n, append_to s n)) (map node_id (others s.votes)) (λ n. h)

  won_view : (noop : E) (s : RaftState E) → from s.votes.term s.view → from (won noop s).votes.term (won noop s).view
  won_view noop s h =
      let t : RaftState E = record s { peers = reset_to (length s.log + 1) s.peers } in
      cond_both (is_full s.log) t (with_entry t noop) (λ (x : RaftState E). from x.votes.term x.view) (λ _. h) (λ _. h)

  elected_view : (noop : E) (s : RaftState E) (votes : VoteState) (sent : List (NodeId × RaftMessage E)) → from votes.term s.view → Shown sent → ViewFrom (elected noop s votes sent)
  elected_view noop s votes sent h c =
      let t : RaftState E = record s { votes = votes } in
      cond_both (wins s.votes votes) (record { node = won noop t; sent = sent ++ append_all (won noop t) }) (record { node = t; sent = sent }) ViewFrom
      (λ _. let led = won_view noop t h in record { view = led; sent = all_append (λ (x : NodeId × RaftMessage E). ShowsFrom from x.1) sent (append_all (won noop t)) c (shown_all (won noop t) led) })
      (λ _. record { view = h; sent = c })

  tick_view : (noop : E) (s : RaftState E) (unseen : List ℕ) → from s.votes.term s.view → ViewFrom (tick_row noop s unseen)
  tick_view noop s unseen h =
      let r = vote_tick s.votes unseen in
      let ask = asks r.node.term (last_term s.log) (length s.log) r.asked in
      cond_both (is_leader s.votes.role) (record { node = s; sent = append_all s }) (elected noop s r.node ask) ViewFrom
      (λ _. record { view = h; sent = shown_all s h })
      (λ _. elected_view noop s r.node ask (weaker s.votes.term r.node.term s.view s.view (tick_term s.votes unseen) (omega arith) h) (shown_asks E from r.node.term (last_term s.log) (length s.log) r.asked))

  deliver_view : (noop : E) (s : RaftState E) (sender : NodeId) (m : RaftMessage E) → from s.votes.term s.view → ShowsFrom from m → ViewFrom (deliver_row noop s sender m)
  deliver_view noop s sender (VoteAsk term last index) h c =
      let r = vote_asked s.votes sender term last index (last_term s.log) (length s.log) in
      record { view = weaker s.votes.term r.node.term s.view s.view (asked_term s.votes sender term last index (last_term s.log) (length s.log)) (omega arith) h; sent = (tt, tt) }
  deliver_view noop s sender (VoteSay term granted) h c =
      elected_view noop s (vote_said s.votes sender term granted) [] (weaker s.votes.term (vote_said s.votes sender term granted).term s.view s.view (said_term s.votes sender term granted) (omega arith) h) tt
  deliver_view noop s sender (Append term prev prev_term entries commit) h c =
      cond_both (nat_lt term s.votes.term) (record { node = s; sent = (sender, AppendSay s.votes.term false 0) ∷ [] })
      (answered (record s { votes = following (take_term s.votes term) sender }) sender (taken s.log s.view prev prev_term entries commit)) ViewFrom
      (λ _. record { view = h; sent = (tt, tt) })
      (λ e. record {
        view = taken_view s.log s.view prev prev_term entries commit (from (take_term s.votes term).term)
            (weaker s.votes.term (take_term s.votes term).term s.view s.view (taken_term s.votes term) (omega arith) h)
            (λ v l. let same = same_term s.votes term e in weaker term (take_term s.votes term).term commit v (omega (arith, same)) l c);
        sent = (tt, tt);
      })
  deliver_view noop s sender (AppendSay term ok upto) h c =
      let t : RaftState E = record s { votes = take_term s.votes term } in
      let now = weaker s.votes.term (take_term s.votes term).term s.view s.view (taken_term s.votes term) (omega arith) h in
      record {
        view = cond_both (is_leader t.votes.role && (t.votes.term == term)) (record t { peers = slice_set s.peers sender.0 (progressed (progress_at s.peers sender.0) (length s.log) ok upto) }) t
            (λ (x : RaftState E). from x.votes.term x.view) (λ _. now) (λ _. now);
        sent = tt;
      }

  abbrev Given : RaftInput E → Type 0
  Given (InputTick unseen) = Unit {0}
  Given (InputDeliver sender m) = ShowsFrom from m

  row_view : (noop : E) (s : RaftState E) (i : RaftInput E) → from s.votes.term s.view → Given i → ViewFrom (input_row noop s i)
  row_view noop s (InputTick unseen) h g = tick_view noop s unseen h
  row_view noop s (InputDeliver sender m) h g = deliver_view noop s sender m h g

  -- a node that leads has its view from itself
  advanced_view : (s : RaftState E) → from s.votes.term s.view → (is_leader (advanced s).votes.role ≡ true → from (advanced s).votes.term (advanced s).view) → from (advanced s).votes.term (advanced s).view
  advanced_view s h lead =
      let t : RaftState E = record s { view = max s.view (decided s.votes s.log s.peers) } in
      cond_both (is_leader s.votes.role) t s (λ (x : RaftState E). (is_leader x.votes.role ≡ true → from x.votes.term x.view) → from x.votes.term x.view)
      (λ e own. own e) (λ _ _. h) lead

  -- ---- events

  -- each node that leads has its view
  abbrev Lead : World E → Type 0
  Lead v = (k : ℕ) → leads v k ≡ true → from (term_of_node v k) (v.node k).view

  -- so the node that went on
  lead_at : (f : ℕ → RaftState E) (up : ℕ → Bool) (sent : List (Sent E)) (n : ℕ) (t : RaftState E) → up n ≡ true → Lead (record { node = set_at f n t; up = up; sent = sent }) → is_leader t.votes.role ≡ true → from t.votes.term t.view
  lead_at f up sent n t is lead l =
      let same = set_at-same f n t in
      subst (λ (x : RaftState E). from x.votes.term x.view) same
      (lead n (and_from (up n) (is_leader (set_at f n t n).votes.role) is (ap (λ (x : RaftState E). is_leader x.votes.role) same ∙ l)))

  module _ (nodes : ℕ) (noop : E) (w : World E) (h : HasViews from w) where
    abbrev Viewed : World E → Type 0
    Viewed v = Lead v → HasViews from v

    as_before : Viewed w
    as_before lead = h

    steps_view : (n : ℕ) (i : RaftInput E) → w.up n ≡ true → Given i → Viewed (steps noop w n i)
    steps_view n i is g =
        let r = raft_step noop (w.node n) i in
        let x = row_view noop (w.node n) i (h.views n) g in
        cond_both (not (ends_numbers (w.node n) i)) (record w { node = set_at w.node n r.node; sent = w.sent ++ posted n r.sent }) w Viewed
        (λ _ lead. record {
          views = set_at_both (λ k (s : RaftState E). from s.votes.term s.view) w.node n r.node
              (advanced_view (input_row noop (w.node n) i).node x.view (lead_at w.node w.up (w.sent ++ posted n r.sent) n r.node is lead)) (λ k other. h.views k);
          sent = all_append (λ (m : Sent E). ShowsFrom from m.message) w.sent (posted n r.sent) h.sent
              (all_map (λ (y : NodeId × RaftMessage E). ShowsFrom from y.1) (λ (m : Sent E). ShowsFrom from m.message) (λ (y : NodeId × RaftMessage E). record { from = node_id n; to = y.0; message = y.1 }) r.sent (λ y c. c) x.sent);
        })
        (λ _. as_before)

    proposes_view : (n : ℕ) (change : E) → w.up n ≡ true → Viewed (proposes w n change)
    proposes_view n change is =
        let s = w.node n in
        cond_both (is_leader s.votes.role && not (is_full s.log)) (record w { node = set_at w.node n (proposed s change) }) w Viewed
        (λ _ lead. record {
          views = set_at_both (λ k (t : RaftState E). from t.votes.term t.view) w.node n (proposed s change)
              (advanced_view (with_entry s change) (h.views n) (lead_at w.node w.up w.sent n (proposed s change) is lead)) (λ k other. h.views k);
          sent = h.sent;
        })
        (λ _. as_before)

    comes_view : (n number : ℕ) (o : Option (Sent E)) → w.up n ≡ true → message_to w.sent n number ≡ o → Viewed (comes noop w n o)
    comes_view n number None is e = as_before
    comes_view n zero (Some m) is e = absurd (cc e)
    comes_view n (suc place) (Some m) is e =
        steps_view n (InputDeliver m.from m.message) is (all_at (λ (x : Sent E). ShowsFrom from x.message) w.sent place m h.sent (message_is nodes noop w.sent n place m (slice_get w.sent place) refl e))

    stops_view : (n : ℕ) (up : ℕ → Bool) → Viewed (record w { node = set_at w.node n (kept nodes (w.node n)); up = up })
    stops_view n up lead = record { views = set_at_both (λ k (s : RaftState E). from s.votes.term s.view) w.node n (kept nodes (w.node n)) (h.views n) (λ k other. h.views k); sent = h.sent }

    acts_view : (n : ℕ) (e : RaftEvent E) → w.up n ≡ true → Viewed (acts nodes noop w n e)
    acts_view n (Tick unseen) is = steps_view n (InputTick unseen) is tt
    acts_view n (Propose change) is = proposes_view n change is
    acts_view n (Deliver number) is = comes_view n number (message_to w.sent n number) is refl
    acts_view n Crash is = stops_view n (set_at w.up n false)
    acts_view n Restart is = as_before

    rests_view : (n : ℕ) (e : RaftEvent E) → Viewed (rests nodes w n e)
    rests_view n (Tick unseen) = as_before
    rests_view n (Propose change) = as_before
    rests_view n (Deliver number) = as_before
    rests_view n Crash = as_before
    rests_view n Restart = stops_view n (set_at w.up n true)

    happens_view : (x : NodeId × RaftEvent E) → Viewed (happens nodes noop w x)
    happens_view x =
        let n = x.0.0 in
        cond_both (nat_lt n nodes) (cond (w.up n) (acts nodes noop w n x.1) (rests nodes w n x.1)) w Viewed
        (λ _. cond_both (w.up n) (acts nodes noop w n x.1) (rests nodes w n x.1) Viewed (λ is. acts_view n x.1 is) (λ _. rests_view n x.1))
        (λ _. as_before)

-- ---- runs

module _ {E : Type 0} (f g : ℕ → ℕ → Type 0) (more : (t v : ℕ) → f t v → g t v) where
  shows-weaker : (m : RaftMessage E) → ShowsFrom f m → ShowsFrom g m
  shows-weaker (VoteAsk term last index) h = tt
  shows-weaker (VoteSay term granted) h = tt
  shows-weaker (Append term prev prev_term entries commit) h = more term commit h
  shows-weaker (AppendSay term ok upto) h = tt

  views-weaker : (w : World E) → HasViews f w → HasViews g w
  views-weaker w h =
      record {
        views = λ n. more (term_of_node w n) (w.node n).view (h.views n);
        sent = all_weaker (λ (m : Sent E). ShowsFrom f m.message) (λ (m : Sent E). ShowsFrom g m.message) w.sent (λ m. shows-weaker m.message) h.sent;
      }

module _ {E : Type 0} (nodes : ℕ) (noop : E) (events : List (NodeId × RaftEvent E)) where
  abbrev Led : ℕ → ℕ → ℕ → Type 0
  Led i = IsLed nodes noop events i

  led-weaker : (i t u v w : ℕ) → t ≤ u → w ≤ v → Led i t v → Led i u w
  led-weaker i t u v w h l (inl none) = inl (omega (arith, none, l))
  led-weaker i t u v w h l (inr x) =
      let low = x.low in
      let reach = x.reach in
      inr (record { at = x.at; earlier = x.earlier; leader = x.leader; leading = x.leading; low = omega (arith, low, h); reach = omega (arith, reach, l) })

  led-later : (i t v : ℕ) → Led i t v → Led (suc i) t v
  led-later i t v (inl none) = inl none
  led-later i t v (inr x) = let e = x.earlier in inr (record { at = x.at; earlier = omega (arith, e); leader = x.leader; leading = x.leading; low = x.low; reach = x.reach })

  leader_led : (i : ℕ) → Lead (Led i) (led-weaker i) (moment nodes noop events i)
  leader_led i k l = inr (record { at = i; earlier = omega arith; leader = k; leading = l; low = omega arith; reach = omega arith })

  next_led : (i : ℕ) (o : Option (NodeId × RaftEvent E)) → slice_get events i ≡ o → HasViews (Led (suc i)) (moment nodes noop events i) → HasViews (Led (suc i)) (moment nodes noop events (suc i))
  next_led i None e h = subst (λ es. HasViews (Led (suc i)) (after nodes noop es)) (sym (take_past events i e)) h
  next_led i (Some x) e h =
      let now : moment nodes noop events (suc i) ≡ happens nodes noop (moment nodes noop events i) x = ap (after nodes noop) (take_next events i x e) ∙ run-push (happens nodes noop) (take i events) x (start nodes) in
      let lead = subst (λ (v : World E). Lead (Led (suc i)) (led-weaker (suc i)) v) now (leader_led (suc i)) in
      subst (HasViews (Led (suc i))) (sym now) (happens_view (Led (suc i)) (led-weaker (suc i)) nodes noop (moment nodes noop events i) h x lead)

  are_led : (i : ℕ) → HasViews (Led i) (moment nodes noop events i)
  are_led zero = record { views = λ n. inl refl; sent = tt }
  are_led (suc i) = next_led i (slice_get events i) refl (views-weaker (Led i) (Led (suc i)) (led-later i) (moment nodes noop events i) (are_led i))

front-more : {X : Type 0} (xs ys zs : List X) → IsFrontOf xs ys → IsFrontOf ys zs → IsFrontOf xs zs
front-more xs ys zs a b = record { rest = a.rest ++ b.rest; is = b.is ∙ ap (λ l. l ++ b.rest) a.is ∙ append_assoc xs a.rest b.rest }

module _ {E : Type 0} (nodes : ℕ) (noop : E) where
  committed_by : (events : List (NodeId × RaftEvent E)) (i n : ℕ) → WasLed nodes noop events i (term_of_node (moment nodes noop events i) n) ((moment nodes noop events i).node n).view → IsCommitted nodes noop events i n
  committed_by events i n l =
      let v = moment nodes noop events i in
      let w = moment nodes noop events l.at in
      let p = both nodes noop events i l.at in
      let acted = agreed nodes p.now v w p.past p.one p.two n l.leader l.reach in
      record {
        at = l.at;
        earlier = l.earlier;
        leader = l.leader;
        leading = l.leading;
        low = l.low;
        acted = acted;
        later_term = λ j b leading h.
            front-more (committed v n) (committed w l.leader) (log_of (moment nodes noop events j) b) acted ((leaders_complete nodes noop).later_term events l.at j l.leader b leading h);
        later_moment = λ j b order leading h.
            front-more (committed v n) (committed w l.leader) (log_of (moment nodes noop events j) b) acted ((leaders_complete nodes noop).later_moment events l.at j l.leader b order leading h);
      }

  pub leaders_commit : LeadersCommit nodes noop
  leaders_commit events i n some =
      elim ((are_led nodes noop events i).views n) [
        | inl none ↦ absurd (omega (arith, none, some))
        | inr l ↦ committed_by events i n l
      ]
