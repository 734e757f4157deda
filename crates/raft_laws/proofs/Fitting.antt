-- What comes to a node is what a step may be given.
use Rattle.std.proofs.Common.{◌≡◌, ◌==◌, ◌&&◌, ℕ, zero, suc, ◌<◌, nat_lt, cond, not, true, false, inl, inr, List, [], ◌∷◌, ◌++◌, length, take, Option, Some, None, refl, ap, ◌∙◌, arith, slice_get}
use Rattle.std.proofs.lemmas.Bool.{cases_Bool, cond_both, or_left, or_right, ltb-true, ltb-false, le-ltb, ne_eqb}
use Rattle.std.specs.List.{AllByRecursion}
use Rattle.list_laws.proofs.All.{all_append, all_map_of, all_at}
use Rattle.region_map.specs.declared.id.NodeId.{NodeId}
use Rattle.region_map.specs.Nodes.{node_id, with_member}
use Rattle.raft_vote.specs.declared.message.RaftMessage.{RaftMessage}
use Rattle.raft_vote.specs.declared.message.RaftMessage.TheVariants.{VoteAsk, VoteSay, Append, AppendSay}
use Rattle.raft_vote.specs.Rows.{all_nodes, is_leader}
use Rattle.raft_append.specs.Merge.{agrees_to_view}
use Rattle.raft_node.specs.declared.input.RaftInput.{RaftInput}
use Rattle.raft_node.specs.declared.input.RaftInput.TheVariants.{Tick as InputTick, Deliver as InputDeliver}
use Rattle.raft_node.specs.State.{RaftState}
use Rattle.raft_node.specs.Rows.{raft_step, ends_numbers, proposed, is_full, keeps_view}
use Rattle.schedule_laws.specs.Schedules.{set_at}
use Rattle.schedule_laws.proofs.Runs.{run_keeps}
use Rattle.raft_laws.specs.declared.event.RaftEvent.{RaftEvent}
use Rattle.raft_laws.specs.declared.event.RaftEvent.TheVariants.{Tick, Propose, Deliver, Crash, Restart}
use Rattle.raft_laws.specs.World.{Sent, World, start, moment, posted, steps, addressed, message_to, comes, proposes, acts, rests, happens}
use Rattle.raft_laws.proofs.Past.{Past}
use Rattle.raft_laws.proofs.Claims.{PastOk}
use Rattle.raft_laws.proofs.Nodes.{NodeOk, IsSo}
use Rattle.raft_laws.proofs.Following.{keeps_seen}

-- ---- as many nodes as there are

-- a member above all others goes to the end
with_last : (xs : List ℕ) (n : ℕ) → AllByRecursion (λ k. k < n) xs → (length (with_member xs n) ≡ suc (length xs)) × AllByRecursion (λ k. k < suc n) (with_member xs n)
with_last [] n h = (refl, (omega arith, tt))
with_last (k ∷ ks) n h =
    let rest = with_last ks n h.1 in
    let lower = h.0 in
    let not_less : nat_lt n k ≡ false = le-ltb n k (omega (arith, lower)) in
    let not_same : k == n ≡ false = ne_eqb k n (λ e. omega (arith, lower, e)) in
    rw (not_less, not_same) (ap suc rest.0, (omega (arith, lower), rest.1))

all_below : (n : ℕ) → (length (all_nodes n) ≡ n) × AllByRecursion (λ k. k < n) (all_nodes n)
all_below zero = (refl, tt)
all_below (suc n) =
    let rest = all_below n in
    let more = with_last (all_nodes n) n rest.1 in
    (more.0 ∙ ap suc rest.0, more.1)

pub all_nodes-length : (n : ℕ) → length (all_nodes n) ≡ n
all_nodes-length n = (all_below n).0

-- ---- who sends

module _ {E : Type 0} (nodes : ℕ) (noop : E) where
  abbrev FromNodes : World E → Type 0
  FromNodes w = AllByRecursion (λ (m : Sent E). m.from.0 < nodes) w.sent

  from_steps : (w : World E) (n : ℕ) (i : RaftInput E) → n < nodes → FromNodes w → FromNodes (steps noop w n i)
  from_steps w n i l h =
      let r = raft_step noop (w.node n) i in
      cond_both (not (ends_numbers (w.node n) i)) (record w { node = set_at w.node n r.node; sent = w.sent ++ posted n r.sent }) w FromNodes
      (λ _. all_append (λ (m : Sent E). m.from.0 < nodes) w.sent (posted n r.sent) h
      (all_map_of (λ (m : Sent E). m.from.0 < nodes) (λ (x : NodeId × RaftMessage E). record { from = node_id n; to = x.0; message = x.1 }) r.sent (λ x. l)))
      (λ _. h)

  from_proposes : (w : World E) (n : ℕ) (change : E) → FromNodes w → FromNodes (proposes w n change)
  from_proposes w n change h =
      let s = w.node n in
      cond_both (is_leader s.votes.role && not (is_full s.log)) (record w { node = set_at w.node n (proposed s change) }) w FromNodes (λ _. h) (λ _. h)

  from_comes : (w : World E) (n : ℕ) (o : Option (Sent E)) → n < nodes → FromNodes w → FromNodes (comes noop w n o)
  from_comes w n None l h = h
  from_comes w n (Some m) l h = from_steps w n (InputDeliver m.from m.message) l h

  from_acts : (w : World E) (n : ℕ) (e : RaftEvent E) → n < nodes → FromNodes w → FromNodes (acts nodes noop w n e)
  from_acts w n (Tick unseen) l h = from_steps w n (InputTick unseen) l h
  from_acts w n (Propose change) l h = from_proposes w n change h
  from_acts w n (Deliver number) l h = from_comes w n (message_to w.sent n number) l h
  from_acts w n Crash l h = h
  from_acts w n Restart l h = h

  from_rests : (w : World E) (n : ℕ) (e : RaftEvent E) → FromNodes w → FromNodes (rests nodes w n e)
  from_rests w n (Tick unseen) h = h
  from_rests w n (Propose change) h = h
  from_rests w n (Deliver number) h = h
  from_rests w n Crash h = h
  from_rests w n Restart h = h

  from_happens : (w : World E) (x : NodeId × RaftEvent E) → FromNodes w → FromNodes (happens nodes noop w x)
  from_happens w x h =
      let n = x.0.0 in
      cond_both (nat_lt n nodes) (cond (w.up n) (acts nodes noop w n x.1) (rests nodes w n x.1)) w FromNodes
      (λ e. cond_both (w.up n) (acts nodes noop w n x.1) (rests nodes w n x.1) FromNodes (λ _. from_acts w n x.1 (ltb-true n nodes e) h) (λ _. from_rests w n x.1 h))
      (λ _. h)

  pub message_is : (sent : List (Sent E)) (n place : ℕ) (m : Sent E) (o : Option (Sent E)) → slice_get sent place ≡ o → addressed n o ≡ Some m → slice_get sent place ≡ Some m
  message_is sent n place m None e f = absurd (cc f)
  message_is sent n place m (Some x) e f =
      cond_both (x.to.0 == n) (Some x) None (λ (v : Option (Sent E)). v ≡ Some m → slice_get sent place ≡ Some m) (λ _ is. e ∙ is) (λ _ is. absurd (cc is)) f

  from_number : (w : World E) (n number : ℕ) (m : Sent E) → FromNodes w → message_to w.sent n number ≡ Some m → m.from.0 < nodes
  from_number w n zero m h e = absurd (cc e)
  from_number w n (suc place) m h e = all_at (λ (x : Sent E). x.from.0 < nodes) w.sent place m h (message_is w.sent n place m (slice_get w.sent place) refl e)

  pub sender_is : (events : List (NodeId × RaftEvent E)) (i n number : ℕ) (m : Sent E) → message_to (moment nodes noop events i).sent n number ≡ Some m → m.from.0 < nodes
  sender_is events i n number m e =
      from_number (moment nodes noop events i) n number m (run_keeps FromNodes (happens nodes noop) from_happens (take i events) (start nodes) tt) e

-- ---- what an Append keeps

module _ {E : Type 0} (nodes : List ℕ) (p : Past E) (ok : PastOk nodes p) (n : ℕ) (s : RaftState E) (o : NodeOk nodes p n s) where
  pub keeps_said : (from : NodeId) (m : RaftMessage E) → IsSo nodes p from (node_id n) m → keeps_view s m ≡ true
  keeps_said from (VoteAsk term last index) so = refl
  keeps_said from (VoteSay term granted) so = refl
  keeps_said from (Append term prev prev_term entries commit) so =
      elim (cases_Bool (nat_lt term s.votes.term)) [
        | inl old ↦ or_left (nat_lt term s.votes.term) (agrees_to_view s.log s.view prev entries) old
        | inr own ↦ or_right (nat_lt term s.votes.term) (agrees_to_view s.log s.view prev entries) (keeps_seen nodes p ok n s o term prev prev_term entries commit so (ltb-false term s.votes.term own))
      ]
  keeps_said from (AppendSay term ok_said upto) so = refl
