-- What never goes back: terms, votes within a term, and views.
use Rattle.std.proofs.Common.{◌≡◌, ◌==◌, ◌&&◌, ℕ, zero, suc, ◌≤◌, nat_lt, cond, not, List, [], ◌∷◌, ◌++◌, take, Option, Some, None, sym, subst, ◌∙◌, arith}
use Rattle.std.proofs.lemmas.Bool.{cond_both, eqb-true}
use Rattle.std.proofs.lemmas.Bool.Decides.{nat_tests}
use Rattle.region_map.specs.declared.id.NodeId.{NodeId}
use Rattle.raft_vote.specs.declared.message.RaftMessage.TheVariants.{VoteAsk, VoteSay, Append, AppendSay}
use Rattle.raft_vote.specs.Rows.{is_leader}
use Rattle.raft_node.specs.declared.input.RaftInput.{RaftInput}
use Rattle.raft_node.specs.declared.input.RaftInput.TheVariants.{Tick as InputTick, Deliver as InputDeliver}
use Rattle.raft_node.specs.State.{RaftState}
use Rattle.raft_node.specs.Rows.{input_row, advanced, raft_step, ends_numbers, is_full, with_entry, proposed}
use Rattle.schedule_laws.specs.Schedules.{set_at, run}
use Rattle.schedule_laws.proofs.Runs.{run_relates}
use Rattle.raft_laws.specs.declared.event.RaftEvent.{RaftEvent}
use Rattle.raft_laws.specs.declared.event.RaftEvent.TheVariants.{Tick, Propose, Deliver, Crash, Restart}
use Rattle.raft_laws.specs.World.{Sent, World, posted, steps, message_to, comes, proposes, kept, acts, rests, happens}

pub record Lasts {E : Type 0} (s t : RaftState E) : Type 0 where
  pub term : s.votes.term ≤ t.votes.term
  pub vote : (c : NodeId) → t.votes.term ≡ s.votes.term → s.votes.vote ≡ Some c → t.votes.vote ≡ Some c
  pub view : s.view ≤ t.view

module _ {E : Type 0} where
  pub lasts_same : (s : RaftState E) → Lasts s s
  lasts_same s = record { term = omega arith; vote = λ c e v. v; view = omega arith }

  pub lasts_more : (a b c : RaftState E) → Lasts a b → Lasts b c → Lasts a c
  lasts_more a b c x y =
      let ab = x.term in
      let bc = y.term in
      record {
        term = omega (arith, ab, bc);
        vote = λ v e f.
            let first : b.votes.term ≡ a.votes.term = omega (arith, ab, bc, e) in
            y.vote v (e ∙ sym first) (x.vote v first f);
        view = let i = x.view in let j = y.view in omega (arith, i, j);
      }

  lasts_row : (noop : E) (s : RaftState E) (i : RaftInput E) → Lasts s (input_row noop s i).node
  lasts_row noop s (InputTick unseen) = record { term = grind (arith, nat_tests); vote = λ c e v. grind (arith, nat_tests); view = grind (arith, nat_tests) }
  lasts_row noop s (InputDeliver from (VoteAsk term last index)) = record { term = grind (arith, nat_tests); vote = λ c e v. grind (arith, nat_tests); view = grind (arith, nat_tests) }
  lasts_row noop s (InputDeliver from (VoteSay term granted)) = record { term = grind (arith, nat_tests); vote = λ c e v. grind (arith, nat_tests); view = grind (arith, nat_tests) }
  lasts_row noop s (InputDeliver from (Append term prev prev_term entries commit)) = record { term = grind (arith, nat_tests); vote = λ c e v. grind (arith, nat_tests); view = grind (arith, nat_tests) }
  lasts_row noop s (InputDeliver from (AppendSay term ok upto)) = record { term = grind (arith, nat_tests); vote = λ c e v. grind (arith, nat_tests); view = grind (arith, nat_tests) }

  lasts_advanced : (s : RaftState E) → Lasts s (advanced s)
  lasts_advanced s = record { term = grind (arith, nat_tests); vote = λ c e v. grind (arith, nat_tests); view = grind (arith, nat_tests) }

  lasts_step : (noop : E) (s : RaftState E) (i : RaftInput E) → Lasts s (raft_step noop s i).node
  lasts_step noop s i = let r = input_row noop s i in lasts_more s r.node (advanced r.node) (lasts_row noop s i) (lasts_advanced r.node)

  lasts_proposed : (s : RaftState E) (change : E) → Lasts s (proposed s change)
  lasts_proposed s change =
      let t = with_entry s change in
      lasts_more s t (advanced t) (record { term = omega arith; vote = λ c e v. v; view = omega arith }) (lasts_advanced t)

  lasts_kept : (nodes : ℕ) (s : RaftState E) → Lasts s (kept nodes s)
  lasts_kept nodes s = record { term = omega arith; vote = λ c e v. v; view = omega arith }

  -- each node of a world lasts where one of them goes on
  lasts_at : (f : ℕ → RaftState E) (n : ℕ) (t : RaftState E) → Lasts (f n) t → (k : ℕ) → Lasts (f k) (set_at f n t k)
  lasts_at f n t h k =
      cond_both (k == n) t (f k) (λ (x : RaftState E). Lasts (f k) x)
      (λ e. let same : k ≡ n = eqb-true k n e in subst (λ (v : ℕ). Lasts (f v) t) (sym same) h)
      (λ _. lasts_same (f k))

module _ {E : Type 0} (nodes : ℕ) (noop : E) where
  abbrev AllLast : World E → World E → Type 0
  AllLast v w = (k : ℕ) → Lasts (v.node k) (w.node k)

  all_same : (w : World E) → AllLast w w
  all_same w k = lasts_same (w.node k)

  last_steps : (w : World E) (n : ℕ) (i : RaftInput E) → AllLast w (steps noop w n i)
  last_steps w n i =
      let r = raft_step noop (w.node n) i in
      cond_both (not (ends_numbers (w.node n) i)) (record w { node = set_at w.node n r.node; sent = w.sent ++ posted n r.sent }) w (AllLast w)
      (λ _. lasts_at w.node n r.node (lasts_step noop (w.node n) i)) (λ _. all_same w)

  last_proposes : (w : World E) (n : ℕ) (change : E) → AllLast w (proposes w n change)
  last_proposes w n change =
      let s = w.node n in
      cond_both (is_leader s.votes.role && not (is_full s.log)) (record w { node = set_at w.node n (proposed s change) }) w (AllLast w)
      (λ _. lasts_at w.node n (proposed s change) (lasts_proposed s change)) (λ _. all_same w)

  last_comes : (w : World E) (n : ℕ) (o : Option (Sent E)) → AllLast w (comes noop w n o)
  last_comes w n None = all_same w
  last_comes w n (Some m) = last_steps w n (InputDeliver m.from m.message)

  last_acts : (w : World E) (n : ℕ) (e : RaftEvent E) → AllLast w (acts nodes noop w n e)
  last_acts w n (Tick unseen) = last_steps w n (InputTick unseen)
  last_acts w n (Propose change) = last_proposes w n change
  last_acts w n (Deliver number) = last_comes w n (message_to w.sent n number)
  last_acts w n Crash = lasts_at w.node n (kept nodes (w.node n)) (lasts_kept nodes (w.node n))
  last_acts w n Restart = all_same w

  last_rests : (w : World E) (n : ℕ) (e : RaftEvent E) → AllLast w (rests nodes w n e)
  last_rests w n (Tick unseen) = all_same w
  last_rests w n (Propose change) = all_same w
  last_rests w n (Deliver number) = all_same w
  last_rests w n Crash = all_same w
  last_rests w n Restart = lasts_at w.node n (kept nodes (w.node n)) (lasts_kept nodes (w.node n))

  last_happens : (w : World E) (x : NodeId × RaftEvent E) → AllLast w (happens nodes noop w x)
  last_happens w x =
      let n = x.0.0 in
      cond_both (nat_lt n nodes) (cond (w.up n) (acts nodes noop w n x.1) (rests nodes w n x.1)) w (AllLast w)
      (λ _. cond_both (w.up n) (acts nodes noop w n x.1) (rests nodes w n x.1) (AllLast w) (λ _. last_acts w n x.1) (λ _. last_rests w n x.1))
      (λ _. all_same w)

  last_run : (events : List (NodeId × RaftEvent E)) (w : World E) → AllLast w (run (happens nodes noop) events w)
  last_run events w = run_relates AllLast (happens nodes noop) all_same (λ a b c x y k. lasts_more (a.node k) (b.node k) (c.node k) (x k) (y k)) last_happens events w

  pub lasts_from : (events : List (NodeId × RaftEvent E)) (w : World E) (i j n : ℕ) → i ≤ j → Lasts ((run (happens nodes noop) (take i events) w).node n) ((run (happens nodes noop) (take j events) w).node n)
  lasts_from events w zero j n h = last_run (take j events) w n
  lasts_from events w (suc i) zero n h = absurd (omega (arith, h))
  lasts_from [] w (suc i) (suc j) n h = lasts_same (w.node n)
  lasts_from (e ∷ es) w (suc i) (suc j) n h = lasts_from es (happens nodes noop w e) i j n (omega (arith, h))
