-- Between steps a leader already acts on all that it may.
use Rattle.std.proofs.Common.{◌≡◌, ℕ, ◌&&◌, max, nat_lt, cond, not, ◌++◌, take, Option, Some, None, refl, ap, arith}
use Rattle.std.proofs.lemmas.Bool.{cond_both}
use Rattle.region_map.specs.declared.id.NodeId.{NodeId}
use Rattle.raft_vote.specs.Rows.{is_leader}
use Rattle.raft_append.specs.Commit.{decided}
use Rattle.raft_node.specs.declared.input.RaftInput.{RaftInput}
use Rattle.raft_node.specs.declared.input.RaftInput.TheVariants.{Tick as InputTick, Deliver as InputDeliver}
use Rattle.raft_node.specs.State.{RaftState}
use Rattle.raft_node.specs.Rows.{input_row, advanced, raft_step, ends_numbers, is_full, with_entry, proposed}
use Rattle.schedule_laws.specs.Schedules.{set_at}
use Rattle.schedule_laws.proofs.Nodes.{set_at_both}
use Rattle.schedule_laws.proofs.Runs.{run_keeps}
use Rattle.raft_laws.specs.declared.event.RaftEvent.{RaftEvent}
use Rattle.raft_laws.specs.declared.event.RaftEvent.TheVariants.{Tick, Propose, Deliver, Crash, Restart}
use Rattle.raft_laws.specs.World.{Sent, World, start, posted, steps, message_to, comes, proposes, kept, acts, rests, happens}
use Rattle.raft_laws.specs.Laws.{NothingWaits}

module _ {E : Type 0} where
  -- a leader that has gone on as far as it may goes no further
  still_advanced : (s : RaftState E) → advanced (advanced s) ≡ advanced s
  still_advanced s =
      let far = decided s.votes s.log s.peers in
      let t : RaftState E = record s { view = max s.view far } in
      cond_both (is_leader s.votes.role) t s (λ (x : RaftState E). advanced x ≡ x)
      (λ e. let again : max (max s.view far) far ≡ max s.view far = omega arith in rw e (ap (λ (v : ℕ). record s { view = v }) again))
      (λ e. rw e refl)

module _ {E : Type 0} (nodes : ℕ) (noop : E) where
  abbrev AllStill : World E → Type 0
  AllStill w = (k : ℕ) → advanced (w.node k) ≡ w.node k

  still_steps : (w : World E) (n : ℕ) (i : RaftInput E) → AllStill w → AllStill (steps noop w n i)
  still_steps w n i h =
      let r = raft_step noop (w.node n) i in
      cond_both (not (ends_numbers (w.node n) i)) (record w { node = set_at w.node n r.node; sent = w.sent ++ posted n r.sent }) w AllStill
      (λ _. set_at_both (λ k (s : RaftState E). advanced s ≡ s) w.node n r.node (still_advanced (input_row noop (w.node n) i).node) (λ k other. h k)) (λ _. h)

  still_proposes : (w : World E) (n : ℕ) (change : E) → AllStill w → AllStill (proposes w n change)
  still_proposes w n change h =
      let s = w.node n in
      cond_both (is_leader s.votes.role && not (is_full s.log)) (record w { node = set_at w.node n (proposed s change) }) w AllStill
      (λ _. set_at_both (λ k (t : RaftState E). advanced t ≡ t) w.node n (proposed s change) (still_advanced (with_entry s change)) (λ k other. h k)) (λ _. h)

  still_comes : (w : World E) (n : ℕ) (o : Option (Sent E)) → AllStill w → AllStill (comes noop w n o)
  still_comes w n None h = h
  still_comes w n (Some m) h = still_steps w n (InputDeliver m.from m.message) h

  still_stops : (w : World E) (n : ℕ) → AllStill w → (k : ℕ) → advanced (set_at w.node n (kept nodes (w.node n)) k) ≡ set_at w.node n (kept nodes (w.node n)) k
  still_stops w n h = set_at_both (λ k (s : RaftState E). advanced s ≡ s) w.node n (kept nodes (w.node n)) refl (λ k other. h k)

  still_acts : (w : World E) (n : ℕ) (e : RaftEvent E) → AllStill w → AllStill (acts nodes noop w n e)
  still_acts w n (Tick unseen) h = still_steps w n (InputTick unseen) h
  still_acts w n (Propose change) h = still_proposes w n change h
  still_acts w n (Deliver number) h = still_comes w n (message_to w.sent n number) h
  still_acts w n Crash h = still_stops w n h
  still_acts w n Restart h = h

  still_rests : (w : World E) (n : ℕ) (e : RaftEvent E) → AllStill w → AllStill (rests nodes w n e)
  still_rests w n (Tick unseen) h = h
  still_rests w n (Propose change) h = h
  still_rests w n (Deliver number) h = h
  still_rests w n Crash h = h
  still_rests w n Restart h = still_stops w n h

  still_happens : (w : World E) (x : NodeId × RaftEvent E) → AllStill w → AllStill (happens nodes noop w x)
  still_happens w x h =
      let n = x.0.0 in
      cond_both (nat_lt n nodes) (cond (w.up n) (acts nodes noop w n x.1) (rests nodes w n x.1)) w AllStill
      (λ _. cond_both (w.up n) (acts nodes noop w n x.1) (rests nodes w n x.1) AllStill (λ _. still_acts w n x.1 h) (λ _. still_rests w n x.1 h))
      (λ _. h)

  pub nothing_waits : NothingWaits nodes noop
  nothing_waits events i = run_keeps AllStill (happens nodes noop) still_happens (take i events) (start nodes) (λ k. refl)
