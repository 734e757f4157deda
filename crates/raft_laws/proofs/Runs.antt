-- What holds at the moments of every run.
use Rattle.std.proofs.Common.{◌≡◌, ◌==◌, ◌&&◌, ℕ, zero, suc, ◌≤◌, nat_lt, cond, not, Bool, true, false, List, [], ◌∷◌, ◌++◌, Option, Some, None, refl, sym, ap, subst, ◌∙◌, arith, slice_get}
use Rattle.std.proofs.lemmas.Bool.{cond_both, eqb-true, and_parts}
use Rattle.std.specs.List.{AllByRecursion}
use Rattle.std.proofs.lemmas.Option.{none-some}
use Rattle.list_laws.proofs.All.{all_at}
use Rattle.region_map.specs.declared.id.NodeId.{NodeId}
use Rattle.region_map.specs.Nodes.{node_id}
use Rattle.raft_vote.specs.Log.{term_at}
use Rattle.raft_vote.specs.Rows.{all_nodes, is_leader}
use Rattle.raft_node.specs.declared.input.RaftInput.{RaftInput}
use Rattle.raft_node.specs.declared.input.RaftInput.TheVariants.{Tick as InputTick, Deliver as InputDeliver}
use Rattle.raft_node.specs.State.{RaftState}
use Rattle.raft_node.specs.Rows.{raft_step, ends_numbers, proposed, is_full}
use Rattle.schedule_laws.specs.Schedules.{set_at, run}
use Rattle.schedule_laws.proofs.Nodes.{set_at_both}
use Rattle.raft_laws.specs.declared.event.RaftEvent.{RaftEvent}
use Rattle.raft_laws.specs.declared.event.RaftEvent.TheVariants.{Tick, Propose, Deliver, Crash, Restart}
use Rattle.raft_laws.specs.World.{Sent, World, start, posted, steps, addressed, message_to, comes, proposes, kept, acts, rests, happens}
use Rattle.raft_laws.proofs.Past.{Past, Grows, Grows-same, Grows-more, Grounded-nil}
use Rattle.raft_laws.proofs.Claims.{PastOk}
use Rattle.raft_laws.proofs.Nodes.{NodeOk, IsSo, Comes, stay, goes_to}
use Rattle.raft_laws.proofs.Counting.{stops}
use Rattle.raft_laws.proofs.Rows.{IsGiven, step_goes, propose_goes}

-- there is no term in an empty log
empty_upto : (E : Type 0) (i : ℕ) → term_at {E = E} [] i ≤ 0
empty_upto E zero = omega arith
empty_upto E (suc i) = omega arith

-- nothing has happened
pub no_past : {E : Type 0} → Past E
no_past = record { ballots = λ k t. None; reigns = λ t. None; acks = λ k t. 0 }

-- the claims on a world, by the past of the run that led there
pub record Good {E : Type 0} (nodes : ℕ) (p : Past E) (w : World E) : Type 0 where
  pub each : (n : ℕ) → NodeOk (all_nodes nodes) p n (w.node n)
  pub past : PastOk (all_nodes nodes) p
  pub said : AllByRecursion (λ (m : Sent E). IsSo (all_nodes nodes) p m.from m.to m.message) w.sent

-- the same with a past that has grown from p
pub record Since {E : Type 0} (nodes : ℕ) (p : Past E) (w : World E) : Type 0 where
  pub now : Past E
  pub grows : Grows p now
  pub good : Good nodes now w

module _ {E : Type 0} (nodes : ℕ) where
  same_since : (p : Past E) (w : World E) → Good nodes p w → Since nodes p w
  same_since p w g = record { now = p; grows = Grows-same p; good = g }

  since : (p : Past E) (w : World E) (n : ℕ) (t : RaftState E) (ys : List (Sent E)) (up : ℕ → Bool) → Comes (all_nodes nodes) w n p t ys → Since nodes p (record { node = set_at w.node n t; up = up; sent = ys })
  since p w n t ys up c =
      record {
        now = c.now;
        grows = c.grows;
        good = record {
          each = set_at_both (λ k (s : RaftState E). NodeOk (all_nodes nodes) c.now k s) w.node n t c.here.self (λ k other. c.here.others k other);
          past = c.here.past;
          said = c.here.said;
        };
      }

  begins : (p : Past E) (w : World E) (n : ℕ) → Good nodes p w → Comes (all_nodes nodes) w n p (w.node n) w.sent
  begins p w n g = stay (all_nodes nodes) w n p (w.node n) w.sent (record { self = g.each n; others = λ k other. g.each k; past = g.past; said = g.said })

  steps_since : (noop : E) (p : Past E) (w : World E) (n : ℕ) (i : RaftInput E) → Good nodes p w → IsGiven (all_nodes nodes) w n p w.sent i → Since nodes p (steps noop w n i)
  steps_since noop p w n i g given =
      let r = raft_step noop (w.node n) i in
      cond_both (not (ends_numbers (w.node n) i)) (record w { node = set_at w.node n r.node; sent = w.sent ++ posted n r.sent }) w (Since nodes p)
      (λ _. since p w n r.node (w.sent ++ posted n r.sent) w.up (step_goes (all_nodes nodes) w n p w.sent noop (w.node n) i given (begins p w n g)))
      (λ _. same_since p w g)

  proposes_since : (p : Past E) (w : World E) (n : ℕ) (change : E) → Good nodes p w → Since nodes p (proposes w n change)
  proposes_since p w n change g =
      let s = w.node n in
      cond_both (is_leader s.votes.role && not (is_full s.log)) (record w { node = set_at w.node n (proposed s change) }) w (Since nodes p)
      (λ e. since p w n (proposed s change) w.sent w.up (propose_goes (all_nodes nodes) w n p w.sent s change (and_parts (is_leader s.votes.role) (not (is_full s.log)) e).0 (begins p w n g)))
      (λ _. same_since p w g)

  -- a message to a node is one that was sent to it
  addressed_is : (sent : List (Sent E)) (n place : ℕ) (m : Sent E) (o : Option (Sent E)) → slice_get sent place ≡ o → addressed n o ≡ Some m → (slice_get sent place ≡ Some m) × (m.to ≡ node_id n)
  addressed_is sent n place m None e f = absurd (cc f)
  addressed_is sent n place m (Some x) e f =
      cond_both (x.to.0 == n) (Some x) None (λ (v : Option (Sent E)). v ≡ Some m → (slice_get sent place ≡ Some m) × (m.to ≡ node_id n))
      (λ to is. let same : x ≡ m = cc in (e ∙ is, ap (λ (y : Sent E). y.to) (sym same) ∙ ap node_id (eqb-true x.to.0 n to)))
      (λ _ is. absurd (cc is)) f

  pub message_so : (p : Past E) (w : World E) (n number : ℕ) (m : Sent E) → Good nodes p w → message_to w.sent n number ≡ Some m → IsSo (all_nodes nodes) p m.from (node_id n) m.message
  message_so p w n zero m g e = absurd (cc e)
  message_so p w n (suc place) m g e =
      let found = addressed_is w.sent n place m (slice_get w.sent place) refl e in
      subst (λ (to : NodeId). IsSo (all_nodes nodes) p m.from to m.message) found.1
      (all_at (λ (x : Sent E). IsSo (all_nodes nodes) p x.from x.to x.message) w.sent place m g.said found.0)

  comes_since : (noop : E) (p : Past E) (w : World E) (n number : ℕ) (o : Option (Sent E)) → message_to w.sent n number ≡ o → Good nodes p w → Since nodes p (comes noop w n o)
  comes_since noop p w n number None e g = same_since p w g
  comes_since noop p w n number (Some m) e g = steps_since noop p w n (InputDeliver m.from m.message) g (message_so p w n number m g e)

  stops_since : (p : Past E) (w : World E) (n : ℕ) (up : ℕ → Bool) → Good nodes p w → Since nodes p (record w { node = set_at w.node n (kept nodes (w.node n)); up = up })
  stops_since p w n up g =
      since p w n (kept nodes (w.node n)) w.sent up
      (goes_to (all_nodes nodes) w n p (w.node n) (kept nodes (w.node n)) w.sent (λ q h ok o. stops nodes q n (w.node n) o) (begins p w n g))

  acts_since : (noop : E) (p : Past E) (w : World E) (n : ℕ) (e : RaftEvent E) → Good nodes p w → Since nodes p (acts nodes noop w n e)
  acts_since noop p w n (Tick unseen) g = steps_since noop p w n (InputTick unseen) g tt
  acts_since noop p w n (Propose change) g = proposes_since p w n change g
  acts_since noop p w n (Deliver number) g = comes_since noop p w n number (message_to w.sent n number) refl g
  acts_since noop p w n Crash g = stops_since p w n (set_at w.up n false) g
  acts_since noop p w n Restart g = same_since p w g

  rests_since : (p : Past E) (w : World E) (n : ℕ) (e : RaftEvent E) → Good nodes p w → Since nodes p (rests nodes w n e)
  rests_since p w n (Tick unseen) g = same_since p w g
  rests_since p w n (Propose change) g = same_since p w g
  rests_since p w n (Deliver number) g = same_since p w g
  rests_since p w n Crash g = same_since p w g
  rests_since p w n Restart g = stops_since p w n (set_at w.up n true) g

  pub happens_since : (noop : E) (p : Past E) (w : World E) (x : NodeId × RaftEvent E) → Good nodes p w → Since nodes p (happens nodes noop w x)
  happens_since noop p w x g =
      let n = x.0.0 in
      cond_both (nat_lt n nodes) (cond (w.up n) (acts nodes noop w n x.1) (rests nodes w n x.1)) w (Since nodes p)
      (λ _. cond_both (w.up n) (acts nodes noop w n x.1) (rests nodes w n x.1) (Since nodes p) (λ _. acts_since noop p w n x.1 g) (λ _. rests_since p w n x.1 g))
      (λ _. same_since p w g)

  more_since : (p q : Past E) (w : World E) → Grows p q → Since nodes q w → Since nodes p w
  more_since p q w g s = record { now = s.now; grows = Grows-more p q s.now g s.grows; good = s.good }

  pub run_since : (noop : E) (events : List (NodeId × RaftEvent E)) (p : Past E) (w : World E) → Good nodes p w → Since nodes p (run (happens nodes noop) events w)
  run_since noop [] p w g = same_since p w g
  run_since noop (e ∷ es) p w g =
      let one = happens_since noop p w e g in
      more_since p one.now (run (happens nodes noop) es (happens nodes noop w e)) one.grows (run_since noop es one.now (happens nodes noop w e) one.good)

  -- ---- at the start

  pub start_good : Good nodes (no_past {E = E}) (start {E = E} nodes)
  unfolding no_past
  start_good =
      record {
        each = λ n. record {
          me = refl;
          all = refl;
          now = refl;
          later = λ t h. refl;
          role = tt;
          grounded = Grounded-nil no_past;
          upto = record { at = λ i l. empty_upto E i };
          led = λ t r e l. absurd (none-some r e);
          acked = λ t h. absurd (omega (arith, h));
          seen = λ h. absurd (omega (arith, h));
        };
        past = record { reigns = λ t r e. absurd (none-some r e); ballots = λ k t b e. absurd (none-some b e) };
        said = tt;
      }
