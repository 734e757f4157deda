-- Runs of the log in which one node alone moves.
use Rattle.std.proofs.Common.{◌≡◌, ◌∙◌, ◌==◌, ◌&&◌, ◌<◌, ℕ, Bool, true, false, cond, not, List, [], ◌∷◌, ◌++◌, Some, refl, sym, ap}
use Rattle.std.proofs.Math.Path.{fun_ext}
use Rattle.std.proofs.lemmas.Bool.{eqb-true, lt-ltb}
use Rattle.step_runs.specs.runs.region_map.declared.id.NodeId.{NodeId}
use Rattle.step_runs.specs.runs.raft_vote.Rows.{is_leader}
use Rattle.step_runs.specs.runs.raft_node.declared.input.RaftInput.{RaftInput}
use Rattle.step_runs.specs.runs.raft_node.declared.input.RaftInput.TheVariants.{Tick as InputTick, Deliver as InputDeliver}
use Rattle.step_runs.specs.runs.raft_node.State.{RaftState}
use Rattle.step_runs.specs.runs.raft_node.Rows.{raft_step, ends_numbers, proposed, is_full}
use Rattle.schedule_laws.specs.Schedules.{set_at, run}
use Rattle.schedule_laws.proofs.Nodes.{set_at-same}
use Rattle.schedule_laws.proofs.Runs.{run-append}
use Rattle.raft_laws.specs.declared.event.RaftEvent.{RaftEvent}
use Rattle.raft_laws.specs.declared.event.RaftEvent.TheVariants.{Tick, Propose, Deliver, Crash, Restart}
use Rattle.raft_laws.specs.declared.event.Sent.{Sent}
use Rattle.raft_laws.specs.World.{World, posted, steps, comes, acts, rests, kept, happens, message_to}
use Rattle.raft_laws.specs.Parts.{Becomes}

set_twice : {A : Type 0} (f : ℕ → A) (n : ℕ) (x y : A) → set_at (set_at f n x) n y ≡ set_at f n y
set_twice f n x y = fun_ext (λ k. elim (k == n) as (λ b. cond b y (cond b x (f k)) ≡ cond b y (f k)) [ true ↦ refl | false ↦ refl ])

set_itself : {A : Type 0} (f : ℕ → A) (n : ℕ) → set_at f n (f n) ≡ f
set_itself f n =
    fun_ext (λ k. elim (k == n) as (λ b. (k == n) ≡ b → cond b (f n) (f k) ≡ f k) [ true ↦ λ e. ap f (sym (eqb-true k n e)) | false ↦ λ e. refl ] refl)

-- one node: its state, whether it is up, and every message that was ever sent
pub record Alone (E : Type 0) : Type 0 where
  pub node : RaftState E
  pub up : Bool
  pub sent : List (Sent E)

-- the world in which a node is so, and all others are as they were
abbrev pub placed : {E : Type 0} → (ℕ → RaftState E) → (ℕ → Bool) → ℕ → Alone E → World E
placed f u n a = record { node = set_at f n a.node; up = set_at u n a.up; sent = a.sent }

pub placed_itself : {E : Type 0} (w : World E) (n : ℕ) → placed w.node w.up n (record { node = w.node n; up = w.up n; sent = w.sent }) ≡ w
placed_itself {E} w n = λ i. record { node = set_itself w.node n i; up = set_itself w.up n i; sent = w.sent }

placed_twice : {E : Type 0} (f : ℕ → RaftState E) (u : ℕ → Bool) (n : ℕ) (a b : Alone E) → placed (set_at f n a.node) (set_at u n a.up) n b ≡ placed f u n b
placed_twice {E} f u n a b = λ i. record { node = set_twice f n a.node b.node i; up = set_twice u n a.up b.up i; sent = b.sent }

module _ {E : Type 0} (nodes : ℕ) (noop : E) (n : NodeId) where
  -- events at the node take it from the one to the other
  pub record Goes (a b : Alone E) : Type 0 where
    pub events : List (NodeId × RaftEvent E)
    pub is : (f : ℕ → RaftState E) (u : ℕ → Bool) → run (happens nodes noop) events (placed f u n.0 a) ≡ placed f u n.0 b

  pub goes_same : (a b : Alone E) → a ≡ b → Goes a b
  goes_same a b e = record { events = []; is = λ f u. ap (placed f u n.0) e }

  pub goes_on : (a b c : Alone E) → Goes a b → Goes b c → Goes a c
  goes_on a b c p q =
      record {
        events = p.events ++ q.events;
        is = λ f u. run-append (happens nodes noop) p.events q.events (placed f u n.0 a) ∙ ap (run (happens nodes noop) q.events) (p.is f u) ∙ q.is f u;
      }

  pub goes_becomes : (v w : World E) (a b : Alone E) → v ≡ placed v.node v.up n.0 a → w ≡ placed v.node v.up n.0 b → Goes a b → Becomes nodes noop v w
  goes_becomes v w a b e f g =
      record { events = g.events; is = f ∙ sym (g.is v.node v.up) ∙ ap (run (happens nodes noop) g.events) (sym e) }

  module _ (below : n.0 < nodes) where
    happens_up : (w : World E) (event : RaftEvent E) → w.up n.0 ≡ true → happens nodes noop w (n, event) ≡ acts nodes noop w n.0 event
    happens_up w event e =
        ap (λ b. cond b (cond (w.up n.0) (acts nodes noop w n.0 event) (rests nodes w n.0 event)) w) (lt-ltb n.0 nodes below)
        ∙ ap (λ b. cond b (acts nodes noop w n.0 event) (rests nodes w n.0 event)) e

    happens_down : (w : World E) (event : RaftEvent E) → w.up n.0 ≡ false → happens nodes noop w (n, event) ≡ rests nodes w n.0 event
    happens_down w event e =
        ap (λ b. cond b (cond (w.up n.0) (acts nodes noop w n.0 event) (rests nodes w n.0 event)) w) (lt-ltb n.0 nodes below)
        ∙ ap (λ b. cond b (acts nodes noop w n.0 event) (rests nodes w n.0 event)) e

    -- one event
    goes_up : (a b : Alone E) (event : RaftEvent E) → a.up ≡ true
        → ((f : ℕ → RaftState E) (u : ℕ → Bool) → acts nodes noop (placed f u n.0 a) n.0 event ≡ placed (set_at f n.0 a.node) (set_at u n.0 a.up) n.0 b) → Goes a b
    goes_up a b event up step =
        record {
          events = (n, event) ∷ [];
          is = λ f u. happens_up (placed f u n.0 a) event (set_at-same u n.0 a.up ∙ up) ∙ step f u ∙ placed_twice f u n.0 a b;
        }

    -- ---- steps

    abbrev pub stepped : Alone E → RaftInput E → Alone E
    stepped a input = record a { node = (raft_step noop a.node input).node; sent = a.sent ++ posted n.0 (raft_step noop a.node input).sent }

    steps_placed : (a : Alone E) (input : RaftInput E) → ends_numbers a.node input ≡ false → (f : ℕ → RaftState E) (u : ℕ → Bool)
        → steps noop (placed f u n.0 a) n.0 input ≡ placed (set_at f n.0 a.node) (set_at u n.0 a.up) n.0 (stepped a input)
    steps_placed a input goes f u =
        let w = placed f u n.0 a in
        let next : RaftState E → World E = λ s. record w { node = set_at w.node n.0 (raft_step noop s input).node; sent = w.sent ++ posted n.0 (raft_step noop s input).sent } in
        let own : w.node n.0 ≡ a.node = set_at-same f n.0 a.node in
        ap (λ b. cond (not b) (next (w.node n.0)) w) (ap (λ s. ends_numbers s input) own ∙ goes)
        ∙ ap next own
        ∙ λ i. record { node = set_at (set_at f n.0 a.node) n.0 (raft_step noop a.node input).node; up = sym (set_twice u n.0 a.up a.up) i; sent = a.sent ++ posted n.0 (raft_step noop a.node input).sent }

    pub ticks : (a : Alone E) (unseen : List ℕ) → a.up ≡ true → ends_numbers a.node (InputTick unseen) ≡ false → Goes a (stepped a (InputTick unseen))
    ticks a unseen up goes = goes_up a (stepped a (InputTick unseen)) (Tick unseen) up (steps_placed a (InputTick unseen) goes)

    pub delivers : (a : Alone E) (number : ℕ) (m : Sent E) → message_to a.sent n.0 number ≡ Some m → a.up ≡ true → ends_numbers a.node (InputDeliver m.from m.message) ≡ false
        → Goes a (stepped a (InputDeliver m.from m.message))
    delivers a number m there up goes =
        goes_up a (stepped a (InputDeliver m.from m.message)) (Deliver number) up
        (λ f u. ap (comes noop (placed f u n.0 a) n.0) there ∙ steps_placed a (InputDeliver m.from m.message) goes f u)

    -- ---- proposals

    pub puts : (a : Alone E) (change : E) → a.up ≡ true → is_leader a.node.votes.role ≡ true → is_full a.node.log ≡ false → Goes a (record a { node = proposed a.node change })
    puts a change up leads room =
        goes_up a (record a { node = proposed a.node change }) (Propose change) up
        (λ f u.
        let w = placed f u n.0 a in
        let own : w.node n.0 ≡ a.node = set_at-same f n.0 a.node in
        let next : RaftState E → World E = λ s. record w { node = set_at w.node n.0 (proposed s change) } in
        ap (λ (s : RaftState E). cond (is_leader s.votes.role && not (is_full s.log)) (next s) w) own
        ∙ ap (λ b. cond (b && not (is_full a.node.log)) (next a.node) w) leads
        ∙ ap (λ b. cond (not b) (next a.node) w) room
        ∙ λ i. record { node = set_at (set_at f n.0 a.node) n.0 (proposed a.node change); up = sym (set_twice u n.0 a.up a.up) i; sent = a.sent })

    -- ---- crashes and restarts

    pub crashes : (a : Alone E) → a.up ≡ true → Goes a (record a { node = kept nodes a.node; up = false })
    crashes a up =
        goes_up a (record a { node = kept nodes a.node; up = false }) Crash up
        (λ f u. ap (λ s. placed (set_at f n.0 a.node) (set_at u n.0 a.up) n.0 (record { node = kept nodes s; up = false; sent = a.sent })) (set_at-same f n.0 a.node))

    pub restarts : (a : Alone E) → a.up ≡ false → Goes a (record a { node = kept nodes a.node; up = true })
    restarts a down =
        record {
          events = (n, Restart) ∷ [];
          is = λ f u.
              happens_down (placed f u n.0 a) Restart (set_at-same u n.0 a.up ∙ down)
              ∙ ap (λ s. placed (set_at f n.0 a.node) (set_at u n.0 a.up) n.0 (record { node = kept nodes s; up = true; sent = a.sent })) (set_at-same f n.0 a.node)
              ∙ placed_twice f u n.0 a (record { node = kept nodes a.node; up = true; sent = a.sent });
        }
