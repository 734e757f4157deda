-- A world in code that goes on by an event is still one that a run leads to.
use Rattle.std.proofs.Common.{◌≡◌, ℕ, ◌<◌, ◌≤◌, nat_lt, Bool, true, false, ◌⊎◌, inl, inr, List, [], ◌∷◌, ◌++◌, length, take, set, get_or, Result, Ok, Err, OnOk, IsErrOf, IsErrAnd, Option, Some, None, refl, sym, ap, subst, ◌∙◌, arith, replicate, length-append, get_or-set_same, get_or-set_other}
use Rattle.std.proofs.Math.Path.{fun_ext}
use Rattle.std.proofs.lemmas.List.{get_or_default, get_or-replicate, get_or_past, length-replicate, take_all}
use Rattle.std.proofs.lemmas.Bool.{cases_eq, cases_lt, eq-eqb, ne_eqb, lt-ltb}
use Rattle.region_map.specs.declared.id.NodeId.{NodeId}
use Rattle.region_map.specs.Nodes.{node_id}
use Rattle.raft_node.specs.declared.input.RaftInput.{RaftInput}
use Rattle.raft_node.specs.declared.input.RaftInput.TheVariants.{Tick as InputTick, Deliver as InputDeliver}
use Rattle.raft_node.specs.State.{RaftState}
use Rattle.raft_vote.specs.declared.log.LogEntry.{LogEntry}
use Rattle.raft_node.specs.Rows.{raft_step, ends_numbers, is_well_formed}
use Rattle.schedule_laws.specs.Schedules.{set_at}
use Rattle.schedule_laws.proofs.Runs.{run-push}
use Rattle.raft_laws.specs.declared.event.RaftEvent.{RaftEvent}
use Rattle.raft_laws.specs.declared.event.RaftEvent.TheVariants.{Tick, Deliver}
use Rattle.raft_laws.specs.declared.event.Sent.{Sent}
use Rattle.raft_laws.specs.World.{World, start, posted, steps, comes, acts, happens, after, moment, committed, message_to}
use Rattle.raft_laws.specs.Laws.{IsFrontOf}
use Rattle.raft_laws.specs.Net.{RaftNet, IsReached, node_in, up_in, world_in, world_of, Arrives, ends_message}
use Rattle.raft_laws.proofs.Logs.{front_of}
use Rattle.raft_laws.proofs.Runs.{run_since, no_past, start_good}
use Rattle.raft_laws.proofs.Moments.{nodes_agree, views_grow, deliveries_fit}

abbrev world : {E : Type 0} → (ℕ → RaftState E) → (ℕ → Bool) → List (Sent E) → World E
world f u s = record { node = f; up = u; sent = s }

same_world : {E : Type 0} (f g : ℕ → RaftState E) (u v : ℕ → Bool) (s t : List (Sent E)) → f ≡ g → u ≡ v → s ≡ t → world f u s ≡ world g v t
same_world f g u v s t a b c = ap (λ x. world x u s) a ∙ ap (λ x. world g x s) b ∙ ap (world g v) c

ups : (n k : ℕ) → get_or (replicate n true) k true ≡ true
ups n k = elim (cases_lt k n) [ inl within ↦ get_or-replicate n k true true within | inr past ↦ get_or_past (replicate n true) k true (omega (arith, length-replicate n true)) ]

module _ {E : Type 0} (noop : E) (nodes : ℕ) where
  pub reached_begins : (states : List (RaftState E)) (up : List Bool) (sent : List (Sent E)) → length states ≡ nodes → up ≡ replicate nodes true → sent ≡ [] → nodes ≤ 64 → ((k : ℕ) → node_in nodes states k ≡ node_in nodes [] k) → IsReached noop nodes states up sent
  reached_begins states up sent l u s small each =
      record {
        states_are = l;
        ups_are = ap length u ∙ length-replicate nodes true;
        small = small;
        events = [];
        is = same_world (λ n. node_in nodes states n) (λ n. node_in nodes [] n) (λ n. up_in up n) (λ n. true) sent [] (fun_ext each) (fun_ext (λ n. ap (λ us. up_in us n) u ∙ ups nodes n)) s;
      }

  module _ (states : List (RaftState E)) (up : List Bool) (sent : List (Sent E)) (r : IsReached noop nodes states up sent) where
    abbrev w : World E
    w = world_in nodes states up sent

    -- the whole run
    last : moment nodes noop r.events (length r.events) ≡ w
    last = ap (after nodes noop) (take_all (length r.events) r.events (omega arith)) ∙ sym r.is

    pub reached_agrees : (a b : ℕ) → IsFrontOf (committed w a) (committed w b) ⊎ IsFrontOf (committed w b) (committed w a)
    reached_agrees a b =
        subst (λ (v : World E). IsFrontOf (committed v a) (committed v b) ⊎ IsFrontOf (committed v b) (committed v a)) last
        (nodes_agree nodes noop r.events (length r.events) (length r.events) a b)

    pub reached_fits : (n number : ℕ) (m : Sent E) → message_to sent n number ≡ Some m → is_well_formed (node_in nodes states n) (InputDeliver m.from m.message) ≡ true
    reached_fits n number m =
        subst (λ (v : World E). message_to v.sent n number ≡ Some m → is_well_formed (v.node n) (InputDeliver m.from m.message) ≡ true) last
        (deliveries_fit nodes noop r.events (length r.events) n number m)

    pub reached_me : (n : ℕ) → (node_in nodes states n).votes.me ≡ node_id n
    reached_me n =
        let since = run_since nodes noop r.events no_past (start nodes) (start_good nodes) in
        ap (λ (x : World E). (x.node n).votes.me) r.is ∙ (since.good.each n).me

    -- one event more
    pub reached_goes : (x : NodeId × RaftEvent E) (states_now : List (RaftState E)) (up_now : List Bool) (sent_now : List (Sent E)) → length states_now ≡ nodes → length up_now ≡ nodes
        → world_in nodes states_now up_now sent_now ≡ happens nodes noop w x → IsReached noop nodes states_now up_now sent_now
    reached_goes x states_now up_now sent_now l u e =
        record {
          states_are = l;
          ups_are = u;
          small = r.small;
          events = r.events ++ x ∷ [];
          is = e ∙ ap (λ v. happens nodes noop v x) r.is ∙ sym (run-push (happens nodes noop) r.events x (start nodes));
        }

    -- what a node acts on is a front of what it acts on after one event more
    pub reached_longer : (x : NodeId × RaftEvent E) (v : World E) → v ≡ happens nodes noop w x → (n : ℕ) → IsFrontOf (committed w n) (committed v n)
    reached_longer x v e n =
        let es = r.events ++ x ∷ [] in
        let now : after nodes noop es ≡ v = run-push (happens nodes noop) r.events x (start nodes) ∙ ap (λ y. happens nodes noop y x) (sym r.is) ∙ sym e in
        let front : take (length r.events) es ≡ r.events = front_of r.events (x ∷ []) (length r.events) (omega arith) ∙ take_all (length r.events) r.events (omega arith) in
        let before : moment nodes noop es (length r.events) ≡ w = ap (after nodes noop) front ∙ sym r.is in
        let whole : moment nodes noop es (length es) ≡ v = ap (after nodes noop) (take_all (length es) es (omega arith)) ∙ now in
        let grows = (views_grow nodes noop).committed es (length r.events) (length es) n (omega (arith, length-append r.events (x ∷ []))) in
        subst (λ (y : World E). IsFrontOf (committed w n) (committed y n)) whole
        (subst (λ (y : World E). IsFrontOf (committed y n) (committed (moment nodes noop es (length es)) n)) before grows)

  -- ---- what an event does to the lists

  set_is : (states : List (RaftState E)) (n : ℕ) (t : RaftState E) → n < length states → (λ (k : ℕ). node_in nodes (set states n t) k) ≡ set_at (λ k. node_in nodes states k) n t
  set_is states n t h =
      fun_ext (λ k.
      elim (cases_eq k n) [
        | inl same ↦
            let test = eq-eqb k n same in
            let within : k < length states = omega (arith, same, h) in
            rw test (ap (λ m. node_in nodes (set states m t) k) (sym same) ∙ get_or-set_same states k t (node_in nodes [] k) within)
        | inr other ↦
            let test = ne_eqb k n other in
            rw test (get_or-set_other states n k t (node_in nodes [] k) other)
      ])

-- what a node acts on, as it is read from the lists
pub committed_agrees : {E : Type 0} (noop : E) (nodes : ℕ) (states : List (RaftState E)) (up : List Bool) (sent : List (Sent E)) → IsReached noop nodes states up sent → (v : RaftNet E) → record { nodes = nodes; states = states; ups = up; sent = sent } ≡ v
    → (n : ℕ) (list : List (LogEntry E)) → list ≡ committed (world_in nodes states [] []) n → (other : ℕ) → IsFrontOf list (committed (world_of v) other) ⊎ IsFrontOf (committed (world_of v) other) list
committed_agrees {E = E} noop nodes states up sent r v e n list is other =
    subst (λ (xs : List (LogEntry E)). IsFrontOf xs (committed (world_of v) other) ⊎ IsFrontOf (committed (world_of v) other) xs) (sym is)
    (subst (λ (x : RaftNet E). IsFrontOf (committed (world_in nodes states [] []) n) (committed (world_of x) other) ⊎ IsFrontOf (committed (world_of x) other) (committed (world_in nodes states [] []) n)) e
    (reached_agrees noop nodes states up sent r n other))

-- ---- what an event does

module _ {E : Type 0} (noop : E) (nodes : ℕ) (states : List (RaftState E)) (up : List Bool) (sent : List (Sent E)) (n : NodeId) (below : n.0 < nodes) (held : length states ≡ nodes) where
  abbrev v : World E
  v = world_in nodes states up sent

  steps_is : (i : RaftInput E) (states_now : List (RaftState E)) (sent_now : List (Sent E)) → ends_numbers (node_in nodes states n.0) i ≡ false
      → states_now ≡ set states n.0 (raft_step noop (node_in nodes states n.0) i).node → sent_now ≡ sent ++ posted n.0 (raft_step noop (node_in nodes states n.0) i).sent
      → world_in nodes states_now up sent_now ≡ steps noop v n.0 i
  steps_is i states_now sent_now ends a b =
      let r = raft_step noop (node_in nodes states n.0) i in
      rw ends
      (same_world (λ k. node_in nodes states_now k) (set_at (λ k. node_in nodes states k) n.0 r.node) (λ k. up_in up k) (λ k. up_in up k) sent_now (sent ++ posted n.0 r.sent)
      (ap (λ xs k. node_in nodes xs k) a ∙ set_is noop nodes states n.0 r.node (omega (arith, below, held))) refl b)

  acts_is : (event : RaftEvent E) (x : World E) → up_in up n.0 ≡ true → x ≡ acts nodes noop v n.0 event → x ≡ happens nodes noop v (n, event)
  acts_is event x is e = let test : nat_lt n.0 nodes ≡ true = lt-ltb n.0 nodes below in rw (test, is) e

  pub tick_is : (unseen : List ℕ) (states_now : List (RaftState E)) (sent_now : List (Sent E)) → up_in up n.0 ≡ true → ends_numbers (node_in nodes states n.0) (InputTick unseen) ≡ false
      → states_now ≡ set states n.0 (raft_step noop (node_in nodes states n.0) (InputTick unseen)).node → sent_now ≡ sent ++ posted n.0 (raft_step noop (node_in nodes states n.0) (InputTick unseen)).sent
      → world_in nodes states_now up sent_now ≡ happens nodes noop v (n, Tick unseen)
  tick_is unseen states_now sent_now is ends a b = acts_is (Tick unseen) (world_in nodes states_now up sent_now) is (steps_is (InputTick unseen) states_now sent_now ends a b)

  pub arrives_is : (number : ℕ) (states_now : List (RaftState E)) (sent_now : List (Sent E)) → up_in up n.0 ≡ true → (o : Option (Sent E)) → message_to sent n.0 number ≡ o → ends_message (node_in nodes states n.0) o ≡ false
      → Arrives noop nodes states sent n.0 o states_now sent_now → world_in nodes states_now up sent_now ≡ happens nodes noop v (n, Deliver number)
  arrives_is number states_now sent_now is None e ends a = absurd a
  arrives_is number states_now sent_now is (Some m) e ends a =
      acts_is (Deliver number) (world_in nodes states_now up sent_now) is
      (steps_is (InputDeliver m.from m.message) states_now sent_now ends a.0 a.1 ∙ ap (comes noop v n.0) (sym e))

-- ---- what an answer says

-- what is so at Ok
pub on_ok : {T F : Type 0} (r : Result T F) (A B C P : Type 0) → OnOk r A → OnOk r B → OnOk r C → (A → B → C → P) → OnOk r P
on_ok (Ok x) A B C P a b c f = f a b c
on_ok (Err e) A B C P a b c f = tt

pub up_read : (up : List Bool) (n : ℕ) (b : Bool) → n < length up → b ≡ get_or up n b → b ≡ true → up_in up n ≡ true
up_read up n b h at is = get_or_default up n true b h ∙ sym at ∙ is

err_same : {U F : Type 0} (e n : F) → IsErrOf {T = U} (Err e) n → e ≡ n
err_same e n h = cc

-- an error that was handed on
pub err_given : {T U F : Type 0} (r : Result T F) (e n : F) → IsErrAnd r (λ x. x ≡ e) → IsErrOf r n → IsErrOf {T = U} (Err e) n
err_given (Ok x) e n a h = absurd (cc h)
err_given (Err x) e n a h = let same : x ≡ n = cc in ap Err (sym a ∙ same)

pub err_handed : {T U F : Type 0} (r : Result T F) (e n : F) → IsErrAnd r (λ x. x ≡ e) → IsErrOf {T = U} (Err e) n → IsErrOf r n
err_handed (Ok x) e n a h = absurd a
err_handed (Err x) e n a h = ap Err a ∙ ap Err (err_same e n h)
