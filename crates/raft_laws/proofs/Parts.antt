-- What holds of the part of the log in runs of more than the log.
use Rattle.std.proofs.Common.{◌≡◌, ℕ, zero, suc, ◌<◌, ◌≤◌, ◌+◌, ◌⊎◌, inl, inr, List, [], ◌++◌, length, take, sym, ap, subst, ◌∙◌, arith, append_assoc, append-nil, length-append}
use Rattle.std.proofs.lemmas.Bool.{cases_lt}
use Rattle.std.proofs.lemmas.List.{take_all}
use Rattle.std.specs.Prelude.{IsTrue}
use Rattle.region_map.specs.declared.id.NodeId.{NodeId}
use Rattle.raft_vote.specs.Log.{term_at}
use Rattle.raft_node.specs.Rows.{advanced}
use Rattle.schedule_laws.specs.Schedules.{run}
use Rattle.schedule_laws.proofs.Runs.{run-append}
use Rattle.raft_laws.specs.declared.event.RaftEvent.{RaftEvent}
use Rattle.raft_laws.specs.World.{World, start, happens, after, moment, leads, term_of_node, log_of, committed}
use Rattle.raft_laws.specs.Laws.{IsFrontOf}
use Rattle.raft_laws.specs.Parts.{InRun, IsLogPart, Fits, KeepsPromises}
use Rattle.raft_laws.proofs.Logs.{front_of}
use Rattle.raft_laws.proofs.Moments.{one_leader, logs_match, leaders_complete, nodes_agree, terms_rise, votes_last, views_grow, deliveries_fit}
use Rattle.raft_laws.proofs.Still.{nothing_waits}

module _ {E : Type 0} (nodes : ℕ) (noop : E) where
  abbrev Events : Type 0
  Events = List (NodeId × RaftEvent E)

  -- the moment of a run after the events that it begins with
  moment_of : (xs ys : Events) → moment nodes noop (xs ++ ys) (length xs) ≡ after nodes noop xs
  moment_of xs ys = ap (after nodes noop) (front_of xs ys (length xs) (omega arith) ∙ take_all (length xs) xs (omega arith))

  pub in_run_fits : (w : World E) → InRun nodes noop w → Fits w
  in_run_fits w r =
      let whole : moment nodes noop r.events (length r.events) ≡ w = ap (after nodes noop) (take_all (length r.events) r.events (omega arith)) ∙ sym r.is in
      subst Fits whole (deliveries_fit nodes noop r.events (length r.events))

  module _ (part : ℕ → World E) (is_part : IsLogPart nodes noop part) where
    -- the events of the log up to a moment
    runs : (k : ℕ) → InRun nodes noop (part k)
    runs zero = record { events = []; is = is_part.first }
    runs (suc k) =
        let so_far = runs k in
        let more = is_part.next k so_far in
        record {
          events = so_far.events ++ more.events;
          is = more.is ∙ ap (run (happens nodes noop) more.events) so_far.is ∙ sym (run-append (happens nodes noop) so_far.events more.events (start nodes));
        }

    same_front : (i k : ℕ) → i ≡ k → IsFrontOf (runs i).events (runs k).events
    same_front i k same = subst (λ (m : ℕ). IsFrontOf (runs i).events (runs m).events) same (record { rest = []; is = sym (append-nil (runs i).events) })

    longer : (i k : ℕ) → i ≤ k → IsFrontOf (runs i).events (runs k).events
    unfolding runs
    longer i zero h = same_front i 0 (omega (arith, h))
    longer i (suc k) h =
        elim (cases_lt i (suc k)) [
          | inl less ↦
              let so_far = longer i k (omega (arith, less)) in
              let more = (is_part.next k (runs k)).events in
              record { rest = so_far.rest ++ more; is = ap (λ es. es ++ more) so_far.is ∙ append_assoc (runs i).events so_far.rest more }
          | inr not_less ↦ same_front i (suc k) (omega (arith, h, not_less))
        ]

    -- a moment of this run, as one of the run of the log
    place : (i k : ℕ) → i ≤ k → moment nodes noop (runs k).events (length (runs i).events) ≡ part i
    place i k h =
        let front = longer i k h in
        ap (λ es. moment nodes noop es (length (runs i).events)) front.is ∙ moment_of (runs i).events front.rest ∙ sym (runs i).is

    rises : (i k : ℕ) → i ≤ k → length (runs i).events ≤ length (runs k).events
    rises i k h =
        let front = longer i k h in
        let all = ap length front.is ∙ length-append (runs i).events front.rest in
        omega (arith, all)

    -- what holds of any two moments of a run of the log holds of any two of this run
    two : (P : World E → World E → Type 0) (i j : ℕ) → ((events : Events) (x y : ℕ) → (i ≤ j → x ≤ y) → P (moment nodes noop events x) (moment nodes noop events y)) → P (part i) (part j)
    two P i j law =
        let k = i + j in
        let i_in : i ≤ k = omega arith in
        let j_in : j ≤ k = omega arith in
        subst (λ (w : World E). P (part i) w) (place j k j_in)
        (subst (λ (v : World E). P v (moment nodes noop (runs k).events (length (runs j).events))) (place i k i_in)
        (law (runs k).events (length (runs i).events) (length (runs j).events) (rises i j)))

    pub keeps_promises : KeepsPromises part
    keeps_promises =
        record {
          leader = λ i j a b.
              two (λ v w. IsTrue (leads v a) → IsTrue (leads w b) → term_of_node v a ≡ term_of_node w b → a ≡ b) i j
              (λ events x y h. one_leader nodes noop events x y a b);
          match = λ i j a b index.
              two
              (λ v w. index ≤ length (log_of v a) → index ≤ length (log_of w b) → term_at (log_of v a) index ≡ term_at (log_of w b) index
              → take index (log_of v a) ≡ take index (log_of w b))
              i j (λ events x y h. logs_match nodes noop events x y a b index);
          later_term = λ i j a b.
              two (λ v w. IsTrue (leads w b) → term_of_node v a < term_of_node w b → IsFrontOf (committed v a) (log_of w b)) i j
              (λ events x y h. (leaders_complete nodes noop).later_term events x y a b);
          later_moment = λ i j a b ij.
              two (λ v w. IsTrue (leads w b) → term_of_node v a ≤ term_of_node w b → IsFrontOf (committed v a) (log_of w b)) i j
              (λ events x y h. (leaders_complete nodes noop).later_moment events x y a b (h ij));
          agree = λ i j a b.
              two (λ v w. IsFrontOf (committed v a) (committed w b) ⊎ IsFrontOf (committed w b) (committed v a)) i j
              (λ events x y h. nodes_agree nodes noop events x y a b);
          still = λ i n. two (λ v w. advanced (v.node n) ≡ v.node n) i i (λ events x y h. nothing_waits nodes noop events x n);
          order = λ i n low high.
              two (λ v w. low ≤ high → high ≤ length (log_of v n) → term_at (log_of v n) low ≤ term_at (log_of v n) high) i i
              (λ events x y h. (terms_rise nodes noop).order events x n low high);
          upto = λ i n index. two (λ v w. index ≤ length (log_of v n) → term_at (log_of v n) index ≤ term_of_node v n) i i (λ events x y h. (terms_rise nodes noop).upto events x n index);
          term = λ i j n ij. two (λ v w. term_of_node v n ≤ term_of_node w n) i j (λ events x y h. (votes_last nodes noop).term events x y n (h ij));
          view = λ i j n ij. two (λ v w. (v.node n).view ≤ (w.node n).view) i j (λ events x y h. (views_grow nodes noop).view events x y n (h ij));
          within = λ i n. two (λ v w. (v.node n).view ≤ length (log_of v n)) i i (λ events x y h. (views_grow nodes noop).within events x n);
          longer = λ i j n ij. two (λ v w. IsFrontOf (committed v n) (committed w n)) i j (λ events x y h. (views_grow nodes noop).committed events x y n (h ij));
          fits = λ i. in_run_fits (part i) (runs i);
        }
