-- What the log of the table keeps over every run.
use Rattle.std.proofs.Common.{◌≡◌, ◌∙◌, ◌==◌, ◌&&◌, ◌+◌, ◌-◌, ◌<◌, ◌≤◌, ◌⊎◌, ℕ, zero, suc, true, false, cond, List, [], ◌∷◌, ◌++◌, map, length, take, get_or, slice_get, Option, Some, None, refl, sym, ap, ap₂, subst, arith, length-append, length-take}
use Rattle.std.proofs.lemmas.Bool.{eqb-true}
use Rattle.std.proofs.lemmas.List.{take-take, take-map, take-append-le, get_or-take}
use Rattle.step_runs.specs.runs.raft_vote.declared.log.LogEntry.{LogEntry}
use Rattle.step_runs.specs.runs.raft_vote.declared.message.RaftMessage.{RaftMessage}
use Rattle.step_runs.specs.runs.raft_node.declared.input.RaftInput.TheVariants.{Deliver as InputDeliver}
use Rattle.step_runs.specs.runs.raft_node.Rows.{is_well_formed}
use Rattle.raft_laws.specs.declared.event.Sent.{Sent}
use Rattle.raft_laws.specs.Laws.{IsFrontOf}
use Rattle.raft_laws.specs.Parts.{Fits}
use Rattle.raft_laws.specs.World.{World, addressed, message_to}
use Rattle.raft_laws.specs.World.{committed as acted_on}
use Rattle.raft_laws.proofs.Logs.{shorter}
use Rattle.step_runs.proofs.runs.list_laws.All.{all_at}
use Rattle.step_runs.specs.runs.contract_types.declared.change.Change.{Change}
use Rattle.step_runs.specs.runs.contract_types.declared.change.Change.TheVariants.{Noop}
use Rattle.step_runs.specs.runs.contract_types.declared.applied.Applied.{Applied}
use Rattle.step_runs.specs.runs.contract_types.Configs.{ConfigState}
use Rattle.step_runs.specs.runs.contract_types.Setup.{SetupState}
use Rattle.step_runs.specs.runs.contract_types.Tables.{Table}
use Rattle.step_runs.specs.runs.table_apply.Effects.{applied_at}
use Rattle.step_runs.specs.runs.table_apply.Runs.{change_at}
use Rattle.step_runs.specs.runs.table_log.Fitting.{changes_of, input_fits}
use Rattle.step_runs.specs.runs.table_log.Fitting.{message_fits as raft_fits}
use Rattle.step_runs.specs.runs.table_log.Logs.{may_take, result_at, results_from}
use Rattle.step_runs.proofs.runs.table_log.Acting.{results_joined}
use Rattle.step_runs.proofs.runs.table_log.Prefixes.{same_changes}
use Rattle.step_runs.specs.runs.exec_types.declared.message.Message.TheVariants as message
use Rattle.step_runs.specs.runs.node_core.declared.journal.Entry.{Entry}
use Rattle.step_runs.specs.runs.node_core.Step.{NodeState}
use Rattle.step_runs.specs.runs.declared.envelope.Envelope.{Envelope}
use Rattle.step_runs.specs.runs.Run.{IsRun, message_at, state}
use Rattle.step_runs.specs.runs.Committed.{committed, IsEarlier, viewed_in, viewed_by}
use Rattle.log_runs.proofs.LogWorldRows.{AllFit}
use Rattle.log_runs.proofs.LogWorldRuns.{raft_sent, log_world, placed_message, moving, after_entry, entry_step, run_facts, journal_at, journal_earlier, part, promises}

-- an earlier journal of a run is one
run_before : (setup : SetupState) (later p : List Entry) → IsRun setup (later ++ p) → IsRun setup p
run_before setup [] p h = h
run_before setup (e ∷ later) p h = run_before setup later p h.1

earlier_run : (setup : SetupState) (past p : List Entry) → IsRun setup past → IsEarlier past p → IsRun setup p
earlier_run setup past p h early = run_before setup early.later p (subst (IsRun setup) early.is h)

-- which moment of the run it is
earlier_part : (setup : SetupState) (past p : List Entry) → IsEarlier past p → part setup past (length p) ≡ log_world setup p
earlier_part setup past p early =
    ap (log_world setup) (ap (λ l. journal_at l (length p)) early.is ∙ journal_earlier early.later p)

-- what a node acts on is what its log acts on
acted_is : (setup : SetupState) (p : List Entry) → IsRun setup p → (n : ℕ) → acted_on (log_world setup p) n ≡ committed (state setup n p)
acted_is setup p h n = ap (λ k. take k (state setup n p).log.raft.log) (sym ((run_facts setup p h).caught n))

-- what a node acted on stays
record ActedStays (s t : NodeState) : Type 0 where
  rises : s.log.acted ≤ t.log.acted
  same : take s.log.acted s.log.raft.log ≡ take s.log.acted t.log.raft.log

module _ (setup : SetupState) (past : List Entry) (h : IsRun setup past) where
  moment_acts : (p : List Entry) → IsEarlier past p → (n : ℕ) → acted_on (part setup past (length p)) n ≡ committed (state setup n p)
  moment_acts p early n = ap (λ (w : World Change). acted_on w n) (earlier_part setup past p early) ∙ acted_is setup p (earlier_run setup past p h early) n

  whole_is_earlier : IsEarlier past past
  whole_is_earlier = record { later = []; is = refl }

  pub logs_agree : (p q : List Entry) → IsEarlier past p → IsEarlier past q → (a b : ℕ)
      → IsFrontOf (committed (state setup a p)) (committed (state setup b q)) ⊎ IsFrontOf (committed (state setup b q)) (committed (state setup a p))
  logs_agree p q early later a b =
      subst (λ (x : List (LogEntry Change)). IsFrontOf x (committed (state setup b q)) ⊎ IsFrontOf (committed (state setup b q)) x) (moment_acts p early a)
      (subst (λ (y : List (LogEntry Change)). IsFrontOf (acted_on (part setup past (length p)) a) y ⊎ IsFrontOf y (acted_on (part setup past (length p)) a)) (moment_acts q later b)
      ((promises setup past h).agree (length p) (length q) a b))

  pub logs_longer : (p : List Entry) → IsEarlier past p → (n : ℕ) → IsFrontOf (committed (state setup n p)) (committed (state setup n past))
  logs_longer p early n =
      let low : length p ≤ length past = omega (arith, ap length early.is, length-append early.later p) in
      subst (λ (x : List (LogEntry Change)). IsFrontOf x (committed (state setup n past))) (moment_acts p early n)
      (subst (λ (y : List (LogEntry Change)). IsFrontOf (acted_on (part setup past (length p)) n) y) (moment_acts past whole_is_earlier n)
      ((promises setup past h).longer (length p) (length past) n low))

  -- ---- messages

  pub message_taken : (number : ℕ) (e : Envelope) (m : RaftMessage Change) → message_at past number ≡ Some e → e.message ≡ message.Raft m
      → may_take (state setup e.to.0 past).log (InputDeliver e.from m) ≡ true
  message_taken number e m at is =
      let log = (state setup e.to.0 past).log in
      let there = placed_message past number e m at is in
      let facts = run_facts setup past h in
      let formed : is_well_formed log.raft (InputDeliver e.from m) ≡ true =
      subst Fits (earlier_part setup past past whole_is_earlier) ((promises setup past h).fits (length past)) e.to.0 there.0
      (record { from = e.from; to = e.to; message = m }) there.1 in
      let fitting : input_fits log.config.hashes (InputDeliver e.from m) ≡ true =
      ap (λ (c : ConfigState). input_fits c.hashes (InputDeliver e.from m)) (facts.config e.to.0)
      ∙ fit_of (raft_sent past) e.to.0 there.0 (record { from = e.from; to = e.to; message = m }) facts.sends there.1 in
      ap (λ v. v && input_fits log.config.hashes (InputDeliver e.from m)) formed ∙ fitting
    where
      addressed_is : (n : ℕ) (o : Option (Sent Change)) (s : Sent Change) → addressed n o ≡ Some s → o ≡ Some s
      addressed_is n None s e = absurd (cc e)
      addressed_is n (Some r) s e =
          elim (r.to.0 == n) as (λ b. cond b (Some r) None ≡ Some s → Some r ≡ Some s) [ true ↦ λ same. same | false ↦ λ none. absurd (cc none) ] e

      fit_of : (xs : List (Sent Change)) (n number : ℕ) (s : Sent Change) → AllFit setup.hashes xs → message_to xs n number ≡ Some s → raft_fits setup.hashes s.message ≡ true
      fit_of xs n zero s all e = absurd (cc e)
      fit_of xs n (suc k) s all e =
          all_at (λ (m : Sent Change). raft_fits setup.hashes m.message ≡ true) xs k s all (addressed_is n (slice_get xs k) s e)

  acted_within : (p : List Entry) → IsEarlier past p → (n : ℕ) → (state setup n p).log.acted ≤ length (state setup n p).log.raft.log
  acted_within p early n =
      let within = subst (λ (w : World Change). (w.node n).view ≤ length (w.node n).log) (earlier_part setup past p early) ((promises setup past h).within (length p) n) in
      omega (arith, within, (run_facts setup p (earlier_run setup past p h early)).caught n)

  acted_stays : (p : List Entry) → IsEarlier past p → (n : ℕ) → ActedStays (state setup n p) (state setup n past)
  acted_stays p early n =
      let s = (state setup n p).log in
      let t = (state setup n past).log in
      let front = logs_longer p early n in
      let own = acted_within p early n in
      let all = acted_within past whole_is_earlier n in
      let rises : s.acted ≤ t.acted =
      omega (arith, own, all, length-take s.acted s.raft.log, length-take t.acted t.raft.log, ap length front.is, length-append (take s.acted s.raft.log) front.rest) in
      let long : s.acted ≤ length (take s.acted s.raft.log) = omega (arith, own, length-take s.acted s.raft.log) in
      let low : s.acted ≤ s.acted = omega arith in
      record {
        rises = rises;
        same =
            sym (take-take s.acted s.acted s.raft.log low) ∙ sym (take-append-le s.acted (take s.acted s.raft.log) front.rest long)
            ∙ ap (take s.acted) (sym front.is) ∙ take-take s.acted t.acted t.raft.log rises;
      }

-- ---- what nodes told

module _ (config : ConfigState) (xs ys : List Change) (a : ℕ) (same : take a xs ≡ take a ys) where
  result_same : (place : ℕ) → place < a → result_at config xs place ≡ result_at config ys place
  result_same place low =
      let change : change_at xs place ≡ change_at ys place =
      sym (get_or-take a xs place Noop low) ∙ ap (λ (zs : List Change). get_or zs place Noop) same ∙ get_or-take a ys place Noop low in
      let within : place ≤ a = omega (arith, low) in
      let table = same_changes config xs ys place (shorter place a xs ys same within) in
      ap₂ (λ (t : Table) (c : Change). (c, (applied_at t (suc place) c).applied)) table change

  results_same : (n : ℕ) → n ≤ a → results_from config xs 0 n ≡ results_from config ys 0 n
  results_same zero low = refl
  results_same (suc n) low =
      let within : n ≤ a = omega (arith, low) in
      let place : 0 + n < a = omega (arith, low) in
      ap₂ (λ (rs : List (Change × Applied)) (r : Change × Applied). rs ++ r ∷ []) (results_same n within) (result_same (0 + n) place)

-- what became of the changes that a node acted on
abbrev acted_results : SetupState → NodeState → List (Change × Applied)
acted_results setup s = results_from setup (changes_of s.log.raft.log) 0 s.log.acted

-- a step tells of those that come to them
told_more : (setup : SetupState) (s t : NodeState) (told : List (Change × Applied)) → ActedStays s t → t.log.acted ≡ t.log.raft.view
    → told ≡ results_from setup (changes_of t.log.raft.log) s.log.acted (t.log.raft.view - s.log.acted) → acted_results setup s ++ told ≡ acted_results setup t
told_more setup s t told stays caught is =
    let f : LogEntry Change → Change = λ e. e.change in
    let a = s.log.acted in
    let more = t.log.raft.view - a in
    let cs = changes_of t.log.raft.log in
    let front : take a (changes_of s.log.raft.log) ≡ take a cs = take-map f a s.log.raft.log ∙ ap (map f) stays.same ∙ sym (take-map f a t.log.raft.log) in
    let low : a ≤ a = omega arith in
    let rises = stays.rises in
    let start : a ≡ 0 + a = omega arith in
    let whole : a + more ≡ t.log.acted = omega (arith, rises, caught) in
    ap₂ (λ (x y : List (Change × Applied)). x ++ y) (results_same setup (changes_of s.log.raft.log) cs a front a low) (is ∙ ap (λ k. results_from setup cs k more) start)
    ∙ sym (results_joined setup cs 0 a more) ∙ ap (results_from setup cs 0) whole

pub views_are : (setup : SetupState) (past : List Entry) → IsRun setup past → (n : ℕ) → viewed_by n past ≡ acted_results setup (state setup n past)
views_are setup [] h n = refl
views_are setup (e ∷ past) h n =
    let before = views_are setup past h.1 n in
    elim (e.node.0 == n) as
    (λ b. (e.node.0 == n) ≡ b → cond b (viewed_by n past ++ viewed_in e.outputs) (viewed_by n past) ≡ acted_results setup (cond b (moving setup past e n) (state setup n past))) [
      | true ↦ λ same.
          let here : e.node.0 ≡ n = eqb-true e.node.0 n same in
          let facts = run_facts setup past h.1 in
          let step = entry_step setup past e h.0 (facts.config e.node.0) in
          let next : state setup n (e ∷ past) ≡ moving setup past e n = ap (λ b. cond b (moving setup past e n) (state setup n past)) same in
          let stays = subst (ActedStays (state setup n past)) next (acted_stays setup (e ∷ past) h past (record { later = e ∷ []; is = refl }) n) in
          let told : viewed_in e.outputs ≡ results_from setup (changes_of (moving setup past e n).log.raft.log) (state setup n past).log.acted ((moving setup past e n).log.raft.view - (state setup n past).log.acted) =
          ap viewed_in h.0.outputs
          ∙ subst (λ k. viewed_in (after_entry setup past e h.0).outs ≡ results_from setup (changes_of (moving setup past e k).log.raft.log) (state setup k past).log.acted ((moving setup past e k).log.raft.view - (state setup k past).log.acted)) here step.told in
          let caught = subst (λ k. (moving setup past e k).log.acted ≡ (moving setup past e k).log.raft.view) here step.caught in
          ap (λ l. l ++ viewed_in e.outputs) before ∙ told_more setup (state setup n past) (moving setup past e n) (viewed_in e.outputs) stays caught told
      | false ↦ λ other. before
    ] refl
