-- What a step of a node is for the log: some events of the log at the node, or none.
use Rattle.std.proofs.Common.{◌≡◌, ◌∙◌, ◌==◌, ◌&&◌, ◌||◌, ◌<◌, nat_lt, ◌+◌, ◌-◌, max, ℕ, Bool, true, false, not, List, [], ◌∷◌, ◌++◌, length, Option, Some, None, refl, sym, ap, subst, arith, append-nil}
use Rattle.std.proofs.lemmas.Bool.{cond_both, and_parts, not-true, eqb-true}
use Rattle.std.specs.List.{AllByRecursion}
use Rattle.step_runs.specs.runs.region_map.declared.id.NodeId.{NodeId}
use Rattle.step_runs.specs.runs.raft_vote.declared.message.RaftMessage.{RaftMessage}
use Rattle.step_runs.specs.runs.raft_vote.Rows.{is_leader}
use Rattle.step_runs.specs.runs.raft_append.Commit.{decided}
use Rattle.step_runs.specs.runs.raft_node.declared.input.RaftInput.TheVariants.{Tick as InputTick, Deliver as InputDeliver}
use Rattle.step_runs.specs.runs.raft_node.State.{RaftState, begun, kept_of}
use Rattle.step_runs.specs.runs.raft_node.Rows.{is_full, is_well_formed as raft_well_formed, proposed}
use Rattle.step_runs.specs.runs.raft_node.Rows.{ends_numbers as raft_ends_numbers}
use Rattle.raft_laws.specs.declared.event.Sent.{Sent}
use Rattle.raft_laws.specs.World.{kept, posted, message_to}
use Rattle.step_runs.specs.runs.contract_types.declared.change.Change.{Change}
use Rattle.step_runs.specs.runs.contract_types.declared.change.Change.TheVariants.{Noop}
use Rattle.step_runs.specs.runs.contract_types.declared.results.Viewed.{Viewed}
use Rattle.step_runs.specs.runs.contract_types.Configs.{ConfigState}
use Rattle.step_runs.specs.runs.contract_types.Setup.{SetupState}
use Rattle.step_runs.specs.runs.table_log.Fitting.{changes_of, fits, log_fits, input_fits, sent_fits}
use Rattle.step_runs.specs.runs.table_log.Fitting.{message_fits as raft_fits}
use Rattle.step_runs.specs.runs.table_log.Logs.{LogState, table_of, restarted, may_take, log_step, with_proposed, results_from, results, viewed}
use Rattle.step_runs.proofs.runs.table_log.Frames.{passes_proposed}
use Rattle.step_runs.proofs.runs.table_log.Keeping.{step_fitting}
use Rattle.step_runs.proofs.runs.table_log.Sending.{sends_fitting}
use Rattle.step_runs.specs.runs.coordinator.Acks.{with_ack}
use Rattle.step_runs.specs.runs.coordinator.Proposals.{proposals_of, after_proposals}
use Rattle.step_runs.specs.runs.exec_types.declared.message.Message.{Message}
use Rattle.step_runs.specs.runs.exec_types.declared.message.Message.TheVariants as message
use Rattle.step_runs.specs.runs.exec_types.declared.input.Input.{Input}
use Rattle.step_runs.specs.runs.exec_types.declared.input.Input.TheVariants.{Request, GiveUp, See, Tick, Deliver, Crash, Restart}
use Rattle.step_runs.specs.runs.exec_types.declared.output.Output.{Output}
use Rattle.step_runs.specs.runs.exec_types.declared.output.Output.TheVariants as output
use Rattle.step_runs.specs.runs.node_core.declared.node.Brought.{Brought}
use Rattle.step_runs.specs.runs.node_core.Parts.{decide_all_outs}
use Rattle.step_runs.specs.runs.node_core.Starting.{current_of}
use Rattle.step_runs.specs.runs.node_core.Step.{NodeState, Stepped, silent, leads, raft_outs, propose_one, propose_all, coordinates, with_proposals, roles_of, says_now, tick_row, crash_row, restart_row, message_row, message_fits, is_well_formed, brought_row, input_row, act_on, act, decide_step, end_step, node_step, take_raft, message_ends_numbers, brought_ends_numbers, row_ends_numbers, ends_numbers, act_ends_numbers}
use Rattle.step_runs.specs.runs.Run.{suits}
use Rattle.step_runs.specs.runs.Committed.{viewed_in}
use Rattle.log_runs.proofs.LogWorldMoves.{Alone, Goes, goes_same, goes_on, ticks, delivers, puts, crashes, restarts}
use Rattle.log_runs.proofs.LogWorldOuts.{raft_by, raft_by-append, raft_by-outs, raft_by-beside, viewed_in-append, viewed_in-outs, viewed_in-beside, AllBeside, beside_request, beside_give_up, beside_stream, beside_said, beside_decided}

-- each message brings changes that fit
abbrev pub AllFit : ℕ → List (Sent Change) → Type 0
AllFit hashes sent = AllByRecursion (λ (m : Sent Change). raft_fits hashes m.message ≡ true) sent

posted_fit : (hashes n : ℕ) (sent : List (NodeId × RaftMessage Change)) → sent_fits hashes sent ≡ true → AllFit hashes (posted n sent)
posted_fit hashes n [] h = tt
posted_fit hashes n (x ∷ xs) h = let parts = and_parts (raft_fits hashes x.1) (sent_fits hashes xs) h in (parts.0, posted_fit hashes n xs parts.1)

-- the part of the log in a node, with all that was sent
abbrev pub alone : NodeState → List (Sent Change) → Alone Change
alone s sent = record { node = s.log.raft; up = s.up; sent = sent }

abbrev log_alone : LogState → List (Sent Change) → Alone Change
log_alone log sent = record { node = log.raft; up = true; sent = sent }

-- a message of the log is one of those that were sent
abbrev pub IsThere : NodeId → List (Sent Change) → NodeId → Message → Type 0
IsThere n xs from (message.Raft m) = (number : ℕ) × (to : NodeId) × (message_to xs n.0 number ≡ Some (record { from = from; to = to; message = m }))
IsThere n xs from (message.Say contract ack) = Unit {0}
IsThere n xs from (message.Stream stream) = Unit {0}
IsThere n xs from (message.Got got) = Unit {0}

abbrev pub IsBrought : NodeId → List (Sent Change) → Option Brought → Type 0
IsBrought n xs None = Unit {0}
IsBrought n xs (Some b) = IsThere n xs b.from b.message

-- the row of a step from s, where xs were sent before
pub record LogRow (setup : SetupState) (n : NodeId) (xs : List (Sent Change)) (s : NodeState) (r : Stepped) : Type 0 where
  pub goes : Goes setup.nodes Noop n (alone s xs) (alone r.node (xs ++ raft_by n r.outs))
  pub config : r.node.log.config ≡ setup
  pub acted : r.node.log.acted ≡ s.log.acted
  pub logs : log_fits setup.hashes s.log.raft.log ≡ true → log_fits setup.hashes r.node.log.raft.log ≡ true
  pub sends : log_fits setup.hashes s.log.raft.log ≡ true → AllFit setup.hashes (raft_by n r.outs)
  pub told : viewed_in r.outs ≡ []

-- the whole step
pub record LogStep (setup : SetupState) (n : NodeId) (xs : List (Sent Change)) (s : NodeState) (r : Stepped) : Type 0 where
  pub goes : Goes setup.nodes Noop n (alone s xs) (alone r.node (xs ++ raft_by n r.outs))
  pub config : r.node.log.config ≡ setup
  pub caught : r.node.log.acted ≡ r.node.log.raft.view
  pub logs : log_fits setup.hashes s.log.raft.log ≡ true → log_fits setup.hashes r.node.log.raft.log ≡ true
  pub sends : log_fits setup.hashes s.log.raft.log ≡ true → AllFit setup.hashes (raft_by n r.outs)
  pub told : viewed_in r.outs ≡ results_from setup (changes_of r.node.log.raft.log) s.log.acted (r.node.log.raft.view - s.log.acted)

-- ---- acting and answering

-- what comes after the row leaves the log as the row left it
record Acted (n : NodeId) (r t : Stepped) : Type 0 where
  raft : t.node.log.raft ≡ r.node.log.raft
  config : t.node.log.config ≡ r.node.log.config
  up : t.node.up ≡ r.node.up
  sent : raft_by n t.outs ≡ raft_by n r.outs
  caught : t.node.log.acted ≡ r.node.log.raft.view
  told : viewed_in t.outs ≡ viewed_in r.outs ++ results r.node.log

acted_is : (n : NodeId) (r : Stepped) → Acted n r (act r)
acted_is n r =
    let log = r.node.log in
    let v : Viewed = record { first = log.acted + 1; results = results log } in
    let given : List Output = output.Viewed v.first v.results ∷ [] in
    cond_both (log.acted == log.raft.view) None (Some v) (λ (o : Option Viewed). Acted n r (act_on r o))
    (λ e.
    let same = eqb-true log.acted log.raft.view e in
    let left : log.raft.view - log.acted ≡ 0 = omega (arith, same) in
    record {
      raft = refl;
      config = refl;
      up = refl;
      sent = refl;
      caught = same;
      told = sym (append-nil (viewed_in r.outs)) ∙ ap (λ k. viewed_in r.outs ++ results_from log.config (changes_of log.raft.log) log.acted k) (sym left);
    })
    (λ _. record {
      raft = refl;
      config = refl;
      up = refl;
      sent = raft_by-append n r.outs given ∙ append-nil (raft_by n r.outs);
      caught = refl;
      told = viewed_in-append r.outs given ∙ ap (λ l. viewed_in r.outs ++ l) (append-nil (results log));
    })

answered_is : (n : NodeId) (r t : Stepped) → Acted n r t → Acted n r (decide_step t)
answered_is n r t h =
    let more = decide_all_outs t.node.executions in
    let beside = beside_decided t.node.executions in
    record {
      raft = h.raft;
      config = h.config;
      up = h.up;
      sent = raft_by-append n t.outs more ∙ ap (λ l. raft_by n t.outs ++ l) (raft_by-beside n more beside) ∙ append-nil (raft_by n t.outs) ∙ h.sent;
      caught = h.caught;
      told = viewed_in-append t.outs more ∙ ap (λ l. viewed_in t.outs ++ l) (viewed_in-beside more beside) ∙ append-nil (viewed_in t.outs) ∙ h.told;
    }

module _ (setup : SetupState) (n : NodeId) (xs : List (Sent Change)) (s : NodeState) where
  step_of : (r t : Stepped) → LogRow setup n xs s r → Acted n r t → LogStep setup n xs s t
  step_of r t h a =
      let same : alone r.node (xs ++ raft_by n r.outs) ≡ alone t.node (xs ++ raft_by n t.outs) = λ i. record { node = sym a.raft i; up = sym a.up i; sent = xs ++ sym a.sent i } in
      let left : results r.node.log ≡ results_from setup (changes_of t.node.log.raft.log) s.log.acted (t.node.log.raft.view - s.log.acted) =
      λ i. results_from (h.config i) (changes_of (sym a.raft i).log) (h.acted i) ((sym a.raft i).view - h.acted i) in
      record {
        goes = subst (Goes setup.nodes Noop n (alone s xs)) same h.goes;
        config = a.config ∙ h.config;
        caught = a.caught ∙ ap (λ (q : RaftState Change). q.view) (sym a.raft);
        logs = λ f. ap (λ (q : RaftState Change). log_fits setup.hashes q.log) a.raft ∙ h.logs f;
        sends = λ f. subst (AllFit setup.hashes) (sym a.sent) (h.sends f);
        told = a.told ∙ ap (λ l. l ++ results r.node.log) h.told ∙ left;
      }

  pub ended : (r : Stepped) → LogRow setup n xs s r → LogStep setup n xs s (end_step r)
  ended r h = step_of r (end_step r) h (answered_is n r (act r) (acted_is n r))

  module _ (of_setup : s.log.config ≡ setup) where
    -- ---- rows that leave the log

    left_row : (r : Stepped) → r.node.log ≡ s.log → r.node.up ≡ s.up → AllBeside r.outs → LogRow setup n xs s r
    left_row r log up beside =
        let none = raft_by-beside n r.outs beside in
        let sent : xs ≡ xs ++ raft_by n r.outs = sym (append-nil xs) ∙ ap (λ l. xs ++ l) (sym none) in
        record {
          goes = goes_same setup.nodes Noop n (alone s xs) (alone r.node (xs ++ raft_by n r.outs)) (λ i. record { node = (sym log i).raft; up = sym up i; sent = sent i });
          config = ap (λ (l : LogState). l.config) log ∙ of_setup;
          acted = ap (λ (l : LogState). l.acted) log;
          logs = λ f. ap (λ (l : LogState). log_fits setup.hashes l.raft.log) log ∙ f;
          sends = λ f. subst (AllFit setup.hashes) (sym none) tt;
          told = viewed_in-beside r.outs beside;
        }

    module _ (below : n.0 < setup.nodes) where
      -- ---- proposals of a leader

      record Proposed (a b : LogState) : Type 0 where
        goes : Goes setup.nodes Noop n (log_alone a xs) (log_alone b xs)
        config : b.config ≡ setup
        acted : b.acted ≡ a.acted
        logs : log_fits setup.hashes a.raft.log ≡ true → log_fits setup.hashes b.raft.log ≡ true
        leader : leads b ≡ true

      proposes_none : (log : LogState) → log.config ≡ setup → leads log ≡ true → Proposed log log
      proposes_none log of leader =
          record { goes = goes_same setup.nodes Noop n (log_alone log xs) (log_alone log xs) refl; config = of; acted = refl; logs = λ f. f; leader = leader }

      proposed_leads : (raft : RaftState Change) (change : Change) → is_leader (proposed raft change).votes.role ≡ is_leader raft.votes.role
      proposed_leads raft change =
          let t : RaftState Change = record raft { log = raft.log ++ record { term = raft.votes.term; change = change } ∷ [] } in
          cond_both (is_leader raft.votes.role) (record t { view = max t.view (decided t.votes t.log t.peers) }) t (λ (q : RaftState Change). is_leader q.votes.role ≡ is_leader raft.votes.role) (λ _. refl) (λ _. refl)

      proposes_one : (log : LogState) (change : Change) → log.config ≡ setup → leads log ≡ true → Proposed log (propose_one log change)
      proposes_one log change of leader =
          cond_both (fits log.config.hashes change && not (is_full log.raft.log)) (with_proposed log change) log (Proposed log)
          (λ e.
          let tests = and_parts (fits log.config.hashes change) (not (is_full log.raft.log)) e in
          let fitting : fits setup.hashes change ≡ true = ap (λ (c : ConfigState). fits c.hashes change) (sym of) ∙ tests.0 in
          record {
            goes = puts setup.nodes Noop n below (log_alone log xs) change refl leader (not-true (is_full log.raft.log) tests.1);
            config = of;
            acted = refl;
            logs = λ f. passes_proposed (fits setup.hashes) Noop log.raft refl f change fitting;
            leader = proposed_leads log.raft change ∙ leader;
          })
          (λ _. proposes_none log of leader)

      proposes_all : (log : LogState) (changes : List Change) → log.config ≡ setup → leads log ≡ true → Proposed log (propose_all log changes)
      proposes_all log [] of leader = proposes_none log of leader
      proposes_all log (c ∷ cs) of leader =
          let now = propose_one log c in
          let one = proposes_one log c of leader in
          let rest = proposes_all now cs one.config one.leader in
          record {
            goes = goes_on setup.nodes Noop n (log_alone log xs) (log_alone now xs) (log_alone (propose_all now cs) xs) one.goes rest.goes;
            config = rest.config;
            acted = rest.acted ∙ one.acted;
            logs = λ f. rest.logs (one.logs f);
            leader = rest.leader;
          }

      record Prepared (p : NodeState) : Type 0 where
        goes : Goes setup.nodes Noop n (alone s xs) (alone p xs)
        config : p.log.config ≡ setup
        acted : p.log.acted ≡ s.log.acted
        logs : log_fits setup.hashes s.log.raft.log ≡ true → log_fits setup.hashes p.log.raft.log ≡ true
        up : p.up ≡ s.up
        unseen : p.unseen ≡ s.unseen

      prepared : s.up ≡ true → Prepared (with_proposals s)
      prepared up =
          let changes = proposals_of s.acks (table_of s.log) in
          cond_both (coordinates s.log) (record s { log = propose_all s.log changes; acks = after_proposals s.acks (table_of s.log) }) s Prepared
          (λ e.
          let all = proposes_all s.log changes of_setup (and_parts (leads s.log) (s.log.raft.view == length s.log.raft.log) e).0 in
          record {
            goes = subst (λ (b : Bool). Goes setup.nodes Noop n (record { node = s.log.raft; up = b; sent = xs }) (record { node = (propose_all s.log changes).raft; up = b; sent = xs })) (sym up) all.goes;
            config = all.config;
            acted = all.acted;
            logs = all.logs;
            up = refl;
            unseen = refl;
          })
          (λ _. record {
            goes = goes_same setup.nodes Noop n (alone s xs) (alone s xs) refl;
            config = of_setup;
            acted = refl;
            logs = λ f. f;
            up = refl;
            unseen = refl;
          })

      -- ---- ticks

      ticked : s.up ≡ true → raft_ends_numbers (with_proposals s).log.raft (InputTick s.unseen) ≡ false → LogRow setup n xs s (tick_row s)
      ticked up goes =
          let p = with_proposals s in
          let before = prepared up in
          let step = log_step p.log (InputTick p.unseen) in
          let t = (tick_row s).node in
          let said = says_now t in
          let beside : AllBeside said = beside_said t.me t.log.raft.votes.leader (current_of (table_of t.log)) t.versions t.log.acted (roles_of t) (table_of t.log).contracts in
          let sent : raft_by n (raft_outs step.sent ++ said) ≡ posted n.0 step.sent =
          raft_by-append n (raft_outs step.sent) said ∙ ap (λ l. raft_by n (raft_outs step.sent) ++ l) (raft_by-beside n said beside)
          ∙ append-nil (raft_by n (raft_outs step.sent)) ∙ raft_by-outs n step.sent in
          let tick = ticks setup.nodes Noop n below (alone p xs) p.unseen (before.up ∙ up) (ap (λ u. raft_ends_numbers p.log.raft (InputTick u)) before.unseen ∙ goes) in
          record {
            goes = goes_on setup.nodes Noop n (alone s xs) (alone p xs) (alone t (xs ++ raft_by n (raft_outs step.sent ++ said))) before.goes
                (subst (λ l. Goes setup.nodes Noop n (alone p xs) (alone t (xs ++ l))) (sym sent) tick);
            config = before.config;
            acted = before.acted;
            logs = λ f. step_fitting setup.hashes p.log.raft (InputTick p.unseen) (before.logs f) refl;
            sends = λ f. subst (AllFit setup.hashes) (sym sent) (posted_fit setup.hashes n.0 step.sent (sends_fitting setup.hashes p.log.raft (before.logs f) (InputTick p.unseen)));
            told = viewed_in-append (raft_outs step.sent) said ∙ ap (λ l. l ++ viewed_in said) (viewed_in-outs step.sent) ∙ viewed_in-beside said beside;
          }

      -- ---- messages

      delivered : (from : NodeId) (m : RaftMessage Change) → s.up ≡ true → may_take s.log (InputDeliver from m) ≡ true → raft_ends_numbers s.log.raft (InputDeliver from m) ≡ false
          → IsThere n xs from (message.Raft m) → LogRow setup n xs s (take_raft s from m)
      delivered from m up may goes there =
          let step = log_step s.log (InputDeliver from m) in
          let t = (take_raft s from m).node in
          let sent : raft_by n (raft_outs step.sent) ≡ posted n.0 step.sent = raft_by-outs n step.sent in
          let fitting : input_fits setup.hashes (InputDeliver from m) ≡ true =
          ap (λ (c : ConfigState). input_fits c.hashes (InputDeliver from m)) (sym of_setup) ∙ (and_parts (raft_well_formed s.log.raft (InputDeliver from m)) (input_fits s.log.config.hashes (InputDeliver from m)) may).1 in
          record {
            goes = subst (λ l. Goes setup.nodes Noop n (alone s xs) (alone t (xs ++ l))) (sym sent)
                (delivers setup.nodes Noop n below (alone s xs) there.0 (record { from = from; to = there.1; message = m }) there.2 up goes);
            config = of_setup;
            acted = refl;
            logs = λ f. step_fitting setup.hashes s.log.raft (InputDeliver from m) f fitting;
            sends = λ f. subst (AllFit setup.hashes) (sym sent) (posted_fit setup.hashes n.0 step.sent (sends_fitting setup.hashes s.log.raft f (InputDeliver from m)));
            told = viewed_in-outs step.sent;
          }

      message_is : (from : NodeId) (m : Message) → s.up ≡ true → message_fits s from m ≡ true → message_ends_numbers s from m ≡ false → IsThere n xs from m → LogRow setup n xs s (message_row s from m)
      message_is from (message.Raft m) up fitting goes there = delivered from m up fitting goes there
      message_is from (message.Say contract ack) up fitting goes there =
          cond_both (leads s.log) (record s { acks = with_ack contract from ack s.acks }) s (λ (t : NodeState). LogRow setup n xs s (silent t))
          (λ _. left_row (silent (record s { acks = with_ack contract from ack s.acks })) refl refl refl) (λ _. left_row (silent s) refl refl refl)
      message_is from (message.Stream stream) up fitting goes there =
          left_row (message_row s from (message.Stream stream)) refl refl (beside_stream s.followings s.rows s.versions from stream s.log.acted)
      message_is from (message.Got got) up fitting goes there = left_row (message_row s from (message.Got got)) refl refl refl

      brought_is : (b : Option Brought) → s.up ≡ true → brought_ends_numbers s b ≡ false → IsBrought n xs b → LogRow setup n xs s (brought_row s b)
      brought_is None up goes there = left_row (silent s) refl refl refl
      brought_is (Some b) up goes there =
          cond_both (is_well_formed s b) (message_row s b.from b.message) (silent s) (LogRow setup n xs s)
          (λ e.
          let ends : message_ends_numbers s b.from b.message ≡ false = ap (λ v. v && message_ends_numbers s b.from b.message) (sym e) ∙ goes in
          message_is b.from b.message up (and_parts (nat_lt b.from.0 s.setup.nodes) (message_fits s b.from b.message) e).1 ends there)
          (λ _. left_row (silent s) refl refl refl)

      -- ---- crashes and restarts

      -- the node with what it kept
      abbrev kept_alone : Bool → Alone Change
      kept_alone up = record { node = kept setup.nodes s.log.raft; up = up; sent = xs }

      kept_is : (up : Bool) → kept_alone up ≡ record { node = (restarted s.log).raft; up = up; sent = xs ++ [] }
      kept_is up = λ i. record { node = begun s.log.raft.votes.me (sym of_setup i).nodes (kept_of s.log.raft); up = up; sent = sym (append-nil xs) i }

      crashed : s.up ≡ true → LogRow setup n xs s (crash_row s)
      crashed up =
          record {
            goes = subst (Goes setup.nodes Noop n (alone s xs)) (kept_is false) (crashes setup.nodes Noop n below (alone s xs) up);
            config = of_setup;
            acted = refl;
            logs = λ f. f;
            sends = λ f. tt;
            told = refl;
          }

      came_up : s.up ≡ false → LogRow setup n xs s (restart_row s)
      came_up down =
          record {
            goes = subst (Goes setup.nodes Noop n (alone s xs)) (kept_is true) (restarts setup.nodes Noop n below (alone s xs) down);
            config = of_setup;
            acted = refl;
            logs = λ f. f;
            sends = λ f. tt;
            told = refl;
          }

      -- ---- every row

      row_is : (input : Input) (b : Option Brought) → suits s.up input ≡ true → row_ends_numbers s input b ≡ false → IsBrought n xs b → LogRow setup n xs s (input_row s input b)
      row_is (Request op key what) b up goes there =
          left_row (input_row s (Request op key what) b) refl refl (beside_request s.setup.hashes s.executions s.rows s.versions op key what)
      row_is (GiveUp op) b up goes there = left_row (input_row s (GiveUp op) b) refl refl (beside_give_up s.executions op)
      row_is (See other seen) b up goes there = left_row (input_row s (See other seen) b) refl refl refl
      row_is Tick b up goes there = ticked up goes
      row_is (Deliver number) b up goes there = brought_is b up goes there
      row_is Crash b up goes there = crashed up
      row_is Restart b up goes there = came_up (not-true s.up up)

      pub step_is : (input : Input) (b : Option Brought) → suits s.up input ≡ true → ends_numbers s input b ≡ false → IsBrought n xs b → LogStep setup n xs s (node_step s input b)
      step_is input b up goes there =
          let r = input_row s input b in
          ended r (row_is input b up (or_false (row_ends_numbers s input b) (act_ends_numbers r.node (viewed r.node.log)) goes) there)
        where
          or_false : (x y : Bool) → (x || y) ≡ false → x ≡ false
          or_false true y h = h
          or_false false y h = refl
