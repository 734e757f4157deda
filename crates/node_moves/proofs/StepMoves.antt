-- What a whole step sends and says.
use Rattle.std.proofs.Common.{◌≡◌, ℕ, ◌∙◌, ◌+◌, ◌-◌, ◌==◌, List, [], ◌∷◌, ◌++◌, Option, Some, None, inl, inr, refl, sym, ap, subst, append-nil}
use Rattle.std.proofs.lemmas.Bool.{cond_both, eqb-true}
use Rattle.std.specs.List.{AllByRecursion}
use Rattle.node_moves.specs.list_laws.Members.{IsIn}
use Rattle.node_moves.specs.region_map.declared.id.NodeId.{NodeId}
use Rattle.node_moves.specs.contract_types.declared.change.Change.{Change}
use Rattle.node_moves.specs.contract_types.declared.results.Viewed.{Viewed}
use Rattle.node_moves.specs.raft_vote.declared.message.RaftMessage.{RaftMessage}
use Rattle.node_moves.specs.table_log.Fitting.{changes_of}
use Rattle.node_moves.specs.table_log.Logs.{LogState, caught_up, results, results_from, table_of}
use Rattle.node_moves.specs.register_laws.declared.operation.OpId.{OpId}
use Rattle.node_moves.specs.register_laws.declared.operation.Op.{Op}
use Rattle.node_moves.specs.exec_types.declared.input.Input.{Input}
use Rattle.node_moves.specs.exec_types.declared.input.Input.TheVariants.{Request, GiveUp, See, Tick, Deliver, Crash, Restart}
use Rattle.node_moves.specs.exec_types.declared.message.Message.{Message}
use Rattle.node_moves.specs.exec_types.declared.outcome.Outcome.TheVariants.{NotServing}
use Rattle.node_moves.specs.exec_types.declared.output.Output.{Output}
use Rattle.node_moves.specs.exec_types.declared.output.Output.TheVariants as output
use Rattle.node_moves.specs.secondary_exec.declared.following.Following.{Following}
use Rattle.node_moves.specs.primary_exec.Execution.{Execution, decided}
use Rattle.node_moves.specs.node_core.declared.node.Brought.{Brought}
use Rattle.node_moves.specs.node_core.Parts.{decide_all_outs}
use Rattle.node_moves.specs.node_core.Step.{NodeState, Stepped, act, act_on, input_row, node_step}
use Rattle.node_moves.specs.Says.{RequestSays, RowSays, Dispatches, Refuses, Says, ByClient, StepSays, ViewSays, Rises, Stays, spoken}
use Rattle.node_moves.specs.Sends.{AcksMove, LogMoves, Sends, SendsFrom, StepLogs, logged, unacted}
use Rattle.node_moves.proofs.Answering.{decided_by, given_by, spoken_all_decided}
use Rattle.node_moves.proofs.Executions.{AllAwait, awaits_at, starts_await}
use Rattle.node_moves.proofs.Lists.{AllMessages, IsIn-mapped, AllSpoken, IsSpoken, Messages, logged-append, logged_none, messages_none, spoken-append, spoken_all}
use Rattle.node_moves.proofs.RowMoves.{Row, row_moves}
use Rattle.list_laws.proofs.All.{all_append}
use Rattle.list_laws.proofs.Members.{IsIn-append, all_member}

-- ---- acting on what was committed

-- what comes of the row r as the node acts
record Acts (s : NodeState) (input : Input) (r a : Stepped) : Type 0 where
  log_is : unacted s a.node ≡ r.node.log
  acts : a.node.log.acted ≡ a.node.log.raft.view
  follows : a.node.followings ≡ r.node.followings
  acks_are : a.node.acks ≡ r.node.acks
  view : List Output
  view_says : ViewSays s a.node view
  view_spoken : AllSpoken view
  outs_are : a.outs ≡ r.outs ++ view
  awaits : AllByRecursion (AllAwait s input) a.node.executions

acts_on : (s : NodeState) (input : Input) (brought : Option Brought) (r : Stepped) → Row s input brought r → Acts s input r (act r)
acts_on s input brought r h =
    let log : LogState = r.node.log in
    let v : Viewed = record { first = log.acted + 1; results = results log } in
    let same : unacted s r.node ≡ log = λ i. record log { acted = sym h.acted i } in
    cond_both (log.acted == log.raft.view) None (Some v) (λ (o : Option Viewed). Acts s input r (act_on r o))
    (λ e. record {
      log_is = same;
      acts = eqb-true log.acted log.raft.view e;
      follows = refl;
      acks_are = refl;
      view = [];
      view_says = Stays h.acted refl;
      view_spoken = tt;
      outs_are = sym (append-nil r.outs);
      awaits = h.awaits;
    })
    (λ e. record {
      log_is = same;
      acts = refl;
      follows = refl;
      acks_are = refl;
      view = output.Viewed v.first v.results ∷ [];
      view_says = Rises v.first v.results
          (record {
            rose = ap (λ n. n == log.raft.view) (sym h.acted) ∙ e;
            first_is = ap (λ n. n + 1) h.acted;
            results_are = λ i. results_from (h.config i) (changes_of log.raft.log) (h.acted i) (log.raft.view - h.acted i);
          })
          refl;
      view_spoken = (tt, tt);
      outs_are = refl;
      awaits = starts_await s input r.node.me (table_of (caught_up log)) r.node.asking (record { asking = []; executions = r.node.executions; versions = r.node.versions }) h.awaits;
    })

-- ---- the whole step

module _ (s : NodeState) (input : Input) (brought : Option Brought) where
  abbrev pub row : Stepped
  row = input_row s input brought

  abbrev pub end : NodeState
  end = (node_step s input brought).node

  abbrev pub outs : List Output
  outs = (node_step s input brought).outs

  done : Row s input brought row
  done = row_moves s input brought

  acted : Acts s input row (act row)
  acted = acts_on s input brought row done

  abbrev answered : List Output
  answered = decide_all_outs (act row).node.executions

  view_ended : (view : List Output) → ViewSays s (act row).node view → ViewSays s end view
  view_ended view (Stays e f) = Stays e f
  view_ended view (Rises first results e f) = Rises first results (record { rose = e.rose; first_is = e.first_is; results_are = e.results_are }) f

  pub step_says : StepSays s input end outs (act row).node.executions
  step_says =
      let a = acted in
      let xs : List Execution = (act row).node.executions in
      record {
        row = spoken row.outs;
        row_says = done.says;
        view = a.view;
        view_says = view_ended a.view a.view_says;
        after = refl;
        awaits = λ x i. awaits_at s input x (all_member (AllAwait s input) xs a.awaits x i);
        whole =
            spoken-append (act row).outs (decide_all_outs xs)
            ∙ ap (λ (l : List Output). l ++ spoken (decide_all_outs xs)) (ap spoken a.outs_are ∙ spoken-append row.outs a.view ∙ ap (λ (l : List Output). spoken row.outs ++ l) (spoken_all a.view a.view_spoken))
            ∙ ap (λ (l : List Output). (spoken row.outs ++ a.view) ++ l) (spoken_all (decide_all_outs xs) (spoken_all_decided xs));
      }

  pub step_logs : StepLogs s input brought end outs
  step_logs =
      let a = acted in
      let none : logged answered ≡ [] = logged_none answered (spoken_all_decided (act row).node.executions) in
      let before : logged (act row).outs ≡ logged row.outs =
      ap logged a.outs_are ∙ logged-append row.outs a.view ∙ ap (λ (l : List (NodeId × RaftMessage Change)). logged row.outs ++ l) (logged_none a.view a.view_spoken) ∙ append-nil (logged row.outs) in
      let same : logged outs ≡ logged row.outs =
      logged-append (act row).outs answered ∙ ap (λ (l : List (NodeId × RaftMessage Change)). logged (act row).outs ++ l) none ∙ append-nil (logged (act row).outs) ∙ before in
      record {
        moves = subst (λ log. LogMoves s input brought log (logged outs)) (sym a.log_is) (subst (LogMoves s input brought row.node.log) (sym same) done.moves);
        acts = a.acts;
        acks = subst (AcksMove s input brought) (sym a.acks_are) done.acks;
      }

  step_sends : AllMessages (Sends s input brought end) outs
  step_sends =
      let a = acted in
      let P : LogState → List Following → NodeId → Message → Type 0 = SendsFrom s input brought in
      let from_row : AllMessages (Sends s input brought end) row.outs =
      subst (λ log. AllMessages (P log end.followings) row.outs) (sym a.log_is) (subst (λ fs. AllMessages (P row.node.log fs) row.outs) (sym a.follows) done.sends) in
      let M : Output → Type 0 = Messages (Sends s input brought end) in
      all_append M (act row).outs answered
      (subst (AllByRecursion M) (sym a.outs_are) (all_append M row.outs a.view from_row (messages_none (Sends s input brought end) a.view a.view_spoken)))
      (messages_none (Sends s input brought end) answered (spoken_all_decided (act row).node.executions))

  pub each_sends : (to : NodeId) (m : Message) → IsIn outs (output.Message to m) → Sends s input brought end to m
  each_sends to m i = all_member (Messages (Sends s input brought end)) outs step_sends (output.Message to m) i

-- ---- each output that is no message

spoken_in : (outs : List Output) (o : Output) → IsSpoken o → IsIn outs o → IsIn (spoken outs) o
spoken_in [] o h i = i
spoken_in (output.Message to m ∷ outs) o h i = elim i [ inl e ↦ absurd (subst IsSpoken (sym e) h) | inr j ↦ spoken_in outs o h j ]
spoken_in (output.Dispatched op key branch at ∷ outs) o h i = elim i [ inl e ↦ inl e | inr j ↦ inr (spoken_in outs o h j) ]
spoken_in (output.Viewed first results ∷ outs) o h i = elim i [ inl e ↦ inl e | inr j ↦ inr (spoken_in outs o h j) ]
spoken_in (output.Answer op outcome ∷ outs) o h i = elim i [ inl e ↦ inl e | inr j ↦ inr (spoken_in outs o h j) ]

-- the row of each input
module _ (s t : NodeState) (o : Output) where
  alone : (input : Input) (x : Output) (first : List Output) → first ≡ x ∷ [] → IsIn first o → Says s input t x → Says s input t o
  alone input x first is i h = elim (subst (λ (l : List Output). IsIn l o) is i) [ inl e ↦ subst (Says s input t) e h | inr none ↦ absurd none ]

  never : (first : List Output) → first ≡ [] → IsIn first o → ⊥
  never first is i = subst (λ (l : List Output). IsIn l o) is i

  of_request : (op : OpId) (key : List ℕ) (what : Op) (first : List Output) → RequestSays s op key first → IsIn first o → Says s (Request op key what) t o
  of_request op key what first (Dispatches x serving is) i =
      alone (Request op key what) (output.Dispatched op key x.branch (x.last + 1)) first is i (record { what = what; asked = refl; x = x; serving = serving; branch_is = refl; next = refl })
  of_request op key what first (Refuses none is) i =
      alone (Request op key what) (output.Answer op NotServing) first is i (record { key = key; what = what; asked = refl; none = none })

  of_row : (input : Input) (first : List Output) → RowSays s input first → IsIn first o → Says s input t o
  of_row (Request op key what) first h i = of_request op key what first h i
  of_row (GiveUp op) first h i =
      let g = given_by s.executions op o (subst (λ (l : List Output). IsIn l o) h i) in
      subst (Says s (GiveUp op) t) g.2.out_is (ByClient g.0 g.2.d refl g.1 g.2.pending refl g.2.short)
  of_row (See other up) first h i = absurd (never first h i)
  of_row Tick first h i = absurd (never first h i)
  of_row (Deliver number) first h i = absurd (never first h i)
  of_row Crash first h i = absurd (never first h i)
  of_row Restart first h i = absurd (never first h i)

module _ (s : NodeState) (input : Input) (t : NodeState) where
  of_view : (view : List Output) (o : Output) → ViewSays s t view → IsIn view o → Says s input t o
  of_view view o (Stays same is) i = absurd (subst (λ (l : List Output). IsIn l o) is i)
  of_view view o (Rises first results says is) i = alone s t o input (output.Viewed first results) view is i says

  of_decided : (all : List Output) (xs : List Execution) (h : StepSays s input t all xs) (o : Output) → IsIn (decide_all_outs xs) o → Says s input t o
  of_decided all xs h o i =
      let d = decided_by xs o i in
      let at = d.2 in
      let known : IsIn d.0.dispatch.waiting (record { op = Some at.op; at = at.d.at; reply = at.d.reply }) =
      subst (IsIn d.0.dispatch.waiting) (λ k. record { op = at.op_is k; at = at.d.at; reply = at.d.reply }) at.is_in in
      subst (Says s input t) at.out_is
      (record {
        awaits = h.awaits d.0 d.1 at.op at.d.at at.d.reply known;
        x = decided d.0;
        is_in = subst (λ (l : List Execution). IsIn l (decided d.0)) (sym h.after) (IsIn-mapped decided xs d.0 d.1);
        branch_is = refl;
        counted = at.counted;
      })

  spoken_says : (all : List Output) (xs : List Execution) → StepSays s input t all xs → (o : Output) → IsSpoken o → IsIn all o → Says s input t o
  spoken_says all xs h o is i =
      elim (IsIn-append (h.row ++ h.view) (decide_all_outs xs) o (subst (λ (l : List Output). IsIn l o) h.whole (spoken_in all o is i))) [
        | inr last ↦ of_decided all xs h o last
        | inl first ↦ elim (IsIn-append h.row h.view o first) [
          | inl j ↦ of_row s t o input h.row h.row_says j
          | inr j ↦ of_view h.view o h.view_says j
        ]
      ]

  pub each_says : (all : List Output) (xs : List Execution) → StepSays s input t all xs → (o : Output) → IsIn all o → Says s input t o
  each_says all xs h (output.Message to m) i = tt
  each_says all xs h (output.Dispatched op key branch at) i = spoken_says all xs h (output.Dispatched op key branch at) tt i
  each_says all xs h (output.Viewed first results) i = spoken_says all xs h (output.Viewed first results) tt i
  each_says all xs h (output.Answer op outcome) i = spoken_says all xs h (output.Answer op outcome) tt i
