-- In every run "no majority" is answered only where a pending operation was given up, with the counts that it then had, and
-- these are no majorities.
use Rattle.std.proofs.Common.{◌≡◌, ℕ, ◌+◌, ◌≤◌, true, false, cond, List, [], ◌∷◌, ◌++◌, map, filter, Option, Some, None, refl, sym, ap, ◌∙◌, subst, inl, inr, arith}
use Rattle.std.proofs.lemmas.Bool.{cond_both, eq-eqb}
use Rattle.path_runs.specs.runs.region_map.declared.id.Id.{Id}
use Rattle.path_runs.specs.runs.region_map.Maps.{Pieced}
use Rattle.path_runs.specs.runs.branch_history.declared.version.Version.{Version}
use Rattle.path_runs.specs.runs.register_laws.declared.operation.OpId.{OpId}
use Rattle.path_runs.specs.runs.register_laws.declared.operation.Op.{Op}
use Rattle.path_runs.specs.runs.register_laws.Lists.{same_op}
use Rattle.path_runs.specs.runs.contract_types.Setup.{SetupState, IsSetup}
use Rattle.path_runs.specs.runs.contract_types.declared.counts.Counts.{Counts}
use Rattle.path_runs.specs.runs.contract_types.declared.results.Viewed.{Viewed as Results}
use Rattle.path_runs.specs.runs.table_log.Logs.{viewed}
use Rattle.path_runs.specs.runs.exec_types.declared.input.Input.{Input}
use Rattle.path_runs.specs.runs.exec_types.declared.input.Input.TheVariants.{Request, GiveUp, See, Tick, Deliver, Crash, Restart}
use Rattle.path_runs.specs.runs.exec_types.declared.message.Part.{Part}
use Rattle.path_runs.specs.runs.exec_types.declared.outcome.Outcome.{Outcome}
use Rattle.path_runs.specs.runs.exec_types.declared.outcome.Outcome.TheVariants.{Done, NotServing, NoMajority}
use Rattle.path_runs.specs.runs.exec_types.declared.output.Output.{Output}
use Rattle.path_runs.specs.runs.exec_types.declared.output.Output.TheVariants.{Dispatched, Viewed, Answer}
use Rattle.path_runs.specs.runs.store_api.Rows.{Rows, value_of}
use Rattle.path_runs.specs.runs.write_dispatch.declared.decided.Decided.{Decided}
use Rattle.path_runs.specs.runs.write_dispatch.Dispatch.{counts_of, are_majorities, is_decided, pending_of, is_of}
use Rattle.path_runs.specs.runs.primary_exec.declared.session.Session.{Session}
use Rattle.path_runs.specs.runs.primary_exec.Execution.{Execution, has_room, sends, part_of, dispatch_row, answers, decides, decided_answers, decide_outs, given_up, give_up_outs}
use Rattle.path_runs.specs.runs.node_core.declared.node.Brought.{Brought}
use Rattle.path_runs.specs.runs.node_core.declared.journal.Entry.{Entry}
use Rattle.path_runs.specs.runs.node_core.Parts.{Requested, is_for, dispatched, passed_on, request_all, give_up_all_outs, decide_all_outs}
use Rattle.path_runs.specs.runs.node_core.Step.{NodeState, Stepped, input_row, act_on, act, node_step}
use Rattle.path_runs.specs.runs.Run.{brought, state, IsRun}
use Rattle.path_runs.specs.runs.Story.{answer_in, or_else, answer}
use Rattle.path_runs.specs.runs.GivenUp.{counts_pending, or_counts, pending_counts, IsGivenUpBy, IsGivenUp}
use Rattle.path_runs.proofs.step_runs.Facts.{same_op-true}
use Rattle.path_runs.proofs.step_runs.Outs.{answer_in-append, answer_in-sends}
use Rattle.answer_runs.proofs.OnceWaits.{one_if, waits_in, waits_over, given_leaves}
use Rattle.path_runs.proofs.key_runs.KeyedOuts.{AnswersNone, none_brought, none_tick}
use Rattle.answer_runs.proofs.Once.{node_below, waits_once}

-- what an answer says of no majority, if it says that
abbrev Tells : (Counts → Type 0) → Option Outcome → Type 0
Tells P None = Unit {0}
Tells P (Some (Done reply branch timestamp)) = Unit {0}
Tells P (Some NotServing) = Unit {0}
Tells P (Some (NoMajority counts)) = P counts

Tells-or_else : (P : Counts → Type 0) (a b : Option Outcome) → Tells P a → Tells P b → Tells P (or_else a b)
Tells-or_else P None b h k = k
Tells-or_else P (Some outcome) b h k = h

Tells-append : (P : Counts → Type 0) (a b : List Output) (op : OpId) → Tells P (answer_in a op) → Tells P (answer_in b op) → Tells P (answer_in (a ++ b) op)
Tells-append P a b op h k =
    subst (λ (v : Option Outcome). Tells P v) (sym (answer_in-append a b op)) (Tells-or_else P (answer_in a op) (answer_in b op) h k)

Tells-none : (P : Counts → Type 0) (outs : List Output) (op : OpId) → AnswersNone outs → Tells P (answer_in outs op)
Tells-none P outs op none = subst (λ (v : Option Outcome). Tells P v) (sym (none op)) tt

-- ---- what is decided is answered otherwise

Tells-one : (P : Counts → Type 0) (branch : Id) (d : Decided) (q : Option OpId) (rest : List Output) (op : OpId) → Tells P (answer_in rest op) → Tells P (answer_in (answers branch d q ++ rest) op)
Tells-one P branch d None rest op h = h
Tells-one P branch d (Some q) rest op h =
    cond_both (same_op q op) (Some (Done d.reply branch d.at)) (answer_in rest op) (λ (v : Option Outcome). Tells P v) (λ _. tt) (λ _. h)

Tells-decided : (P : Counts → Type 0) (x : Execution) (ds : List Decided) (op : OpId) → Tells P (answer_in (decided_answers x ds) op)
Tells-decided P x [] op = tt
Tells-decided P x (d ∷ ds) op =
    cond_both (decides x d) (answers x.branch d d.op ++ decided_answers x ds) [] (λ (l : List Output). Tells P (answer_in l op))
    (λ _. Tells-one P x.branch d d.op (decided_answers x ds) op (Tells-decided P x ds op)) (λ _. tt)

Tells-all_decided : (P : Counts → Type 0) (xs : List Execution) (op : OpId) → Tells P (answer_in (decide_all_outs xs) op)
Tells-all_decided P [] op = tt
Tells-all_decided P (x ∷ xs) op = Tells-append P (decide_outs x) (decide_all_outs xs) op (Tells-decided P x x.dispatch.waiting op) (Tells-all_decided P xs op)

-- ---- requests

Tells-dispatch : (P : Counts → Type 0) (x : Execution) (rows : Rows) (versions : Pieced Version) (q : OpId) (key : List ℕ) (what : Op) (op : OpId) → Tells P (answer_in (dispatch_row x rows versions q key what).outs op)
Tells-dispatch P x rows versions q key what op =
    let part : Part = part_of (value_of rows key) (x.last + 1) key what in
    let sessions : List Session = filter has_room x.sessions in
    Tells-append P (map (sends part) sessions) (Dispatched q key x.branch (x.last + 1) ∷ []) op
    (subst (λ (v : Option Outcome). Tells P v) (sym (answer_in-sends part sessions op)) tt) tt

Tells-request : (P : Counts → Type 0) (hashes : ℕ) (xs : List Execution) (rows : Rows) (versions : Pieced Version) (q : OpId) (key : List ℕ) (what : Op) (op : OpId)
    → Tells P (answer_in (request_all hashes xs rows versions q key what).outs op)
Tells-request P hashes [] rows versions q key what op = cond_both (same_op q op) (Some NotServing) None (λ (v : Option Outcome). Tells P v) (λ _. tt) (λ _. tt)
Tells-request P hashes (x ∷ xs) rows versions q key what op =
    cond_both (is_for hashes key x) (dispatched (dispatch_row x rows versions q key what) xs) (passed_on x (request_all hashes xs rows versions q key what))
    (λ (r : Requested). Tells P (answer_in r.outs op))
    (λ _. Tells-dispatch P x rows versions q key what op) (λ _. Tells-request P hashes xs rows versions q key what op)

-- ---- what is given up

-- what is pending is given up with its counts, where these are no majorities
Tells-given : (P : Counts → Type 0) (x : Execution) (q op : OpId) (o : Option Decided)
    → ((d : Decided) → o ≡ Some d → same_op q op ≡ true → is_decided x.dispatch.acks x.contract x.me.0 d.at ≡ false → P (counts_of x.dispatch.acks x.contract x.me.0 d.at))
    → Tells P (answer_in (given_up x.dispatch.acks x.contract x.me.0 q o) op)
Tells-given P x q op None h = tt
Tells-given P x q op (Some d) h =
    let counts : Counts = counts_of x.dispatch.acks x.contract x.me.0 d.at in
    cond_both (is_decided x.dispatch.acks x.contract x.me.0 d.at) [] (Answer q (NoMajority counts) ∷ []) (λ (l : List Output). Tells P (answer_in l op))
    (λ _. tt)
    (λ e. cond_both (same_op q op) (Some (NoMajority counts)) None (λ (v : Option Outcome). Tells P v) (λ same. h d refl same e) (λ _. tt))

-- what does not wait is given up by none
pending_none : (ds : List Decided) (q : OpId) → waits_in ds q ≡ 0 → pending_of ds q ≡ None
pending_none [] q h = refl
pending_none (d ∷ ds) q h =
    elim (is_of q d.op) as (λ c. one_if c + waits_in ds q ≡ 0 → cond c (Some d) (pending_of ds q) ≡ None) [
      | true ↦ λ k. absurd (omega arith)
      | false ↦ λ k. pending_none ds q (omega arith)
    ] h

none_given : (P : Counts → Type 0) (xs : List Execution) (q op : OpId) → waits_over xs q ≡ 0 → Tells P (answer_in (give_up_all_outs xs q) op)
none_given P [] q op h = tt
none_given P (x ∷ xs) q op h =
    Tells-append P (give_up_outs x q) (give_up_all_outs xs q) op
    (subst (λ (o : Option Decided). Tells P (answer_in (given_up x.dispatch.acks x.contract x.me.0 q o) op)) (sym (pending_none x.dispatch.waiting q (omega arith))) tt)
    (none_given P xs q op (omega arith))

-- what waits at one execution alone is given up with its counts there
Tells-give_up : (P : Counts → Type 0) (xs : List Execution) (q op : OpId) → waits_over xs q ≤ 1
    → ((counts : Counts) → pending_counts xs q ≡ Some counts → same_op q op ≡ true → are_majorities counts ≡ false → P counts)
    → Tells P (answer_in (give_up_all_outs xs q) op)
Tells-give_up P [] q op once h = tt
Tells-give_up P (x ∷ xs) q op once h =
    elim (pending_of x.dispatch.waiting q) as (λ o. pending_of x.dispatch.waiting q ≡ o
    → ((counts : Counts) → or_counts (counts_pending x o) (pending_counts xs q) ≡ Some counts → same_op q op ≡ true → are_majorities counts ≡ false → P counts)
    → Tells P (answer_in (given_up x.dispatch.acks x.contract x.me.0 q o ++ give_up_all_outs xs q) op)) [
      | None ↦ λ _ k. Tells-give_up P xs q op (omega arith) k
      | Some d ↦ λ is k.
          let here = given_leaves x.dispatch.waiting q q d is in
          let one : one_if (same_op q q) ≡ 1 = ap one_if (eq-eqb q.0 q.0 refl) in
          Tells-append P (given_up x.dispatch.acks x.contract x.me.0 q (Some d)) (give_up_all_outs xs q) op
          (Tells-given P x q op (Some d) (λ other same' same short. k (counts_of x.dispatch.acks x.contract x.me.0 other.at) (ap (λ (v : Option Decided). or_counts (counts_pending x v) (pending_counts xs q)) same') same short))
          (none_given P xs q op (omega arith))
    ] refl h

-- ---- a step

-- the counts of what is given up, which are no majorities
abbrev IsShort : NodeState → Input → OpId → Counts → Type 0
IsShort s input op counts = IsGivenUpBy s input op counts × (are_majorities counts ≡ false)

Tells-row : (s : NodeState) (input : Input) (b : Option Brought) (op : OpId) → ((q : OpId) → waits_over s.executions q ≤ 1) → Tells (IsShort s input op) (answer_in (input_row s input b).outs op)
Tells-row s (Request q key what) b op once = Tells-request (IsShort s (Request q key what) op) s.setup.hashes s.executions s.rows s.versions q key what op
Tells-row s (GiveUp q) b op once =
    Tells-give_up (IsShort s (GiveUp q) op) s.executions q op (once q)
    (λ counts is same short.
    let one : q ≡ op = same_op-true q op same in
    ((one, ap (pending_counts s.executions) (sym one) ∙ is), short))
Tells-row s (See other up) b op once = tt
Tells-row s Tick b op once = Tells-none (IsShort s Tick op) (input_row s Tick b).outs op (none_tick s)
Tells-row s (Deliver number) b op once = Tells-none (IsShort s (Deliver number) op) (input_row s (Deliver number) b).outs op (none_brought s b)
Tells-row s Crash b op once = tt
Tells-row s Restart b op once = tt

-- acting on the log answers nothing
Tells-act : (P : Counts → Type 0) (step : Stepped) (v : Option Results) (op : OpId) → Tells P (answer_in step.outs op) → Tells P (answer_in (act_on step v).outs op)
Tells-act P step None op h = h
Tells-act P step (Some v) op h = Tells-append P step.outs (Viewed v.first v.results ∷ []) op h tt

Tells-step : (s : NodeState) (input : Input) (b : Option Brought) (op : OpId) → ((q : OpId) → waits_over s.executions q ≤ 1) → Tells (IsShort s input op) (answer_in (node_step s input b).outs op)
Tells-step s input b op once =
    let P : Counts → Type 0 = IsShort s input op in
    let row : Stepped = input_row s input b in
    Tells-append P (act row).outs (decide_all_outs (act row).node.executions) op (Tells-act P row (viewed row.node.log) op (Tells-row s input b op once)) (Tells-all_decided P (act row).node.executions op)

-- ---- runs

no_majority_given_up : (setup : SetupState) (past : List Entry) → IsRun setup past → (op : OpId) (counts : Counts) → answer past op ≡ Some (NoMajority counts)
    → IsGivenUp setup past op counts × (are_majorities counts ≡ false)
no_majority_given_up setup [] h op counts a = cc
no_majority_given_up setup (e ∷ past) h op counts a =
    elim (answer past op) as (λ v. answer past op ≡ v → or_else v (answer_in e.outputs op) ≡ Some (NoMajority counts) → IsGivenUp setup (e ∷ past) op counts × (are_majorities counts ≡ false)) [
      | Some outcome ↦ λ is k. let r = no_majority_given_up setup past h.1 op counts (is ∙ k) in (inr r.0, r.1)
      | None ↦ λ _ k.
          let s : NodeState = state setup e.node.0 past in
          let b : Option Brought = brought past e.input in
          let once = λ (q : OpId). waits_once setup past h.1 e.node.0 q (node_below setup past e h.0) in
          let said : answer_in (node_step s e.input b).outs op ≡ Some (NoMajority counts) = ap (λ (l : List Output). answer_in l op) (sym h.0.outputs) ∙ k in
          let w : IsShort s e.input op counts = subst (λ (v : Option Outcome). Tells (IsShort s e.input op) v) said (Tells-step s e.input b op once) in
          (inl w.0, w.1)
    ] refl a

-- an operation whose answer is that it has no majority was given up with these counts
pub given_up_where : (setup : SetupState) → IsSetup setup → (past : List Entry) → IsRun setup past → (op : OpId) (counts : Counts) → answer past op ≡ Some (NoMajority counts)
    → IsGivenUp setup past op counts
given_up_where setup ok past h op counts a = (no_majority_given_up setup past h op counts a).0

-- and they are none
pub given_up_short : (setup : SetupState) → IsSetup setup → (past : List Entry) → IsRun setup past → (op : OpId) (counts : Counts) → answer past op ≡ Some (NoMajority counts)
    → are_majorities counts ≡ false
given_up_short setup ok past h op counts a = (no_majority_given_up setup past h op counts a).1
