-- How often an operation waits at a node and is answered there: a step answers what it takes from what waits, and nothing
-- comes to wait but what is requested. A crash only drops what waits, and an execution that starts waits for a sync alone.
use Rattle.std.proofs.Common.{◌≡◌, ℕ, ◌+◌, ◌≤◌, ◌==◌, Bool, true, false, cond, List, [], ◌∷◌, ◌++◌, map, filter, Option, Some, None, refl, sym, ap, ◌∙◌, nat_lt, arith}
use Rattle.std.proofs.lemmas.Bool.{cond_both, false≢true, eqb-true}
use Rattle.path_runs.specs.runs.region_map.declared.id.Id.{Id}
use Rattle.path_runs.specs.runs.region_map.declared.id.NodeId.{NodeId}
use Rattle.path_runs.specs.runs.region_map.Maps.{Pieced}
use Rattle.path_runs.specs.runs.branch_history.declared.version.Version.{Version}
use Rattle.path_runs.specs.runs.register_laws.declared.operation.OpId.{OpId}
use Rattle.path_runs.specs.runs.register_laws.declared.operation.Op.{Op}
use Rattle.path_runs.specs.runs.register_laws.Register.{reply_of}
use Rattle.path_runs.specs.runs.register_laws.Lists.{same_op}
use Rattle.path_runs.specs.runs.contract_types.Tables.{Table}
use Rattle.path_runs.specs.runs.contract_types.declared.contract.Contract.{Contract}
use Rattle.path_runs.specs.runs.contract_types.declared.results.Viewed.{Viewed as Results}
use Rattle.path_runs.specs.runs.coordinator.Acks.{with_ack}
use Rattle.path_runs.specs.runs.coordinator.Proposals.{proposals_of, after_proposals}
use Rattle.path_runs.specs.runs.table_log.Logs.{table_of, caught_up, viewed}
use Rattle.path_runs.specs.runs.exec_types.declared.input.Input.{Input}
use Rattle.path_runs.specs.runs.exec_types.declared.input.Input.TheVariants.{Request, GiveUp, See, Tick, Deliver, Crash, Restart}
use Rattle.path_runs.specs.runs.exec_types.declared.message.Message.{Message as Sent}
use Rattle.path_runs.specs.runs.exec_types.declared.message.Message.TheVariants as message
use Rattle.path_runs.specs.runs.exec_types.declared.message.Got.{Got}
use Rattle.path_runs.specs.runs.exec_types.declared.message.Part.{Part}
use Rattle.path_runs.specs.runs.exec_types.declared.outcome.Outcome.{Outcome}
use Rattle.path_runs.specs.runs.exec_types.declared.outcome.Outcome.TheVariants.{NoMajority}
use Rattle.path_runs.specs.runs.exec_types.declared.output.Output.{Output}
use Rattle.path_runs.specs.runs.exec_types.declared.output.Output.TheVariants.{Message, Dispatched, Viewed, Answer}
use Rattle.path_runs.specs.runs.store_api.Rows.{Rows, value_of}
use Rattle.path_runs.specs.runs.write_dispatch.declared.decided.Decided.{Decided}
use Rattle.path_runs.specs.runs.write_dispatch.Dispatch.{DispatchState, counts_of, is_decided, pending_of, without_op, is_of}
use Rattle.path_runs.specs.runs.primary_exec.declared.asking.Asking.{Asking}
use Rattle.path_runs.specs.runs.primary_exec.declared.session.Session.{Session}
use Rattle.path_runs.specs.runs.primary_exec.Execution.{Execution, PrimaryStep, started, has_room, sends, part_of, dispatch_row, is_live, with_stands, with_acked, got_row, answers, decides, decided_answers, undecided, decide_outs, given_up, without_given_up, give_up_row, give_up_outs}
use Rattle.path_runs.specs.runs.node_core.declared.node.Brought.{Brought}
use Rattle.path_runs.specs.runs.node_core.Parts.{Requested, is_for, dispatched, passed_on, request_all, got_all, give_up_all, give_up_all_outs, decide_all, decide_all_outs}
use Rattle.path_runs.specs.runs.node_core.Starting.{Starting, place_of, placed, due, start_one, start_each}
use Rattle.path_runs.specs.runs.node_core.Step.{NodeState, Stepped, silent, leads, coordinates, propose_all, tick_row, message_row, is_well_formed, brought_row, input_row, act_on, act, decide_step, node_step}
use Rattle.path_runs.specs.runs.Run.{requests}
use Rattle.path_runs.specs.runs.Story.{answer_in}
use Rattle.path_runs.specs.runs.Answers.{answers_in}
use Rattle.path_runs.proofs.key_runs.KeyedOuts.{AnswersNone, none_brought, none_tick}

abbrev pub one_if : Bool → ℕ
one_if b = cond b 1 0

-- how often an operation waits
abbrev pub waits_in : List Decided → OpId → ℕ
waits_in [] op = 0
waits_in (d ∷ ds) op = one_if (is_of op d.op) + waits_in ds op

-- the same of some executions
abbrev pub waits_over : List Execution → OpId → ℕ
waits_over [] op = 0
waits_over (x ∷ xs) op = waits_in x.dispatch.waiting op + waits_over xs op

-- ---- lists

answers_in-append : (a b : List Output) (op : OpId) → answers_in (a ++ b) op ≡ answers_in a op + answers_in b op
answers_in-append [] b op = omega arith
answers_in-append (Message to message ∷ a) b op = answers_in-append a b op
answers_in-append (Dispatched q key branch timestamp ∷ a) b op = answers_in-append a b op
answers_in-append (Viewed first results ∷ a) b op = answers_in-append a b op
answers_in-append (Answer q outcome ∷ a) b op =
    let rest = answers_in-append a b op in
    omega arith

answers_in-sends : (part : Part) (ss : List Session) (op : OpId) → answers_in (map (sends part) ss) op ≡ 0
answers_in-sends part [] op = refl
answers_in-sends part (s ∷ ss) op = answers_in-sends part ss op

-- what answers an operation not at all answers it no times
answers_none : (outs : List Output) (op : OpId) → answer_in outs op ≡ None → answers_in outs op ≡ 0
answers_none [] op h = refl
answers_none (Message to message ∷ outs) op h = answers_none outs op h
answers_none (Dispatched q key branch timestamp ∷ outs) op h = answers_none outs op h
answers_none (Viewed first results ∷ outs) op h = answers_none outs op h
answers_none (Answer q outcome ∷ outs) op h =
    elim (same_op q op) as (λ c. cond c (Some outcome) (answer_in outs op) ≡ None → one_if c + answers_in outs op ≡ 0) [
      | true ↦ λ k. absurd (some_not_none outcome k)
      | false ↦ λ k. let rest = answers_none outs op k in omega (arith, rest)
    ] h
  where
    some_not_none : (o : Outcome) → Some o ≡ None → ⊥
    some_not_none o k = cc

waits_in-push : (ds : List Decided) (d : Decided) (op : OpId) → waits_in (ds ++ d ∷ []) op ≡ waits_in ds op + one_if (is_of op d.op)
waits_in-push [] d op = omega arith
waits_in-push (x ∷ ds) d op = let rest = waits_in-push ds d op in omega arith

-- ---- what is decided leaves, and is answered

answers_in-one : (branch : Id) (d : Decided) (q : Option OpId) (rest : List Output) (op : OpId) → answers_in (answers branch d q ++ rest) op ≡ one_if (is_of op q) + answers_in rest op
answers_in-one branch d None rest op = omega arith
answers_in-one branch d (Some q) rest op = refl

decided_leave : (x : Execution) (ds : List Decided) (op : OpId) → answers_in (decided_answers x ds) op + waits_in (undecided x ds) op ≡ waits_in ds op
decided_leave x [] op = refl
decided_leave x (d ∷ ds) op =
    elim (decides x d) as (λ c. answers_in (cond c (answers x.branch d d.op ++ decided_answers x ds) []) op + waits_in (cond c (undecided x ds) (d ∷ ds)) op ≡ one_if (is_of op d.op) + waits_in ds op) [
      | true ↦
          let rest = decided_leave x ds op in
          let first = answers_in-one x.branch d d.op (decided_answers x ds) op in
          omega arith
      | false ↦ omega arith
    ]

all_decided : (xs : List Execution) (op : OpId) → answers_in (decide_all_outs xs) op + waits_over (decide_all xs) op ≡ waits_over xs op
all_decided [] op = refl
all_decided (x ∷ xs) op =
    let both = answers_in-append (decide_outs x) (decide_all_outs xs) op in
    let first = decided_leave x x.dispatch.waiting op in
    let rest = all_decided xs op in
    omega arith

-- ---- requests

dispatch_waits : (x : Execution) (rows : Rows) (versions : Pieced Version) (q : OpId) (key : List ℕ) (what : Op) (op : OpId)
    → answers_in (dispatch_row x rows versions q key what).outs op + waits_in (dispatch_row x rows versions q key what).execution.dispatch.waiting op ≡ waits_in x.dispatch.waiting op + one_if (same_op q op)
dispatch_waits x rows versions q key what op =
    let part : Part = part_of (value_of rows key) (x.last + 1) key what in
    let sessions : List Session = filter has_room x.sessions in
    let none = answers_in-sends part sessions op in
    let all = answers_in-append (map (sends part) sessions) (Dispatched q key x.branch (x.last + 1) ∷ []) op in
    let more = waits_in-push x.dispatch.waiting (record { op = Some q; at = x.last + 1; reply = reply_of (value_of rows key) what }) op in
    omega arith

request_waits : (hashes : ℕ) (xs : List Execution) (rows : Rows) (versions : Pieced Version) (q : OpId) (key : List ℕ) (what : Op) (op : OpId)
    → answers_in (request_all hashes xs rows versions q key what).outs op + waits_over (request_all hashes xs rows versions q key what).executions op ≡ waits_over xs op + one_if (same_op q op)
request_waits hashes [] rows versions q key what op = omega arith
request_waits hashes (x ∷ xs) rows versions q key what op =
    let step : PrimaryStep = dispatch_row x rows versions q key what in
    let later : Requested = request_all hashes xs rows versions q key what in
    let here = dispatch_waits x rows versions q key what op in
    let rest = request_waits hashes xs rows versions q key what op in
    cond_both (is_for hashes key x) (dispatched step xs) (passed_on x later)
    (λ (r : Requested). answers_in r.outs op + waits_over r.executions op ≡ (waits_in x.dispatch.waiting op + waits_over xs op) + one_if (same_op q op))
    (λ _. omega arith) (λ _. omega arith)

-- ---- what is given up

one_if-same : (q op : OpId) (p : Option OpId) → is_of q p ≡ true → one_if (same_op q op) ≡ one_if (is_of op p)
one_if-same q op None h = absurd (false≢true h)
one_if-same q op (Some r) h = ap (λ n. one_if (n == op.0)) (sym (eqb-true r.0 q.0 h))

-- what is given up waits once less
pub given_leaves : (ds : List Decided) (q op : OpId) (d : Decided) → pending_of ds q ≡ Some d → one_if (same_op q op) + waits_in (without_op ds q) op ≡ waits_in ds op
given_leaves [] q op d is = cc
given_leaves (x ∷ ds) q op d is =
    elim (is_of q x.op) as (λ c. is_of q x.op ≡ c → cond c (Some x) (pending_of ds q) ≡ Some d → one_if (same_op q op) + waits_in (cond c ds (x ∷ without_op ds q)) op ≡ one_if (is_of op x.op) + waits_in ds op) [
      | true ↦ λ e _. ap (λ n. n + waits_in ds op) (one_if-same q op x.op e)
      | false ↦ λ _ k. let rest = given_leaves ds q op d k in omega arith
    ] refl is

given_balance : (p : DispatchState) (c : Contract) (me : ℕ) (q op : OpId) (o : Option Decided) → pending_of p.waiting q ≡ o
    → answers_in (given_up p.acks c me q o) op + waits_in (without_given_up p c me q o).waiting op ≡ waits_in p.waiting op
given_balance p c me q op None is = omega arith
given_balance p c me q op (Some d) is =
    elim (is_decided p.acks c me d.at) as (λ b. answers_in (cond b [] (Answer q (NoMajority (counts_of p.acks c me d.at)) ∷ [])) op + waits_in (cond b p (record p { waiting = without_op p.waiting q })).waiting op ≡ waits_in p.waiting op) [
      | true ↦ omega arith
      | false ↦ let left = given_leaves p.waiting q op d is in omega arith
    ]

give_up_waits : (xs : List Execution) (q op : OpId) → answers_in (give_up_all_outs xs q) op + waits_over (give_up_all xs q) op ≡ waits_over xs op
give_up_waits [] q op = refl
give_up_waits (x ∷ xs) q op =
    let both = answers_in-append (give_up_outs x q) (give_up_all_outs xs q) op in
    let first : answers_in (give_up_outs x q) op + waits_in (give_up_row x q).dispatch.waiting op ≡ waits_in x.dispatch.waiting op =
    given_balance x.dispatch x.contract x.me.0 q op (pending_of x.dispatch.waiting q) refl in
    let rest = give_up_waits xs q op in
    omega arith

-- ---- and leave what waits

with_stands-waiting : (d : DispatchState) (from : NodeId) (got : Got) (stands : Option ℕ) → (with_stands d from got stands).waiting ≡ d.waiting
with_stands-waiting d from got None = refl
with_stands-waiting d from got (Some at) = refl

got_row-waiting : (x : Execution) (from : NodeId) (got : Got) → (got_row x from got).dispatch.waiting ≡ x.dispatch.waiting
got_row-waiting x from got =
    cond_both (is_live x from got.session) (record x { sessions = map (with_acked from got.session got.upto) x.sessions; dispatch = with_stands x.dispatch from got got.stands }) x
    (λ (y : Execution). y.dispatch.waiting ≡ x.dispatch.waiting) (λ _. with_stands-waiting x.dispatch from got got.stands) (λ _. refl)

got_waits : (xs : List Execution) (from : NodeId) (got : Got) (op : OpId) → waits_over (got_all xs from got) op ≡ waits_over xs op
got_waits [] from got op = refl
got_waits (x ∷ xs) from got op =
    let first : waits_in (got_row x from got).dispatch.waiting op ≡ waits_in x.dispatch.waiting op = ap (λ (l : List Decided). waits_in l op) (got_row-waiting x from got) in
    let rest = got_waits xs from got op in
    omega arith

message_waits : (s : NodeState) (from : NodeId) (m : Sent) (op : OpId) → waits_over (message_row s from m).node.executions op ≡ waits_over s.executions op
message_waits s from (message.Raft m) op = refl
message_waits s from (message.Say contract ack) op =
    cond_both (leads s.log) (record s { acks = with_ack contract from ack s.acks }) s (λ (t : NodeState). waits_over t.executions op ≡ waits_over s.executions op) (λ _. refl) (λ _. refl)
message_waits s from (message.Stream stream) op = refl
message_waits s from (message.Got got) op = got_waits s.executions from got op

brought_waits : (s : NodeState) (b : Option Brought) (op : OpId) → waits_over (brought_row s b).node.executions op ≡ waits_over s.executions op
brought_waits s None op = refl
brought_waits s (Some b) op =
    cond_both (is_well_formed s b) (message_row s b.from b.message) (silent s) (λ (step : Stepped). waits_over step.node.executions op ≡ waits_over s.executions op)
    (λ _. message_waits s b.from b.message op) (λ _. refl)

tick_waits : (s : NodeState) (op : OpId) → waits_over (tick_row s).node.executions op ≡ waits_over s.executions op
tick_waits s op =
    cond_both (coordinates s.log)
    (record s { log = propose_all s.log (proposals_of s.acks (table_of s.log)); acks = after_proposals s.acks (table_of s.log) }) s
    (λ (t : NodeState). waits_over t.executions op ≡ waits_over s.executions op) (λ _. refl) (λ _. refl)

-- ---- starting

placed_waits : (cs : List Contract) (x : Execution) (ys : List Execution) (op : OpId) → waits_over (placed cs x ys) op ≡ waits_in x.dispatch.waiting op + waits_over ys op
placed_waits cs x [] op = refl
placed_waits cs x (y ∷ ys) op =
    let rest = placed_waits cs x ys op in
    cond_both (nat_lt (place_of cs x.contract.id) (place_of cs y.contract.id)) (x ∷ y ∷ ys) (y ∷ placed cs x ys)
    (λ (l : List Execution). waits_over l op ≡ waits_in x.dispatch.waiting op + (waits_in y.dispatch.waiting op + waits_over ys op))
    (λ _. refl) (λ _. omega (arith, rest))

-- a first sync is of no operation
one_start : (me : NodeId) (cs : List Contract) (a : Asking) (initial : Option ℕ) (s : Starting) (op : OpId) → waits_over (start_one me cs a initial s).executions op ≡ waits_over s.executions op
one_start me cs a None s op = refl
one_start me cs a (Some initial) s op = let more = placed_waits cs (started a me initial) s.executions op in omega (arith, more)

all_start : (me : NodeId) (t : Table) (rest : List Asking) (s : Starting) (op : OpId) → waits_over (start_each me t rest s).executions op ≡ waits_over s.executions op
all_start me t [] s op = refl
all_start me t (a ∷ rest) s op = all_start me t rest (start_one me t.contracts a (due t a) s) op ∙ one_start me t.contracts a (due t a) s op

-- ---- a step

-- an operation leaves a step no more often than it was there
abbrev Balanced : Stepped → OpId → ℕ → Type 0
Balanced step op most = answers_in step.outs op + waits_over step.node.executions op ≤ most

balanced_act : (step : Stepped) (v : Option Results) (op : OpId) (most : ℕ) → Balanced step op most → Balanced (act_on step v) op most
balanced_act step None op most h = h
balanced_act step (Some v) op most h =
    let s : NodeState = step.node in
    let both = answers_in-append step.outs (Viewed v.first v.results ∷ []) op in
    let same = all_start s.me (table_of (caught_up s.log)) s.asking (record { asking = []; executions = s.executions; versions = s.versions }) op in
    omega (arith, both, same, h)

balanced_decide : (step : Stepped) (op : OpId) (most : ℕ) → Balanced step op most → Balanced (decide_step step) op most
balanced_decide step op most h =
    let both = answers_in-append step.outs (decide_all_outs step.node.executions) op in
    let left = all_decided step.node.executions op in
    omega (arith, both, left, h)

-- a row that answers nothing
balanced_none : (step : Stepped) (op : OpId) (most : ℕ) → AnswersNone step.outs → waits_over step.node.executions op ≡ most → Balanced step op (most + 0)
balanced_none step op most none same = let none_here = answers_none step.outs op (none op) in omega (arith, none_here, same)

balanced_row : (s : NodeState) (input : Input) (b : Option Brought) (op : OpId) → Balanced (input_row s input b) op (waits_over s.executions op + one_if (requests input op))
balanced_row s (Request q key what) b op = let all = request_waits s.setup.hashes s.executions s.rows s.versions q key what op in omega (arith, all)
balanced_row s (GiveUp q) b op = let all = give_up_waits s.executions q op in omega (arith, all)
balanced_row s (See other up) b op = omega arith
balanced_row s Tick b op = balanced_none (tick_row s) op (waits_over s.executions op) (none_tick s) (tick_waits s op)
balanced_row s (Deliver number) b op = balanced_none (brought_row s b) op (waits_over s.executions op) (none_brought s b) (brought_waits s b op)
balanced_row s Crash b op = omega arith
balanced_row s Restart b op = omega arith

pub step_waits : (s : NodeState) (input : Input) (b : Option Brought) (op : OpId)
    → answers_in (node_step s input b).outs op + waits_over (node_step s input b).node.executions op ≤ waits_over s.executions op + one_if (requests input op)
step_waits s input b op =
    let row : Stepped = input_row s input b in
    let most : ℕ = waits_over s.executions op + one_if (requests input op) in
    balanced_decide (act row) op most (balanced_act row (viewed row.node.log) op most (balanced_row s input b op))
