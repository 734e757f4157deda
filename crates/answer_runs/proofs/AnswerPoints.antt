-- What "done" names: a point that the operation took. What is pending at an execution took its timestamp on the
-- execution's branch, and an answer names the branch of the execution and the timestamp at which it was pending.
use Rattle.std.proofs.Common.{◌≡◌, ℕ, ◌+◌, ◌==◌, List, [], ◌∷◌, ◌++◌, map, Option, Some, None, refl, sym, subst, inl, nat_lt}
use Rattle.std.proofs.lemmas.Bool.{cond_both, eqb-true}
use Rattle.std.specs.List.{AllByRecursion}
use Rattle.path_runs.specs.runs.region_map.declared.id.Id.{Id}
use Rattle.path_runs.specs.runs.region_map.declared.id.NodeId.{NodeId}
use Rattle.path_runs.specs.runs.region_map.Maps.{Pieced}
use Rattle.path_runs.specs.runs.branch_history.declared.version.Version.{Version}
use Rattle.path_runs.specs.runs.register_laws.declared.operation.OpId.{OpId}
use Rattle.path_runs.specs.runs.register_laws.declared.operation.Op.{Op}
use Rattle.path_runs.specs.runs.register_laws.declared.operation.Reply.{Reply}
use Rattle.path_runs.specs.runs.register_laws.Register.{reply_of}
use Rattle.path_runs.specs.runs.register_laws.Lists.{same_op}
use Rattle.path_runs.specs.runs.contract_types.Setup.{SetupState, IsSetup}
use Rattle.path_runs.specs.runs.contract_types.Tables.{Table}
use Rattle.path_runs.specs.runs.contract_types.declared.contract.Contract.{Contract}
use Rattle.path_runs.specs.runs.coordinator.Acks.{with_ack}
use Rattle.path_runs.specs.runs.coordinator.Proposals.{proposals_of, after_proposals}
use Rattle.path_runs.specs.runs.contract_types.declared.results.Viewed.{Viewed as Results}
use Rattle.path_runs.specs.runs.table_log.Logs.{table_of, caught_up, viewed}
use Rattle.path_runs.specs.runs.exec_types.declared.input.Input.{Input}
use Rattle.path_runs.specs.runs.exec_types.declared.input.Input.TheVariants.{Request, GiveUp, See, Tick, Deliver, Crash, Restart}
use Rattle.path_runs.specs.runs.exec_types.declared.message.Message.{Message as Sent}
use Rattle.path_runs.specs.runs.exec_types.declared.message.Message.TheVariants as message
use Rattle.path_runs.specs.runs.exec_types.declared.message.Got.{Got}
use Rattle.path_runs.specs.runs.exec_types.declared.outcome.Outcome.{Outcome}
use Rattle.path_runs.specs.runs.exec_types.declared.outcome.Outcome.TheVariants.{Done, NotServing, NoMajority}
use Rattle.path_runs.specs.runs.exec_types.declared.output.Output.{Output}
use Rattle.path_runs.specs.runs.exec_types.declared.output.Output.TheVariants.{Viewed, Answer}
use Rattle.path_runs.specs.runs.store_api.Rows.{Rows, value_of}
use Rattle.path_runs.specs.runs.write_dispatch.declared.decided.Decided.{Decided}
use Rattle.path_runs.specs.runs.write_dispatch.Dispatch.{DispatchState, Acks, is_decided, pending_of, without_op, counts_of}
use Rattle.path_runs.specs.runs.primary_exec.declared.asking.Asking.{Asking}
use Rattle.path_runs.specs.runs.primary_exec.Execution.{Execution, PrimaryStep, started, dispatch_row, is_live, with_stands, with_acked, got_row, answers, decides, decided, decided_answers, decide_outs, given_up, without_given_up, give_up_row, give_up_outs}
use Rattle.path_runs.specs.runs.node_core.declared.node.Brought.{Brought}
use Rattle.path_runs.specs.runs.node_core.declared.journal.Entry.{Entry}
use Rattle.path_runs.specs.runs.node_core.Parts.{Requested, is_for, dispatched, passed_on, request_all, give_up_all_outs, decide_all_outs}
use Rattle.path_runs.specs.runs.node_core.Starting.{Starting, place_of, placed, due, start_one, start_each}
use Rattle.path_runs.specs.runs.node_core.Step.{NodeState, Stepped, silent, leads, coordinates, propose_all, executions_from, tick_row, message_row, is_well_formed, brought_row, input_row, act_on, act, decide_step, node_step}
use Rattle.path_runs.specs.runs.Run.{brought, state, IsRun}
use Rattle.path_runs.specs.runs.Story.{Point, IsIn, answer, answer_in, or_else, points, points_in, points_of}
use Rattle.path_runs.specs.runs.DonePoints.{Took}
use Rattle.path_runs.proofs.step_runs.Told.{IsIn-left, IsIn-right}
use Rattle.path_runs.proofs.step_runs.Facts.{same_op-true}
use Rattle.path_runs.proofs.step_runs.Outs.{answer_in-append, undecided_keeps, without_op_keeps, all_push}
use Rattle.path_runs.proofs.step_runs.EndPoints.{end_points_of}
use Rattle.path_runs.proofs.step_runs.Setups.{nothing_begun}
use Rattle.path_runs.proofs.key_runs.Requesting.{point_at, dispatch_points}
use Rattle.path_runs.proofs.key_runs.KeyedRequests.{none_dispatch}
use Rattle.path_runs.proofs.key_runs.KeyedOuts.{AnswersNone, none_brought, none_tick}

-- ---- what is pending has its point

abbrev TookAny : List Point → Id → ℕ → Option OpId → Type 0
TookAny ps branch at None = Unit {0}
TookAny ps branch at (Some op) = Took ps op branch at

record WaitsAt (ps : List Point) (branch : Id) (d : Decided) : Type 0 where
  took : TookAny ps branch d.at d.op

record Waits (ps : List Point) (x : Execution) : Type 0 where
  waiting : AllByRecursion (WaitsAt ps x.branch) x.dispatch.waiting

abbrev AllWait : List Point → List Execution → Type 0
AllWait ps xs = AllByRecursion (Waits ps) xs

took_more : (ps more : List Point) (branch : Id) (at : ℕ) (op : Option OpId) → TookAny ps branch at op → TookAny (ps ++ more) branch at op
took_more ps more branch at None h = tt
took_more ps more branch at (Some op) h = (h.0, IsIn-left ps more h.0 h.1, h.2, h.3, h.4)

waits_more : (ps more : List Point) (branch : Id) (ds : List Decided) → AllByRecursion (WaitsAt ps branch) ds → AllByRecursion (WaitsAt (ps ++ more) branch) ds
waits_more ps more branch [] h = tt
waits_more ps more branch (d ∷ ds) h = (record { took = took_more ps more branch d.at d.op h.0.took }, waits_more ps more branch ds h.1)

all_more : (ps more : List Point) (xs : List Execution) → AllWait ps xs → AllWait (ps ++ more) xs
all_more ps more [] h = tt
all_more ps more (x ∷ xs) h = (record { waiting = waits_more ps more x.branch x.dispatch.waiting h.0.waiting }, all_more ps more xs h.1)

-- ---- what an answer names

abbrev Names : List Point → OpId → Option Outcome → Type 0
Names ps op None = Unit {0}
Names ps op (Some (Done reply branch timestamp)) = Took ps op branch timestamp
Names ps op (Some NotServing) = Unit {0}
Names ps op (Some (NoMajority counts)) = Unit {0}

names_or_else : (ps : List Point) (op : OpId) (a b : Option Outcome) → Names ps op a → Names ps op b → Names ps op (or_else a b)
names_or_else ps op None b h k = k
names_or_else ps op (Some outcome) b h k = h

names_append : (ps : List Point) (op : OpId) (a b : List Output) → Names ps op (answer_in a op) → Names ps op (answer_in b op) → Names ps op (answer_in (a ++ b) op)
names_append ps op a b h k = subst (λ (v : Option Outcome). Names ps op v) (sym (answer_in-append a b op)) (names_or_else ps op (answer_in a op) (answer_in b op) h k)

names_none : (ps : List Point) (outs : List Output) (op : OpId) → AnswersNone outs → Names ps op (answer_in outs op)
names_none ps outs op none = subst (λ (v : Option Outcome). Names ps op v) (sym (none op)) tt

names_more : (ps more : List Point) (op : OpId) (a : Option Outcome) → Names ps op a → Names (ps ++ more) op a
names_more ps more op None h = tt
names_more ps more op (Some (Done reply branch timestamp)) h = took_more ps more branch timestamp (Some op) h
names_more ps more op (Some NotServing) h = tt
names_more ps more op (Some (NoMajority counts)) h = tt

-- ---- what is decided is answered with its point

names_one : (ps : List Point) (branch : Id) (d : Decided) (q : Option OpId) (rest : List Output) (op : OpId) → TookAny ps branch d.at q → Names ps op (answer_in rest op)
    → Names ps op (answer_in (answers branch d q ++ rest) op)
names_one ps branch d None rest op w h = h
names_one ps branch d (Some q) rest op w h =
    cond_both (same_op q op) (Some (Done d.reply branch d.at)) (answer_in rest op) (λ (v : Option Outcome). Names ps op v)
    (λ same. subst (λ (v : OpId). Took ps v branch d.at) (same_op-true q op same) w) (λ _. h)

names_decided : (ps : List Point) (x : Execution) (ds : List Decided) (op : OpId) → AllByRecursion (WaitsAt ps x.branch) ds → Names ps op (answer_in (decided_answers x ds) op)
names_decided ps x [] op h = tt
names_decided ps x (d ∷ ds) op h =
    cond_both (decides x d) (answers x.branch d d.op ++ decided_answers x ds) [] (λ (l : List Output). Names ps op (answer_in l op))
    (λ _. names_one ps x.branch d d.op (decided_answers x ds) op h.0.took (names_decided ps x ds op h.1)) (λ _. tt)

names_all_decided : (ps : List Point) (xs : List Execution) (op : OpId) → AllWait ps xs → Names ps op (answer_in (decide_all_outs xs) op)
names_all_decided ps [] op h = tt
names_all_decided ps (x ∷ xs) op h =
    names_append ps op (decide_outs x) (decide_all_outs xs) (names_decided ps x x.dispatch.waiting op h.0.waiting) (names_all_decided ps xs op h.1)

all_map : (ps : List Point) (f : Execution → Execution) → ((x : Execution) → Waits ps x → Waits ps (f x)) → (xs : List Execution) → AllWait ps xs → AllWait ps (map f xs)
all_map ps f each [] h = tt
all_map ps f each (x ∷ xs) h = (each x h.0, all_map ps f each xs h.1)

decided_waits : (ps : List Point) (x : Execution) → Waits ps x → Waits ps (decided x)
decided_waits ps x h = record { waiting = undecided_keeps (WaitsAt ps x.branch) x x.dispatch.waiting h.waiting }

-- ---- giving up

given_up_waiting : (P : Decided → Type 0) (p : DispatchState) (c : Contract) (me : ℕ) (op : OpId) (d : Option Decided) → AllByRecursion P p.waiting → AllByRecursion P (without_given_up p c me op d).waiting
given_up_waiting P p c me op None h = h
given_up_waiting P p c me op (Some d) h =
    cond_both (is_decided p.acks c me d.at) p (record p { waiting = without_op p.waiting op }) (λ (y : DispatchState). AllByRecursion P y.waiting) (λ _. h) (λ _. without_op_keeps P op p.waiting h)

give_up_waits : (ps : List Point) (op : OpId) (x : Execution) → Waits ps x → Waits ps (give_up_row x op)
give_up_waits ps op x h =
    record { waiting = given_up_waiting (WaitsAt ps x.branch) x.dispatch x.contract x.me.0 op (pending_of x.dispatch.waiting op) h.waiting }

names_no_majority : (ps : List Point) (q op : OpId) (acks : Acks) (c : Contract) (me at : ℕ) → Names ps op (answer_in (Answer q (NoMajority (counts_of acks c me at)) ∷ []) op)
names_no_majority ps q op acks c me at = cond_both (same_op q op) (Some (NoMajority (counts_of acks c me at))) None (λ (v : Option Outcome). Names ps op v) (λ _. tt) (λ _. tt)

names_given_up : (ps : List Point) (acks : Acks) (c : Contract) (me : ℕ) (q op : OpId) (d : Option Decided) → Names ps op (answer_in (given_up acks c me q d) op)
names_given_up ps acks c me q op None = tt
names_given_up ps acks c me q op (Some d) =
    cond_both (is_decided acks c me d.at) [] (Answer q (NoMajority (counts_of acks c me d.at)) ∷ []) (λ (l : List Output). Names ps op (answer_in l op))
    (λ _. tt) (λ _. names_no_majority ps q op acks c me d.at)

names_all_given_up : (ps : List Point) (xs : List Execution) (q op : OpId) → Names ps op (answer_in (give_up_all_outs xs q) op)
names_all_given_up ps [] q op = tt
names_all_given_up ps (x ∷ xs) q op =
    names_append ps op (give_up_outs x q) (give_up_all_outs xs q) (names_given_up ps x.dispatch.acks x.contract x.me.0 q op (pending_of x.dispatch.waiting q)) (names_all_given_up ps xs q op)

-- ---- requests

-- what a request takes is among some points
abbrev Takes : List Point → Op → List Output → Type 0
Takes ps what outs = (p : Point) → IsIn (points_in what outs) p → IsIn ps p

dispatch_waits : (ps : List Point) (x : Execution) (rows : Rows) (versions : Pieced Version) (op : OpId) (key : List ℕ) (what : Op) → Waits ps x
    → Takes ps what (dispatch_row x rows versions op key what).outs → Waits ps (dispatch_row x rows versions op key what).execution
dispatch_waits ps x rows versions op key what h takes =
    let p : Point = point_at op key what x.branch (x.last + 1) in
    let new : IsIn ps p = takes p (subst (λ (l : List Point). IsIn l p) (sym (dispatch_points x rows versions op key what)) (inl refl)) in
    record {
      waiting =
          all_push (WaitsAt ps x.branch) x.dispatch.waiting (record { op = Some op; at = x.last + 1; reply = reply_of (value_of rows key) what }) h.waiting
          (record { took = (p, new, refl, refl, refl) });
    }

request_waits : (ps : List Point) (hashes : ℕ) (xs : List Execution) (rows : Rows) (versions : Pieced Version) (op : OpId) (key : List ℕ) (what : Op) → AllWait ps xs
    → Takes ps what (request_all hashes xs rows versions op key what).outs → AllWait ps (request_all hashes xs rows versions op key what).executions
request_waits ps hashes [] rows versions op key what h takes = tt
request_waits ps hashes (x ∷ xs) rows versions op key what h takes =
    let step : PrimaryStep = dispatch_row x rows versions op key what in
    let later : Requested = request_all hashes xs rows versions op key what in
    cond_both (is_for hashes key x) (dispatched step xs) (passed_on x later) (λ (r : Requested). Takes ps what r.outs → AllWait ps r.executions)
    (λ _ t. (dispatch_waits ps x rows versions op key what h.0 t, h.1))
    (λ _ t. (h.0, request_waits ps hashes xs rows versions op key what h.1 t)) takes

names_request : (ps : List Point) (hashes : ℕ) (xs : List Execution) (rows : Rows) (versions : Pieced Version) (op : OpId) (key : List ℕ) (what : Op) (q : OpId)
    → Names ps q (answer_in (request_all hashes xs rows versions op key what).outs q)
names_request ps hashes [] rows versions op key what q = cond_both (same_op op q) (Some NotServing) None (λ (v : Option Outcome). Names ps q v) (λ _. tt) (λ _. tt)
names_request ps hashes (x ∷ xs) rows versions op key what q =
    let step : PrimaryStep = dispatch_row x rows versions op key what in
    let later : Requested = request_all hashes xs rows versions op key what in
    cond_both (is_for hashes key x) (dispatched step xs) (passed_on x later) (λ (r : Requested). Names ps q (answer_in r.outs q))
    (λ _. names_none ps step.outs q (none_dispatch x rows versions op key what)) (λ _. names_request ps hashes xs rows versions op key what q)

-- ---- messages, ticks and starts leave what waits

with_stands-waiting : (d : DispatchState) (from : NodeId) (got : Got) (stands : Option ℕ) → (with_stands d from got stands).waiting ≡ d.waiting
with_stands-waiting d from got None = refl
with_stands-waiting d from got (Some at) = refl

got_waits : (ps : List Point) (from : NodeId) (got : Got) (x : Execution) → Waits ps x → Waits ps (got_row x from got)
got_waits ps from got x h =
    cond_both (is_live x from got.session) (record x { sessions = map (with_acked from got.session got.upto) x.sessions; dispatch = with_stands x.dispatch from got got.stands }) x (Waits ps)
    (λ _. record { waiting = subst (AllByRecursion (WaitsAt ps x.branch)) (sym (with_stands-waiting x.dispatch from got got.stands)) h.waiting }) (λ _. h)

message_waits : (ps : List Point) (s : NodeState) (from : NodeId) (m : Sent) → AllWait ps s.executions → AllWait ps (message_row s from m).node.executions
message_waits ps s from (message.Raft m) h = h
message_waits ps s from (message.Say contract ack) h =
    cond_both (leads s.log) (record s { acks = with_ack contract from ack s.acks }) s (λ (t : NodeState). AllWait ps t.executions) (λ _. h) (λ _. h)
message_waits ps s from (message.Stream stream) h = h
message_waits ps s from (message.Got got) h = all_map ps (λ x. got_row x from got) (got_waits ps from got) s.executions h

brought_waits : (ps : List Point) (s : NodeState) (b : Option Brought) → AllWait ps s.executions → AllWait ps (brought_row s b).node.executions
brought_waits ps s None h = h
brought_waits ps s (Some b) h =
    cond_both (is_well_formed s b) (message_row s b.from b.message) (silent s) (λ (step : Stepped). AllWait ps step.node.executions)
    (λ _. message_waits ps s b.from b.message h) (λ _. h)

tick_waits : (ps : List Point) (s : NodeState) → AllWait ps s.executions → AllWait ps (tick_row s).node.executions
tick_waits ps s h =
    cond_both (coordinates s.log)
    (record s { log = propose_all s.log (proposals_of s.acks (table_of s.log)); acks = after_proposals s.acks (table_of s.log) }) s
    (λ (t : NodeState). AllWait ps t.executions) (λ _. h) (λ _. h)

placed_waits : (ps : List Point) (cs : List Contract) (x : Execution) (ys : List Execution) → Waits ps x → AllWait ps ys → AllWait ps (placed cs x ys)
placed_waits ps cs x [] h hs = (h, tt)
placed_waits ps cs x (y ∷ ys) h hs =
    cond_both (nat_lt (place_of cs x.contract.id) (place_of cs y.contract.id)) (x ∷ y ∷ ys) (y ∷ placed cs x ys) (AllWait ps)
    (λ _. (h, hs)) (λ _. (hs.0, placed_waits ps cs x ys h hs.1))

-- a first sync is of no operation
start_waits : (ps : List Point) (me : NodeId) (cs : List Contract) (a : Asking) (initial : Option ℕ) (s : Starting) → AllWait ps s.executions → AllWait ps (start_one me cs a initial s).executions
start_waits ps me cs a None s h = h
start_waits ps me cs a (Some initial) s h = placed_waits ps cs (started a me initial) s.executions (record { waiting = (record { took = tt }, tt) }) h

starts_wait : (ps : List Point) (me : NodeId) (t : Table) (rest : List Asking) (s : Starting) → AllWait ps s.executions → AllWait ps (start_each me t rest s).executions
starts_wait ps me t [] s h = h
starts_wait ps me t (a ∷ rest) s h = starts_wait ps me t rest (start_one me t.contracts a (due t a) s) (start_waits ps me t.contracts a (due t a) s h)

-- ---- a step

record Known (ps : List Point) (step : Stepped) : Type 0 where
  waits : AllWait ps step.node.executions
  names : (op : OpId) → Names ps op (answer_in step.outs op)

known_act : (ps : List Point) (step : Stepped) (v : Option Results) → Known ps step → Known ps (act_on step v)
known_act ps step None k = k
known_act ps step (Some v) k =
    let s : NodeState = step.node in
    record {
      waits = starts_wait ps s.me (table_of (caught_up s.log)) s.asking (record { asking = []; executions = s.executions; versions = s.versions }) k.waits;
      names = λ op. names_append ps op step.outs (Viewed v.first v.results ∷ []) (k.names op) tt;
    }

known_decide : (ps : List Point) (step : Stepped) → Known ps step → Known ps (decide_step step)
known_decide ps step k =
    record {
      waits = all_map ps decided (decided_waits ps) step.node.executions k.waits;
      names = λ op. names_append ps op step.outs (decide_all_outs step.node.executions) (k.names op) (names_all_decided ps step.node.executions op k.waits);
    }

known_row : (ps : List Point) (s : NodeState) (input : Input) (b : Option Brought) → AllWait ps s.executions → ((p : Point) → IsIn (points_of input (input_row s input b).outs) p → IsIn ps p)
    → Known ps (input_row s input b)
known_row ps s (Request op key what) b h takes =
    record {
      waits = request_waits ps s.setup.hashes s.executions s.rows s.versions op key what h takes;
      names = names_request ps s.setup.hashes s.executions s.rows s.versions op key what;
    }
known_row ps s (GiveUp op) b h takes =
    record { waits = all_map ps (λ x. give_up_row x op) (give_up_waits ps op) s.executions h; names = names_all_given_up ps s.executions op }
known_row ps s (See other up) b h takes = record { waits = h; names = λ op. tt }
known_row ps s Tick b h takes = record { waits = tick_waits ps s h; names = λ op. names_none ps (tick_row s).outs op (none_tick s) }
known_row ps s (Deliver number) b h takes = record { waits = brought_waits ps s b h; names = λ op. names_none ps (brought_row s b).outs op (none_brought s b) }
known_row ps s Crash b h takes = record { waits = tt; names = λ op. tt }
known_row ps s Restart b h takes = record { waits = tt; names = λ op. tt }

known_step : (ps : List Point) (s : NodeState) (input : Input) (b : Option Brought) → AllWait ps s.executions → ((p : Point) → IsIn (points_of input (node_step s input b).outs) p → IsIn ps p)
    → Known ps (node_step s input b)
known_step ps s input b h takes =
    let row : Stepped = input_row s input b in
    known_decide ps (act row)
    (known_act ps row (viewed row.node.log)
    (known_row ps s input b h (λ p i. takes p (subst (λ (l : List Point). IsIn l p) (sym (end_points_of input row)) i))))

-- ---- runs

none_waits : (ps : List Point) (xs : List Execution) → AllByRecursion (λ (x : Execution). (x.last ≡ 0) × (x.dispatch.waiting ≡ [])) xs → AllWait ps xs
none_waits ps [] h = tt
none_waits ps (x ∷ xs) h = (record { waiting = subst (AllByRecursion (WaitsAt ps x.branch)) (sym h.0.1) tt }, none_waits ps xs h.1)

-- the step of an entry, over the points with its own
entry_known : (setup : SetupState) (past : List Entry) (e : Entry) → IsRun setup (e ∷ past) → (n : ℕ) → AllWait (points past) (state setup n past).executions
    → e.outputs ≡ (node_step (state setup n past) e.input (brought past e.input)).outs
    → Known (points (e ∷ past)) (node_step (state setup n past) e.input (brought past e.input))
entry_known setup past e run n h outs =
    known_step (points (e ∷ past)) (state setup n past) e.input (brought past e.input)
    (all_more (points past) (points_of e.input e.outputs) (state setup n past).executions h)
    (λ p i. IsIn-right (points past) (points_of e.input e.outputs) p (subst (λ (l : List Output). IsIn (points_of e.input l) p) (sym outs) i))

all_wait : (setup : SetupState) (past : List Entry) → IsRun setup past → (n : ℕ) → AllWait (points past) (state setup n past).executions
all_wait setup [] run n = none_waits [] (executions_from n 0 setup.shards) (nothing_begun n 0 setup.shards)
all_wait setup (e ∷ past) run n =
    let old = all_wait setup past run.1 n in
    let own : NodeState = (node_step (state setup n past) e.input (brought past e.input)).node in
    cond_both (e.node.0 == n) own (state setup n past) (λ (s : NodeState). AllWait (points (e ∷ past)) s.executions)
    (λ same.
    let outs : e.outputs ≡ (node_step (state setup n past) e.input (brought past e.input)).outs =
    subst (λ (m : ℕ). e.outputs ≡ (node_step (state setup m past) e.input (brought past e.input)).outs) (eqb-true e.node.0 n same) run.0.outputs in
    (entry_known setup past e run n old outs).waits)
    (λ _. all_more (points past) (points_of e.input e.outputs) (state setup n past).executions old)

all_named : (setup : SetupState) (past : List Entry) → IsRun setup past → (op : OpId) → Names (points past) op (answer past op)
all_named setup [] run op = tt
all_named setup (e ∷ past) run op =
    let now = (entry_known setup past e run e.node.0 (all_wait setup past run.1 e.node.0) run.0.outputs).names op in
    names_or_else (points (e ∷ past)) op (answer past op) (answer_in e.outputs op)
    (names_more (points past) (points_of e.input e.outputs) op (answer past op) (all_named setup past run.1 op))
    (subst (λ (l : List Output). Names (points (e ∷ past)) op (answer_in l op)) (sym run.0.outputs) now)

-- an operation that is done took the point that its answer names
pub done_took : (setup : SetupState) → IsSetup setup → (past : List Entry) → IsRun setup past → (op : OpId) (reply : Reply) (branch : Id) (timestamp : ℕ)
    → answer past op ≡ Some (Done reply branch timestamp) → Took (points past) op branch timestamp
done_took setup ok past run op reply branch timestamp is = subst (λ (v : Option Outcome). Names (points past) op v) is (all_named setup past run op)
