-- What one step of a node adds to the history, and what then holds of the node.
use Rattle.std.proofs.Common.{◌≡◌, ℕ, ◌+◌, ◌≤◌, ◌<◌, Bool, true, false, cond, List, [], ◌∷◌, ◌++◌, map, Option, Some, None, refl, sym, ap, ◌∙◌, subst, inl, inr, arith, length}
use Rattle.std.proofs.lemmas.Bool.{cond_both, or_right}
use Rattle.std.specs.List.{AllByRecursion}
use Rattle.change_runs.specs.runs.region_map.declared.id.NodeId.{NodeId}
use Rattle.change_runs.specs.runs.region_map.Keys.{hash_of}
use Rattle.change_runs.specs.runs.region_map.Regions.{in_region}
use Rattle.change_runs.specs.runs.region_map.Maps.{Pieced}
use Rattle.change_runs.specs.runs.branch_history.declared.version.Version.{Version}
use Rattle.change_runs.specs.runs.register_laws.declared.operation.OpId.{OpId}
use Rattle.change_runs.specs.runs.register_laws.declared.operation.Op.{Op}
use Rattle.change_runs.specs.runs.register_laws.Lists.{same_op}
use Rattle.change_runs.specs.runs.contract_types.Setup.{SetupState}
use Rattle.change_runs.specs.runs.contract_types.Tables.{first_contracts}
use Rattle.change_runs.specs.runs.contract_types.Tilings.{holders}
use Rattle.change_runs.specs.runs.contract_types.declared.contract.Contract.{Contract}
use Rattle.change_runs.specs.runs.contract_types.declared.results.Viewed.{Viewed as Results}
use Rattle.change_runs.specs.runs.table_log.Logs.{table_of, viewed}
use Rattle.change_runs.specs.runs.coordinator.Acks.{with_ack}
use Rattle.change_runs.specs.runs.coordinator.Proposals.{proposals_of, after_proposals}
use Rattle.change_runs.specs.runs.exec_types.Parts.{timestamp_of}
use Rattle.change_runs.specs.runs.exec_types.declared.message.Message.{Message as Sent}
use Rattle.change_runs.specs.runs.exec_types.declared.message.Message.TheVariants as message
use Rattle.change_runs.specs.runs.exec_types.declared.message.Got.{Got}
use Rattle.change_runs.specs.runs.exec_types.declared.message.Stream.{Stream}
use Rattle.change_runs.specs.runs.exec_types.declared.input.Input.{Input}
use Rattle.change_runs.specs.runs.exec_types.declared.input.Input.TheVariants.{Request, GiveUp, See, Tick, Deliver, Crash, Restart}
use Rattle.change_runs.specs.runs.exec_types.declared.outcome.Outcome.{Outcome}
use Rattle.change_runs.specs.runs.exec_types.declared.outcome.Outcome.TheVariants.{NotServing, NoMajority}
use Rattle.change_runs.specs.runs.exec_types.declared.output.Output.{Output}
use Rattle.change_runs.specs.runs.exec_types.declared.output.Output.TheVariants.{Viewed, Answer}
use Rattle.change_runs.specs.runs.store_api.Rows.{Rows}
use Rattle.change_runs.specs.runs.write_dispatch.declared.decided.Decided.{Decided}
use Rattle.change_runs.specs.runs.write_dispatch.Dispatch.{DispatchState, Acks, is_decided, pending_of, without_op, counts_of}
use Rattle.change_runs.specs.runs.primary_exec.Execution.{Execution, is_live, with_stands, with_acked, got_row, decided, decide_outs, given_up, give_up_outs, without_given_up, give_up_row, dispatch_row}
use Rattle.change_runs.specs.runs.secondary_exec.declared.following.Following.{Following}
use Rattle.change_runs.specs.runs.secondary_exec.Stream.{FollowingStep, stream_row, is_ours}
use Rattle.change_runs.specs.runs.node_core.declared.node.Brought.{Brought}
use Rattle.change_runs.specs.runs.node_core.declared.journal.Entry.{Entry}
use Rattle.change_runs.specs.runs.node_core.Parts.{Streamed, is_for, taken, left_alone, stream_all, give_up_all_outs, decide_all_outs}
use Rattle.change_runs.specs.runs.node_core.Step.{NodeState, Stepped, silent, with_requested, request_row, give_up, leads, coordinates, propose_all, with_proposals, tick_row, crash_row, restart_row, askings_from, waitings_from, message_row, is_well_formed, brought_row, input_row, act_on, act, decide_step, end_step, node_step}
use Rattle.change_runs.specs.runs.Run.{requests, is_requested, is_fresh}
use Rattle.change_runs.specs.runs.Story.{Point, IsIn, answer_in, points_in, points_of}
use Rattle.change_runs.proofs.step_runs.Told.{point_times}
use Rattle.change_runs.proofs.step_runs.Facts.{same_op-true}
use Rattle.change_runs.proofs.step_runs.EndPoints.{end_points}
use Rattle.change_runs.proofs.step_runs.Outs.{undecided_keeps, without_op_keeps, stream_cases}
use Rattle.change_runs.proofs.step_runs.Setups.{exec_region, following_region}
use Rattle.change_runs.proofs.step_runs.Nodes.{StoreStays, holders-rest}
use Rattle.key_runs.proofs.Requesting.{point_at, dispatch_points, region_stays, stays_weaker, stays_same}
use Rattle.key_runs.proofs.KeyedFacts.{WaitsKeyed, Adds}
use Rattle.key_runs.proofs.KeyedRoles.{asking_region, waiting_region, led, followed, askings_led, waitings_followed}
use Rattle.key_runs.proofs.KeyedOuts.{Answered, Answered-append, Answered-decided, KnownPending, pending_requested, AnswersNone, none_brought, none_tick}
use Rattle.key_runs.proofs.KeyedNodes.{IsFilled, Runs, AllRun, KeyedNode, LeadsPoints, holding, all_map, regions_map, all_stand, still}
use Rattle.key_runs.proofs.KeyedRequests.{among, request_cases, request_entry, advanced_filled, none_dispatch, leads_key, dispatch_facts}
use Rattle.key_runs.proofs.KeyedStarts.{act_facts}

-- ---- the end of a step

-- what is known of a node before the end of its step, in the history with the step's entry
record Middle (setup : SetupState) (past : List Entry) (e : Entry) (n : ℕ) (step : Stepped) : Type 0 where
  state : KeyedNode setup (e ∷ past) n (holding step.node)
  answers : (q : OpId) → Answered past e q (answer_in step.outs q)

act_middle : (setup : SetupState) (past : List Entry) (e : Entry) (n : ℕ) → ((h : ℕ) (k : List ℕ) → led n setup.shards h k ≤ 1) → (step : Stepped) (v : Option Results)
    → Middle setup past e n step → Middle setup past e n (act_on step v)
act_middle setup past e n one step None m = m
act_middle setup past e n one step (Some v) m =
    record {
      state = act_facts setup (e ∷ past) n one step (Some v) m.state;
      answers = λ q. Answered-append past e q step.outs (Viewed v.first v.results ∷ []) (m.answers q) tt;
    }

decided_runs : (hashes : ℕ) (past : List Entry) (versions : Pieced Version) (x : Execution) → Runs hashes past versions x → Runs hashes past versions (decided x)
decided_runs hashes past versions x r = record { stands = r.stands; waiting = undecided_keeps (WaitsKeyed past) x x.dispatch.waiting r.waiting }

Answered-decide_all : (hashes : ℕ) (past : List Entry) (e : Entry) (versions : Pieced Version) (xs : List Execution) → AllRun hashes (e ∷ past) versions xs
    → (q : OpId) → Answered past e q (answer_in (decide_all_outs xs) q)
Answered-decide_all hashes past e versions [] r q = tt
Answered-decide_all hashes past e versions (x ∷ xs) r q =
    Answered-append past e q (decide_outs x) (decide_all_outs xs) (Answered-decided past e x x.dispatch.waiting q r.0.waiting) (Answered-decide_all hashes past e versions xs r.1 q)

decide_middle : (setup : SetupState) (past : List Entry) (e : Entry) (n : ℕ) (step : Stepped) → Middle setup past e n step → Middle setup past e n (decide_step step)
decide_middle setup past e n step m =
    let f = m.state in
    let s : NodeState = step.node in
    record {
      state =
          record {
            begun = f.begun;
            me_is = f.me_is;
            filled = f.filled;
            leads = λ h k. let a = f.leads h k in let b = regions_map decided (λ x. refl) s.executions h k in omega (arith, a, b);
            follows = f.follows;
            store = f.store;
            runs = all_map (Runs setup.hashes (e ∷ past) s.versions) (Runs setup.hashes (e ∷ past) s.versions) decided (decided_runs setup.hashes (e ∷ past) s.versions) s.executions f.runs;
          };
      answers = λ q.
          Answered-append past e q step.outs (decide_all_outs s.executions) (m.answers q) (Answered-decide_all setup.hashes past e s.versions s.executions f.runs q);
    }

end_middle : (setup : SetupState) (past : List Entry) (e : Entry) (n : ℕ) → ((h : ℕ) (k : List ℕ) → led n setup.shards h k ≤ 1) → (step : Stepped) → Middle setup past e n step
    → Middle setup past e n (end_step step)
end_middle setup past e n one step m = decide_middle setup past e n (act step) (act_middle setup past e n one step (viewed step.node.log) m)

-- ---- a step

pub record StepFacts (setup : SetupState) (past : List Entry) (n : ℕ) (s : NodeState) (e : Entry) : Type 0 where
  pub adds : Adds past e
  pub own : KeyedNode setup (e ∷ past) n (holding s)
  pub points_led : LeadsPoints setup n (points_of e.input e.outputs)

abbrev step_entry : NodeId → Input → Stepped → Entry
step_entry node input step = record { node = node; input = input; outputs = (end_step step).outs }

-- a step without a point
still_step : (setup : SetupState) (past : List Entry) (node : NodeId) (input : Input) (n : ℕ) → ((h : ℕ) (k : List ℕ) → led n setup.shards h k ≤ 1) → (step : Stepped)
    → is_fresh past input ≡ true → points_of input (end_step step).outs ≡ [] → KeyedNode setup past n (holding step.node)
    → ((q : OpId) → Answered past (step_entry node input step) q (answer_in step.outs q)) → StepFacts setup past n (end_step step).node (step_entry node input step)
still_step setup past node input n one step fresh none f known =
    let e : Entry = step_entry node input step in
    let m = end_middle setup past e n one step (record { state = still past e setup n (holding step.node) none f; answers = known }) in
    record {
      adds =
          record {
            fresh = fresh;
            new = λ p i. absurd (subst (λ (l : List Point). IsIn l p) none i);
            few = λ op. subst (λ (l : List Point). point_times l op ≤ 1) (sym none) (omega arith);
            says = λ op outcome is. record { says = subst (λ (v : Option Outcome). Answered past e op v) is (m.answers op) };
          };
      own = m.state;
      points_led = λ p i. absurd (subst (λ (l : List Point). IsIn l p) none i);
    }

-- one that answers nothing before its end
silent_step : (setup : SetupState) (past : List Entry) (node : NodeId) (input : Input) (n : ℕ) → ((h : ℕ) (k : List ℕ) → led n setup.shards h k ≤ 1) → (step : Stepped)
    → is_fresh past input ≡ true → points_of input (end_step step).outs ≡ [] → KeyedNode setup past n (holding step.node) → AnswersNone step.outs
    → StepFacts setup past n (end_step step).node (step_entry node input step)
silent_step setup past node input n one step fresh none f quiet =
    still_step setup past node input n one step fresh none f (λ q. subst (λ (v : Option Outcome). Answered past (step_entry node input step) q v) (sym (quiet q)) tt)

-- ---- requests

module _ (setup : SetupState) (past : List Entry) (node : NodeId) (n : ℕ) (s : NodeState) (op : OpId) (key : List ℕ) (what : Op) (one : (h : ℕ) (k : List ℕ) → led n setup.shards h k ≤ 1)
    (some : 0 < setup.hashes) (fresh : is_fresh past (Request op key what) ≡ true) (f : KeyedNode setup past n (holding s)) where
  abbrev RequestFacts : Stepped → Type 0
  RequestFacts step = StepFacts setup past n (end_step step).node (step_entry node (Request op key what) step)

  -- the node does not serve the key
  refused_step : RequestFacts (with_requested s (record { executions = s.executions; rows = s.rows; versions = s.versions; outs = Answer op NotServing ∷ [] }))
  refused_step =
      let step : Stepped = with_requested s (record { executions = s.executions; rows = s.rows; versions = s.versions; outs = Answer op NotServing ∷ [] }) in
      let e : Entry = step_entry node (Request op key what) step in
      let none : points_in what (end_step step).outs ≡ [] = end_points what step in
      still_step setup past node (Request op key what) n one step fresh none f
      (λ q. cond_both (same_op op q) (Some NotServing) None (λ (v : Option Outcome). Answered past e q v) (λ same. (same, none)) (λ _. tt))

  -- one of its executions dispatches the operation
  dispatched_step : (before : List Execution) (x : Execution) (later : List Execution) → s.executions ≡ before ++ x ∷ later → is_for setup.hashes key x ≡ true
      → RequestFacts (with_requested s (among before (dispatch_row x s.rows s.versions op key what) later))
  dispatched_step before x later split has =
      let step : Stepped = with_requested s (among before (dispatch_row x s.rows s.versions op key what) later) in
      let outs : List Output = (end_step step).outs in
      let e : Entry = request_entry node op key what outs in
      let new : Point = point_at op key what x.branch (x.last + 1) in
      let pts : points_in what outs ≡ new ∷ [] = end_points what step ∙ dispatch_points x s.rows s.versions op key what in
      let m = end_middle setup past e n one step
      (record {
        state = dispatch_facts setup past node op key what outs n (holding s) f some one before x later split has pts;
        answers = λ q. subst (λ (v : Option Outcome). Answered past e q v) (sym (none_dispatch x s.rows s.versions op key what q)) tt;
      }) in
      record {
        adds =
            record {
              fresh = fresh;
              new = λ q i. elim (subst (λ (l : List Point). IsIn l q) pts i) [
                | inl is ↦ (ap (λ (v : Point). v.op) is, ap (λ (v : Point). v.key) is, ap (λ (v : Point). v.what) is)
                | inr h ↦ absurd h
              ];
              few = λ q. subst (λ (l : List Point). point_times l q ≤ 1) (sym pts) (at_most_one (same_op op q));
              says = λ q outcome is. record { says = subst (λ (v : Option Outcome). Answered past e q v) is (m.answers q) };
            };
        own = m.state;
        points_led = λ q i. elim (subst (λ (l : List Point). IsIn l q) pts i) [
          | inl is ↦
              subst (λ (v : Point). 1 ≤ led n setup.shards (hash_of v.key setup.hashes) v.key) is
              (leads_key setup past node op key what outs n (holding s) f some one before x later split has pts)
          | inr h ↦ absurd h
        ];
      }
    where
      at_most_one : (c : Bool) → cond c 1 0 + 0 ≤ 1
      at_most_one true = omega arith
      at_most_one false = omega arith

  request_step : RequestFacts (request_row s op key what)
  request_step =
      elim (request_cases s.setup.hashes s.executions s.rows s.versions op key what) [
        | inl r ↦ subst RequestFacts (sym (ap (with_requested s) r.result)) refused_step
        | inr d ↦
            let has : is_for setup.hashes key d.own ≡ true = ap (λ (v : SetupState). is_for v.hashes key d.own) (sym f.begun) ∙ d.has in
            subst RequestFacts (sym (ap (with_requested s) d.result)) (dispatched_step d.before d.own d.later d.split has)
      ]

-- ---- giving up

-- giving up takes out one pending operation at most
given_up_waiting : (P : Decided → Type 0) (p : DispatchState) (c : Contract) (me : ℕ) (op : OpId) (d : Option Decided) → AllByRecursion P p.waiting → AllByRecursion P (without_given_up p c me op d).waiting
given_up_waiting P p c me op None h = h
given_up_waiting P p c me op (Some d) h =
    cond_both (is_decided p.acks c me d.at) p (record p { waiting = without_op p.waiting op }) (λ (y : DispatchState). AllByRecursion P y.waiting) (λ _. h) (λ _. without_op_keeps P op p.waiting h)

given_up_runs : (hashes : ℕ) (past : List Entry) (versions : Pieced Version) (op : OpId) (x : Execution) → Runs hashes past versions x → Runs hashes past versions (give_up_row x op)
given_up_runs hashes past versions op x r =
    record { stands = r.stands; waiting = given_up_waiting (WaitsKeyed past) x.dispatch x.contract x.me.0 op (pending_of x.dispatch.waiting op) r.waiting }

given_up_answered : (past : List Entry) (e : Entry) (acks : Acks) (c : Contract) (me : ℕ) (op : OpId) (d : Option Decided) → KnownPending past op d → (q : OpId) → Answered past e q (answer_in (given_up acks c me op d) q)
given_up_answered past e acks c me op None h q = tt
given_up_answered past e acks c me op (Some d) h q =
    cond_both (is_decided acks c me d.at) [] (Answer op (NoMajority (counts_of acks c me d.at)) ∷ []) (λ (l : List Output). Answered past e q (answer_in l q)) (λ _. tt)
    (λ _. cond_both (same_op op q) (Some (NoMajority (counts_of acks c me d.at))) None (λ (v : Option Outcome). Answered past e q v)
    (λ same. or_right (requests e.input q) (is_requested past q) (ap (is_requested past) (sym (same_op-true op q same)) ∙ h)) (λ _. tt))

given_up_all_answered : (hashes : ℕ) (past : List Entry) (e : Entry) (versions : Pieced Version) (op : OpId) (xs : List Execution) → AllRun hashes past versions xs
    → (q : OpId) → Answered past e q (answer_in (give_up_all_outs xs op) q)
given_up_all_answered hashes past e versions op [] r q = tt
given_up_all_answered hashes past e versions op (x ∷ xs) r q =
    Answered-append past e q (give_up_outs x op) (give_up_all_outs xs op)
    (given_up_answered past e x.dispatch.acks x.contract x.me.0 op (pending_of x.dispatch.waiting op) (pending_requested past op x.dispatch.waiting r.0.waiting) q)
    (given_up_all_answered hashes past e versions op xs r.1 q)

-- executions that change neither contract, branch nor timestamp
changed_facts : (setup : SetupState) (past : List Entry) (n : ℕ) (s : NodeState) (change : Execution → Execution) → ((x : Execution) → exec_region (change x) ≡ exec_region x)
    → ((x : Execution) → Runs setup.hashes past s.versions x → Runs setup.hashes past s.versions (change x)) → KeyedNode setup past n (holding s)
    → KeyedNode setup past n (holding (record s { executions = map change s.executions }))
changed_facts setup past n s change same runs f =
    record {
      begun = f.begun;
      me_is = f.me_is;
      filled = f.filled;
      leads = λ h k. let a = f.leads h k in let b = regions_map change same s.executions h k in omega (arith, a, b);
      follows = f.follows;
      store = f.store;
      runs = all_map (Runs setup.hashes past s.versions) (Runs setup.hashes past s.versions) change runs s.executions f.runs;
    }

-- ---- messages

with_stands-waiting : (d : DispatchState) (from : NodeId) (got : Got) (stands : Option ℕ) → (with_stands d from got stands).waiting ≡ d.waiting
with_stands-waiting d from got None = refl
with_stands-waiting d from got (Some at) = refl

got_cases : (P : Execution → Type 0) (x : Execution) (from : NodeId) (got : Got) → P (record x { sessions = map (with_acked from got.session got.upto) x.sessions; dispatch = with_stands x.dispatch from got got.stands }) → P x
    → P (got_row x from got)
got_cases P x from got taken' quiet' =
    cond_both (is_live x from got.session) (record x { sessions = map (with_acked from got.session got.upto) x.sessions; dispatch = with_stands x.dispatch from got got.stands }) x P (λ _. taken') (λ _. quiet')

got_runs : (hashes : ℕ) (past : List Entry) (versions : Pieced Version) (from : NodeId) (got : Got) (x : Execution) → Runs hashes past versions x → Runs hashes past versions (got_row x from got)
got_runs hashes past versions from got x r =
    got_cases (Runs hashes past versions) x from got
    (record { stands = r.stands; waiting = subst (AllByRecursion (WaitsKeyed past)) (sym (with_stands-waiting x.dispatch from got got.stands)) r.waiting }) r

-- a part leaves the pairs of no following as they were, and every region
record Streams (hashes : ℕ) (fs : List Following) (rows : Rows) (versions : Pieced Version) (r : Streamed) : Type 0 where
  stays : StoreStays hashes (holders following_region fs) rows r.rows versions r.versions
  filled : IsFilled hashes r.versions
  regions : (h : ℕ) (k : List ℕ) → holders following_region r.followings h k ≡ holders following_region fs h k

stream_facts : (hashes : ℕ) (fs : List Following) (rows : Rows) (versions : Pieced Version) (from : NodeId) (stream : Stream) (view : ℕ) → IsFilled hashes versions
    → Streams hashes fs rows versions (stream_all fs rows versions from stream view)
stream_facts hashes [] rows versions from stream view f =
    record { stays = stays_same hashes (holders following_region []) rows versions; filled = f; regions = λ h k. refl }
stream_facts hashes (x ∷ fs) rows versions from stream view f =
    let count : ℕ → List ℕ → ℕ = holders following_region (x ∷ fs) in
    let first : FollowingStep = stream_row x rows versions from stream view in
    let rest : Streamed = stream_all fs rows versions from stream view in
    let r = stream_facts hashes fs rows versions from stream view f in
    let same : Streams hashes (x ∷ fs) rows versions (taken (record { following = x; rows = rows; versions = versions; outs = [] }) fs) =
    record { stays = stays_same hashes count rows versions; filled = f; regions = λ h k. refl } in
    cond_both (is_ours x from stream) (taken first fs) (left_alone x rest) (Streams hashes (x ∷ fs) rows versions)
    (λ _. stream_cases (λ step. Streams hashes (x ∷ fs) rows versions (taken step fs)) x rows versions from stream view
    (record { stays = same.stays; filled = f; regions = same.regions })
    (record { stays = same.stays; filled = f; regions = same.regions })
    (record {
      stays =
          stays_weaker hashes (λ h k. cond (in_region x.region h k) 1 0) count rows _ versions _
          (λ h k none. let e = holders-rest following_region x fs h k in omega (arith, e, none))
          (region_stays hashes stream.part x.region x.branch (timestamp_of stream.part) versions rows f.hashes_are);
      filled = advanced_filled hashes x.region x.branch (timestamp_of stream.part) versions f;
      regions = λ h k. refl;
    }))
    (λ _. record {
      stays =
          stays_weaker hashes (holders following_region fs) count rows rest.rows versions rest.versions
          (λ h k none. let e = holders-rest following_region x fs h k in omega (arith, e, none)) r.stays;
      filled = r.filled;
      regions = λ h k.
          let a = holders-rest following_region x rest.followings h k in
          let b = holders-rest following_region x fs h k in
          let c = r.regions h k in
          omega (arith, a, b, c);
    })

module _ (setup : SetupState) (past : List Entry) (n : ℕ) (role : (h : ℕ) (k : List ℕ) → led n setup.shards h k + followed n setup.shards h k ≤ 1) where
  streamed_facts : (s : NodeState) (r : Streamed) → KeyedNode setup past n (holding s) → Streams setup.hashes s.followings s.rows s.versions r
      → KeyedNode setup past n (holding (record s { followings = r.followings; rows = r.rows; versions = r.versions }))
  streamed_facts s r f k =
      record {
        begun = f.begun;
        me_is = f.me_is;
        filled = k.filled;
        leads = f.leads;
        follows = λ h key. let a = f.follows h key in let b = k.regions h key in omega (arith, a, b);
        store = λ key l.
            let a = f.follows (hash_of key setup.hashes) key in
            let b = role (hash_of key setup.hashes) key in
            k.stays.rows_stay key (omega (arith, a, b, l)) ∙ f.store key l;
        runs =
            all_stand setup.hashes past (holders following_region s.followings) s.versions r.versions s.executions
            (λ h key. let a = f.leads h key in let b = f.follows h key in let c = role h key in omega (arith, a, b, c)) k.stays.versions_stay f.runs;
      }

  message_facts : (s : NodeState) (from : NodeId) (m : Sent) → KeyedNode setup past n (holding s) → KeyedNode setup past n (holding (message_row s from m).node)
  message_facts s from (message.Raft m) f = f
  message_facts s from (message.Say contract ack) f =
      cond_both (leads s.log) (record s { acks = with_ack contract from ack s.acks }) s (λ (t : NodeState). KeyedNode setup past n (holding t)) (λ _. f) (λ _. f)
  message_facts s from (message.Stream stream) f =
      streamed_facts s (stream_all s.followings s.rows s.versions from stream s.log.acted) f (stream_facts setup.hashes s.followings s.rows s.versions from stream s.log.acted f.filled)
  message_facts s from (message.Got got) f =
      changed_facts setup past n s (λ x. got_row x from got) (λ x. got_cases (λ y. exec_region y ≡ exec_region x) x from got refl refl)
      (got_runs setup.hashes past s.versions from got) f

  brought_facts : (s : NodeState) (b : Option Brought) → KeyedNode setup past n (holding s) → KeyedNode setup past n (holding (brought_row s b).node)
  brought_facts s None f = f
  brought_facts s (Some b) f =
      cond_both (is_well_formed s b) (message_row s b.from b.message) (silent s) (λ (step : Stepped). KeyedNode setup past n (holding step.node))
      (λ _. message_facts s b.from b.message f) (λ _. f)

-- ---- ticks

proposals_facts : (setup : SetupState) (past : List Entry) (n : ℕ) (s : NodeState) → KeyedNode setup past n (holding s) → KeyedNode setup past n (holding (with_proposals s))
proposals_facts setup past n s f =
    cond_both (coordinates s.log)
    (record s { log = propose_all s.log (proposals_of s.acks (table_of s.log)); acks = after_proposals s.acks (table_of s.log) }) s
    (λ (t : NodeState). KeyedNode setup past n (holding t)) (λ _. f) (λ _. f)

-- ---- crashes and restarts

crash_facts : (setup : SetupState) (past : List Entry) (n : ℕ) (s : NodeState) → KeyedNode setup past n (holding s) → KeyedNode setup past n (holding (crash_row s).node)
crash_facts setup past n s f =
    record { begun = f.begun; me_is = f.me_is; filled = f.filled; leads = λ h k. omega arith; follows = λ h k. omega arith; store = f.store; runs = tt }

restart_facts : (setup : SetupState) (past : List Entry) (n : ℕ) (s : NodeState) → (table_of s.log).contracts ≡ first_contracts 0 setup.shards → KeyedNode setup past n (holding s)
    → KeyedNode setup past n (holding (restart_row s).node)
restart_facts setup past n s contracts f =
    let cs : List Contract = (table_of s.log).contracts in
    let me : s.me.0 ≡ n = ap (λ (i : NodeId). i.0) f.me_is in
    record {
      begun = f.begun;
      me_is = f.me_is;
      filled = f.filled;
      leads = λ h k.
          let a : holders asking_region (askings_from s.me (s.life + 1) 0 cs) h k ≡ led n setup.shards h k =
          ap (λ (l : List Contract). holders asking_region (askings_from s.me (s.life + 1) 0 l) h k) contracts ∙ askings_led s.me (s.life + 1) 0 0 setup.shards h k ∙ ap (λ m. led m setup.shards h k) me in
          omega (arith, a);
      follows = λ h k.
          let next : ℕ = length (askings_from s.me (s.life + 1) 0 cs) in
          let a : holders waiting_region (waitings_from s.me (s.life + 1) next cs) h k ≡ followed n setup.shards h k =
          ap (λ (l : List Contract). holders waiting_region (waitings_from s.me (s.life + 1) next l) h k) contracts ∙ waitings_followed s.me (s.life + 1) next 0 setup.shards h k ∙ ap (λ m. followed m setup.shards h k) me in
          omega (arith, a);
      store = f.store;
      runs = tt;
    }

-- ---- the whole step

pub step_facts : (setup : SetupState) (past : List Entry) (node : NodeId) (n : ℕ) (s : NodeState) (input : Input) (b : Option Brought)
    → ((h : ℕ) (k : List ℕ) → led n setup.shards h k + followed n setup.shards h k ≤ 1) → 0 < setup.hashes → is_fresh past input ≡ true
    → (table_of s.log).contracts ≡ first_contracts 0 setup.shards → KeyedNode setup past n (holding s)
    → StepFacts setup past n (node_step s input b).node (record { node = node; input = input; outputs = (node_step s input b).outs })
step_facts setup past node n s (Request op key what) b role some fresh contracts f =
    request_step setup past node n s op key what (λ h k. let a = role h k in omega (arith, a)) some fresh f
step_facts setup past node n s (GiveUp op) b role some fresh contracts f =
    still_step setup past node (GiveUp op) n (λ h k. let a = role h k in omega (arith, a)) (give_up s op) refl refl
    (changed_facts setup past n s (λ x. give_up_row x op) (λ x. refl) (given_up_runs setup.hashes past s.versions op) f)
    (given_up_all_answered setup.hashes past (step_entry node (GiveUp op) (give_up s op)) s.versions op s.executions f.runs)
step_facts setup past node n s (See other up) b role some fresh contracts f =
    silent_step setup past node (See other up) n (λ h k. let a = role h k in omega (arith, a)) (input_row s (See other up) b) refl refl f (λ q. refl)
step_facts setup past node n s Tick b role some fresh contracts f =
    silent_step setup past node Tick n (λ h k. let a = role h k in omega (arith, a)) (tick_row s) refl refl (proposals_facts setup past n s f) (none_tick s)
step_facts setup past node n s (Deliver number) b role some fresh contracts f =
    silent_step setup past node (Deliver number) n (λ h k. let a = role h k in omega (arith, a)) (brought_row s b) refl refl (brought_facts setup past n role s b f) (none_brought s b)
step_facts setup past node n s Crash b role some fresh contracts f =
    silent_step setup past node Crash n (λ h k. let a = role h k in omega (arith, a)) (crash_row s) refl refl (crash_facts setup past n s f) (λ q. refl)
step_facts setup past node n s Restart b role some fresh contracts f =
    silent_step setup past node Restart n (λ h k. let a = role h k in omega (arith, a)) (restart_row s) refl refl (restart_facts setup past n s contracts f) (λ q. refl)
