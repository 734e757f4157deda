-- In every run each version in a store, in a message and in a log can be traced to the maker of its branch.
use Rattle.std.proofs.Common.{◌≡◌, ℕ, zero, suc, ◌+◌, ◌-◌, ◌<◌, ◌==◌, List, [], ◌∷◌, ◌++◌, slice_get, Option, Some, None, inl, inr, refl, sym, ap, ◌∙◌, subst, arith, sum}
use Rattle.std.proofs.Math.Nat.{mod-lt}
use Rattle.std.proofs.lemmas.Bool.{cond_both, and_parts, eqb-true, eq-eqb, cases_Bool, both_ways}
use Rattle.std.specs.List.{AllByRecursion}
use Rattle.path_runs.specs.runs.region_map.declared.id.Id.{Id}
use Rattle.path_runs.specs.runs.region_map.declared.id.NodeId.{NodeId}
use Rattle.path_runs.specs.runs.region_map.declared.region.Region.{Region}
use Rattle.path_runs.specs.runs.region_map.Keys.{hash_of}
use Rattle.path_runs.specs.runs.region_map.Maps.{Pieced}
use Rattle.path_runs.specs.runs.branch_history.declared.version.Version.{Version}
use Rattle.path_runs.specs.runs.branch_history.declared.history.BranchBirth.{BranchBirth}
use Rattle.path_runs.specs.runs.branch_history.Histories.{birth_of}
use Rattle.path_runs.specs.runs.raft_vote.declared.log.LogEntry.{LogEntry}
use Rattle.path_runs.specs.runs.raft_vote.declared.message.RaftMessage.TheVariants.{VoteAsk, VoteSay, Append, AppendSay}
use Rattle.path_runs.specs.runs.register_laws.declared.operation.OpId.{OpId}
use Rattle.path_runs.specs.runs.contract_types.Setup.{SetupState, IsSetup}
use Rattle.path_runs.specs.runs.contract_types.Tables.{Table}
use Rattle.path_runs.specs.runs.contract_types.declared.ack.Ack.{Ack}
use Rattle.path_runs.specs.runs.contract_types.declared.ack.Ack.TheVariants.{NeedBranch, InProgress, Ready, NeedPrimary, Backfilling, Streaming}
use Rattle.path_runs.specs.runs.contract_types.declared.change.Change.{Change}
use Rattle.path_runs.specs.runs.contract_types.declared.change.Change.TheVariants.{Noop, SetConfig, NewContracts, RegisterBranch}
use Rattle.path_runs.specs.runs.table_log.Logs.{table_of, viewed}
use Rattle.path_runs.specs.runs.exec_types.Parts.{timestamp_of}
use Rattle.path_runs.specs.runs.exec_types.Sessions.{same_session}
use Rattle.path_runs.specs.runs.exec_types.declared.input.Input.{Input}
use Rattle.path_runs.specs.runs.exec_types.declared.input.Input.TheVariants.{Request, GiveUp, See, Tick, Deliver, Crash, Restart}
use Rattle.path_runs.specs.runs.exec_types.declared.message.Message.{Message as Sent}
use Rattle.path_runs.specs.runs.exec_types.declared.message.Message.TheVariants as message
use Rattle.path_runs.specs.runs.exec_types.declared.message.SessionName.{SessionName}
use Rattle.path_runs.specs.runs.exec_types.declared.output.Output.{Output}
use Rattle.path_runs.specs.runs.exec_types.declared.output.Output.TheVariants.{Message, Dispatched, Viewed, Answer}
use Rattle.path_runs.specs.runs.store_api.Versions.{version_of, zero_map}
use Rattle.path_runs.specs.runs.secondary_exec.declared.following.Following.{Following}
use Rattle.path_runs.specs.runs.primary_exec.declared.asking.Asking.{Asking}
use Rattle.path_runs.specs.runs.primary_exec.declared.session.Session.{Session}
use Rattle.path_runs.specs.runs.primary_exec.Execution.{Execution, started, decided}
use Rattle.path_runs.specs.runs.node_core.declared.node.Brought.{Brought}
use Rattle.path_runs.specs.runs.node_core.declared.journal.Entry.{Entry}
use Rattle.path_runs.specs.runs.node_core.Starting.{initial_of, is_current, due}
use Rattle.path_runs.specs.runs.node_core.Step.{NodeState, Stepped, input_row, act, node_step}
use Rattle.path_runs.specs.runs.declared.envelope.Envelope.{Envelope}
use Rattle.path_runs.specs.runs.Committed.{IsEarlier}
use Rattle.path_runs.specs.runs.Run.{sent_by, sent, opened, brought, state, IsRun}
use Rattle.path_runs.specs.runs.Story.{IsIn}
use Rattle.path_runs.proofs.runs.list_laws.All.{all_append, all_weaker}
use Rattle.path_runs.proofs.runs.list_laws.Members.{all_member}
use Rattle.path_runs.proofs.step_runs.Runs.{some_hash}
use Rattle.path_runs.proofs.change_runs.Asked.{Asked, IsAsked}
use Rattle.path_runs.proofs.change_runs.AskedRuns.{AskedUnder, asked_facts, registered_asked}
use Rattle.path_runs.proofs.change_runs.AskedRunsSteps.{ClaimsSent}
use Rattle.path_runs.proofs.change_runs.LedHistories.{some_inner}
use Rattle.path_runs.proofs.lead_runs.LedAsked.{IsOwn}
use Rattle.path_runs.proofs.lead_runs.LedRuns.{earlier_run, run_roles}
use Rattle.version_runs.specs.Takings.{Dispatches, Syncs}
use Rattle.version_runs.specs.Traced.{IsStarted, IsPointOf, IsTraced}
use Rattle.version_runs.specs.Carried.{GivesOrigin, HasOrigin, Reports, IsSessionOf, IsInSession, CarriesAt, Carries}
use Rattle.version_runs.proofs.Executions.{row_asks, step_there}
use Rattle.version_runs.proofs.Heads.{mapped_in}
use Rattle.version_runs.proofs.Outputs.{Fits, OutFits, MaySay, MayFollow, row_within, step_fit}
use Rattle.version_runs.proofs.TakenRuns.{after_is, other_is, own_after, never_both}
use Rattle.version_runs.proofs.TracedSteps.{none_some, same_name, Traced, WholeTraced, point_traced, masked_traced, StoreTraced, MayCome, MayStart, step_traced}
use Rattle.version_runs.proofs.TracedBegins.{firsts_weaker, Runs, begin_runs, begin_follows, begin_versions, zero_traced, IsFirst, firsts}

-- ---- what is kept of a run

abbrev AtPoint : SetupState → List Entry → Id → Option ℕ → Type 0
AtPoint setup past branch None = Unit {0}
AtPoint setup past branch (Some at) = IsPointOf setup past branch at

-- a session was there, and was opened under the id of the branch that it brings
record SessionAt (setup : SetupState) (past : List Entry) (name : SessionName) (stands : Option ℕ) : Type 0 where
  branch : Id
  session : IsSessionOf setup past name branch
  at : AtPoint setup past name.opened stands

abbrev AnyPoint : OpId → List ℕ → Id → ℕ → Type 0
AnyPoint op key branch at = Unit {0}

abbrev SentFits : SetupState → List Entry → Sent → Type 0
SentFits setup past m = Fits (SessionAt setup past) (WholeTraced (IsPointOf setup past)) AnyPoint m

abbrev EnvelopeFits : SetupState → List Entry → Envelope → Type 0
EnvelopeFits setup past m = SentFits setup past m.message

abbrev HasStarted : SetupState → List Entry → Id → Type 0
HasStarted setup past branch = (birth : BranchBirth) × IsStarted setup past branch birth

record RunTraced (setup : SetupState) (past : List Entry) : Type 0 where
  stores : (n : ℕ) → StoreTraced (IsPointOf setup past) (state setup n past)
  runs : (n : ℕ) (x : Execution) → IsIn (state setup n past).executions x → Runs (HasStarted setup past) x
  messages : AllByRecursion (EnvelopeFits setup past) (sent past)

-- ---- what was traced stays so

abbrev once_more : (past m : List Entry) (e : Entry) → IsEarlier past m → IsEarlier (e ∷ past) m
once_more past m e h = record { later = e ∷ h.later; is = ap (λ (l : List Entry). e ∷ l) h.is }

traced_weaker : (P Q : Id → ℕ → Type 0) → ((b : Id) (at : ℕ) → P b at → Q b at) → (v : Version) → Traced P v → Traced Q v
traced_weaker P Q f v (inl none) = inl none
traced_weaker P Q f v (inr h) = inr (h.0, h.1, f h.0 v.timestamp h.2)

module _ (setup : SetupState) (past : List Entry) (e : Entry) where
  started_more : (b : Id) (birth : BranchBirth) → IsStarted setup past b birth → IsStarted setup (e ∷ past) b birth
  started_more b birth h =
      record {
        moment = h.moment;
        earlier = once_more past h.moment e h.earlier;
        execution = h.execution;
        is_in = h.is_in;
        branch_is = h.branch_is;
        life_is = h.life_is;
        registered = h.registered;
      }

  point_more : (b : Id) (at : ℕ) → IsPointOf setup past b at → IsPointOf setup (e ∷ past) b at
  point_more b at h = record { birth = h.birth; started = started_more b h.birth h.started; came = elim h.came [ inl first ↦ inl first | inr taken ↦ inr (inr taken) ] }

  map_more : (m : Pieced Version) → WholeTraced (IsPointOf setup past) m → WholeTraced (IsPointOf setup (e ∷ past)) m
  map_more m h g k v is = traced_weaker (IsPointOf setup past) (IsPointOf setup (e ∷ past)) point_more v (h g k v is)

  session_more : (name : SessionName) (b : Id) → IsSessionOf setup past name b → IsSessionOf setup (e ∷ past) name b
  session_more name b h = record { moment = h.moment; earlier = once_more past h.moment e h.earlier; node = h.node; is = h.is }

  at_more : (b : Id) (stands : Option ℕ) → AtPoint setup past b stands → AtPoint setup (e ∷ past) b stands
  at_more b None h = tt
  at_more b (Some at) h = point_more b at h

  named_more : (name : SessionName) (stands : Option ℕ) → SessionAt setup past name stands → SessionAt setup (e ∷ past) name stands
  named_more name stands h = record { branch = h.branch; session = session_more name h.branch h.session; at = at_more name.opened stands h.at }

  sent_more : (m : Sent) → SentFits setup past m → SentFits setup (e ∷ past) m
  sent_more (message.Raft m) h = tt
  sent_more (message.Say contract (NeedBranch branch based_on origin)) h = map_more origin h
  sent_more (message.Say contract InProgress) h = tt
  sent_more (message.Say contract Ready) h = tt
  sent_more (message.Say contract (NeedPrimary versions)) h = map_more versions h
  sent_more (message.Say contract Backfilling) h = tt
  sent_more (message.Say contract Streaming) h = tt
  sent_more (message.Stream stream) h = named_more stream.session (Some (timestamp_of stream.part)) h
  sent_more (message.Got got) h = named_more got.session got.stands h

  store_more : (s : NodeState) → StoreTraced (IsPointOf setup past) s → StoreTraced (IsPointOf setup (e ∷ past)) s
  store_more s h =
      record {
        follows = λ f i. let k = h.follows f i in record { opened = k.opened; stands = point_more f.branch f.position k.stands };
        versions_are = λ g k v lt is. traced_weaker (IsPointOf setup past) (IsPointOf setup (e ∷ past)) point_more v (h.versions_are g k v lt is);
      }

  runs_more : (x : Execution) → Runs (HasStarted setup past) x → Runs (HasStarted setup (e ∷ past)) x
  runs_more x h = record { started = (h.started.0, started_more x.branch h.started.0 h.started.1); names = h.names }

-- ---- lists

sent_by_fits : (setup : SetupState) (past : List Entry) (from : NodeId) (outs : List Output)
    → AllByRecursion (OutFits (SessionAt setup past) (WholeTraced (IsPointOf setup past)) AnyPoint) outs → AllByRecursion (EnvelopeFits setup past) (sent_by from outs)
sent_by_fits setup past from [] h = tt
sent_by_fits setup past from (Message to m ∷ outs) h = (h.0, sent_by_fits setup past from outs h.1)
sent_by_fits setup past from (Dispatched op key branch timestamp ∷ outs) h = sent_by_fits setup past from outs h.1
sent_by_fits setup past from (Viewed first results ∷ outs) h = sent_by_fits setup past from outs h.1
sent_by_fits setup past from (Answer op outcome ∷ outs) h = sent_by_fits setup past from outs h.1

-- ---- messages that come

abbrev BroughtFits : SetupState → List Entry → Option Brought → Type 0
BroughtFits setup past None = Unit {0}
BroughtFits setup past (Some b) = SentFits setup past b.message

brought_fits : (setup : SetupState) (whole past : List Entry) (input : Input) → AllByRecursion (EnvelopeFits setup whole) (sent past) → BroughtFits setup whole (brought past input)
brought_fits setup whole past (Request op key what) h = tt
brought_fits setup whole past (GiveUp op) h = tt
brought_fits setup whole past (See other up) h = tt
brought_fits setup whole past Tick h = tt
brought_fits setup whole past (Deliver number) h =
    cond_both (number == 0) None (slice_get (sent past) (number - 1)) (λ (o : Option Envelope). BroughtFits setup whole (opened o)) (λ _. tt) (λ _. at_place (sent past) (number - 1) h)
  where
    at_place : (xs : List Envelope) (place : ℕ) → AllByRecursion (EnvelopeFits setup whole) xs → BroughtFits setup whole (opened (slice_get xs place))
    at_place [] place k = tt
    at_place (x ∷ xs) zero k = k.0
    at_place (x ∷ xs) (suc place) k = at_place xs place k.1
brought_fits setup whole past Crash h = tt
brought_fits setup whole past Restart h = tt

-- ---- a branch that may start

record IsDue (t : Table) (branch : Id) (initial : ℕ) : Type 0 where
  birth : BranchBirth
  registered : birth_of t.history branch ≡ Some birth
  initial_is : birth.initial ≡ initial

due_birth : (t : Table) (a : Asking) (initial : ℕ) → due t a ≡ Some initial → IsDue t a.branch initial
due_birth t a initial e =
    cond_both (is_current t a.contract.region a.branch) (initial_of (birth_of t.history a.branch)) None (λ (o : Option ℕ). o ≡ Some initial → IsDue t a.branch initial)
    (λ _ f. from_birth (birth_of t.history a.branch) refl f) (λ _ f. absurd (none_some initial f)) e
  where
    from_birth : (o : Option BranchBirth) → birth_of t.history a.branch ≡ o → initial_of o ≡ Some initial → IsDue t a.branch initial
    from_birth None is f = absurd (none_some initial f)
    from_birth (Some birth) is f = record { birth = birth; registered = is; initial_is = some_inner birth.initial initial f }

-- ---- an entry

some_version : (setup : SetupState) → IsSetup setup → (past : List Entry) → IsRun setup past → (n : ℕ) → 0 < (state setup n past).versions.hashes
some_version setup ok past run n =
    let some = some_hash setup ok in
    let same = (run_roles setup ok past run n).roles.hashes_are in
    omega (arith, some, same)

module _ (setup : SetupState) (ok : IsSetup setup) (past : List Entry) (e : Entry) (run : IsRun setup (e ∷ past)) (h : RunTraced setup past) where
  abbrev n : ℕ
  n = e.node.0

  abbrev s : NodeState
  s = state setup n past

  abbrev b : Option Brought
  b = brought past e.input

  abbrev whole : List Entry
  whole = e ∷ past

  abbrev now : NodeState
  now = (node_step s e.input b).node

  abbrev P : Id → ℕ → Type 0
  P = IsPointOf setup whole

  here : state setup n whole ≡ now
  here = after_is setup past e run

  before : IsEarlier whole past
  before = record { later = e ∷ []; is = refl }

  own : StoreTraced P s
  own = store_more setup past e s (h.stores n)

  fits : AllByRecursion (EnvelopeFits setup whole) (sent past)
  fits = all_weaker (EnvelopeFits setup past) (EnvelopeFits setup whole) (sent past) (λ m k. sent_more setup past e m.message k) h.messages

  came : BroughtFits setup whole b
  came = brought_fits setup whole past e.input fits

  -- a request takes the next timestamp
  takes : (op : OpId) (key : List ℕ) (x : Execution) → IsIn s.executions x → IsIn (node_step s e.input b).outs (Dispatched op key x.branch (x.last + 1)) → P x.branch (x.last + 1)
  takes op key x i j =
      let r = (h.runs n x i).started in
      record {
        birth = r.0;
        started = started_more setup past e x.branch r.0 r.1;
        came = inr (inl (Dispatches op key (subst (λ (outs : List Output). IsIn outs (Dispatched op key x.branch (x.last + 1))) (sym run.0.outputs) j)));
      }

  -- a branch that is written after the step was started by then
  record Begun (y : Execution) (initial : ℕ) : Type 0 where
    birth : BranchBirth
    started : IsStarted setup whole y.branch birth
    initial_is : birth.initial ≡ initial

  begins : (y : Execution) → IsIn now.executions y → (a : Asking) → a.branch ≡ y.branch → (initial : ℕ) → due (table_of now.log) a ≡ Some initial → Begun y initial
  begins y i a same initial may =
      let d = due_birth (table_of now.log) a initial may in
      let o : IsOwn n now.life y.branch = own_after setup past e run y i in
      let at : state setup y.branch.node.0 whole ≡ now = ap (λ m. state setup m whole) o.node_is ∙ here in
      record {
        birth = d.birth;
        started = record {
          moment = whole;
          earlier = record { later = []; is = refl };
          execution = y;
          is_in = subst (λ (t : NodeState). IsIn t.executions y) (sym at) i;
          branch_is = refl;
          life_is = o.life_is ∙ ap (λ (t : NodeState). t.life) (sym at);
          registered = ap (λ (t : NodeState). birth_of (table_of t.log).history y.branch) at ∙ ap (λ (c : Id). birth_of (table_of now.log).history c) (sym same) ∙ d.registered;
        };
        initial_is = d.initial_is;
      }

  starts : MayStart P (input_row s e.input b) (viewed (input_row s e.input b).node.log)
  starts a i initial may j =
      let step : Stepped = input_row s e.input b in
      let y : Execution = decided (started a step.node.me initial) in
      let y_in : IsIn now.executions y = mapped_in decided (act step).node.executions (started a step.node.me initial) j in
      let w = begins y y_in a refl initial may in (
        record { birth = w.birth; started = w.started; came = inl (sym w.initial_is) },
        record {
          birth = w.birth;
          started = w.started;
          came =
              inr (inl (Syncs (record { execution = y; is_in = subst (λ (t : NodeState). IsIn t.executions y) (sym here) y_in; branch_is = refl; sync_is = refl })
              (λ old. never_both setup past e run old.execution old.is_in a (row_asks s e.input b a i) (sym old.branch_is))));
        },
      )

  follow : (c : Option Brought) → BroughtFits setup whole c → MayCome P s.followings c
  follow None k = tt
  follow (Some c) k = λ f i stream is ours.
      let m : SessionAt setup whole stream.session (Some (timestamp_of stream.part)) = subst (SentFits setup whole) is k in
      let same : stream.session ≡ f.session = same_name stream.session f.session (and_parts (c.from.0 == f.primary.0) (same_session stream.session f.session) ours).1 in
      subst (λ (d : Id). P d (timestamp_of stream.part)) (ap (λ (name : SessionName). name.opened) same ∙ (own.follows f i).opened) m.at

  joined_at : (f : Following) → IsIn s.followings f → (at : ℕ) → P f.branch at → SessionAt setup whole f.session (Some at)
  joined_at f i at p =
      record {
        branch = f.branch;
        session = record { moment = past; earlier = before; node = n; is = inr (record { following = f; is_in = i; name_is = refl; branch_is = refl }) };
        at = subst (λ (d : Id). P d at) (sym (own.follows f i).opened) p;
      }

  tells : (c : Option Brought) → MayCome P s.followings c → MayFollow (SessionAt setup whole) (WholeTraced P) AnyPoint s.followings c
  tells None k = tt
  tells (Some c) k = λ f i stream is ours. joined_at f i (timestamp_of stream.part) (k f i stream is ours)

  says : MaySay (SessionAt setup whole) (WholeTraced P) AnyPoint s e.input b
  says =
      record {
        maps = λ r. masked_traced P r s.versions (some_version setup ok past run.1 n) own.versions_are;
        stand = λ f i. joined_at f i f.position (own.follows f i).stands;
        next = tells b (follow b came);
        points = λ op key what is x i j. (
          tt,
          λ t k. record {
            branch = x.branch;
            session = record { moment = past; earlier = before; node = n; is = inl (record { execution = x; is_in = i; session = t; has = k; name_is = refl; branch_is = refl }) };
            at = subst (λ (d : Id). P d (x.last + 1)) (sym ((h.runs n x i).names t k)) (takes op key x i j);
          },
        );
      }

  store_next : StoreTraced P now
  store_next =
      step_traced P s e.input b (λ op key what is x i j. takes op key x i (row_within s e.input b (Dispatched op key x.branch (x.last + 1)) j)) (follow b came) starts own

  runs_next : (y : Execution) → IsIn now.executions y → Runs (HasStarted setup whole) y
  runs_next y i =
      elim (step_there s e.input b y i) [
        | inl w ↦
            let r = h.runs n w.x w.is_in in
            record {
              started = subst (HasStarted setup whole) w.goes.branch_is (r.started.0, started_more setup past e w.x.branch r.started.0 r.started.1);
              names = λ t j.
                  let k = w.goes.names t j in
                  ap (λ (name : SessionName). name.opened) (sym k.name_is) ∙ r.names k.session k.is_in ∙ w.goes.branch_is;
            }
        | inr r ↦
            let g = begins y i r.a r.branch_is r.initial r.due_is in
            record { started = (g.birth, g.started); names = λ t j. absurd (subst (λ (l : List Session). IsIn l t) r.sessions_are j) }
      ]

  traced_next : RunTraced setup whole
  traced_next =
      record {
        stores = λ m.
            elim (cases_Bool (n == m)) [
              | inl same ↦ subst (StoreTraced P) (sym here ∙ ap (λ k. state setup k whole) (eqb-true n m same)) store_next
              | inr other ↦
                  let apart : n ≡ m → ⊥ = λ is. both_ways _ other (eq-eqb n m is) in
                  subst (StoreTraced P) (sym (other_is setup past e run m apart)) (store_more setup past e (state setup m past) (h.stores m))
            ];
        runs = λ m.
            elim (cases_Bool (n == m)) [
              | inl same ↦ λ x i. runs_next x (subst (λ (t : NodeState). IsIn t.executions x) (ap (λ k. state setup k whole) (sym (eqb-true n m same)) ∙ here) i)
              | inr other ↦ λ x i.
                  let apart : n ≡ m → ⊥ = λ is. both_ways _ other (eq-eqb n m is) in
                  runs_more setup past e x (h.runs m x (subst (λ (t : NodeState). IsIn t.executions x) (other_is setup past e run m apart) i))
            ];
        messages =
            all_append (EnvelopeFits setup whole) (sent past) (sent_by e.node e.outputs) fits
            (sent_by_fits setup whole e.node e.outputs
            (subst (λ (outs : List Output). AllByRecursion (OutFits (SessionAt setup whole) (WholeTraced P) AnyPoint) outs) (sym run.0.outputs)
            (step_fit (SessionAt setup whole) (WholeTraced P) AnyPoint s e.input b says)));
      }

-- ---- every run

first_is : (setup : SetupState) (b : Id) → (f : IsFirst setup b) → IsStarted setup [] b f.birth
first_is setup b f =
    record {
      moment = [];
      earlier = record { later = []; is = refl };
      execution = f.execution;
      is_in = f.is_in;
      branch_is = f.branch_is;
      life_is = f.life_is;
      registered = f.registered;
    }

first_started : (setup : SetupState) (b : Id) → IsFirst setup b → HasStarted setup [] b
first_started setup b f = (f.birth, first_is setup b f)

first_point : (setup : SetupState) (b : Id) → IsFirst setup b → IsPointOf setup [] b 0
first_point setup b f = record { birth = f.birth; started = first_is setup b f; came = inl (sym f.initial) }

run_traced : (setup : SetupState) → IsSetup setup → (past : List Entry) → IsRun setup past → RunTraced setup past
run_traced setup ok [] run =
    let P : Id → ℕ → Type 0 = IsPointOf setup [] in
    let points = firsts_weaker (IsFirst setup) (λ b. P b 0) (first_point setup) 0 setup.shards (firsts setup) in
    record {
      stores = λ n. record {
        follows = begin_follows P n 0 setup.shards points;
        versions_are = begin_versions P n 0 setup.shards (zero_map setup.hashes) points (zero_traced P setup.hashes);
      };
      runs = λ n. begin_runs (HasStarted setup []) n 0 setup.shards (firsts_weaker (IsFirst setup) (HasStarted setup []) (first_started setup) 0 setup.shards (firsts setup));
      messages = tt;
    }
run_traced setup ok (e ∷ past) run = traced_next setup ok past e run (run_traced setup ok past run.1)

-- ---- stores

module _ (setup : SetupState) (ok : IsSetup setup) (past : List Entry) (run : IsRun setup past) where
  pub stored : (n : ℕ) (key : List ℕ) (version : Version) → version_of (state setup n past).versions key ≡ Some version → IsTraced setup past version
  stored n key version is =
      ((run_traced setup ok past run).stores n).versions_are (hash_of key (state setup n past).versions.hashes) key version (mod-lt (sum key) (some_version setup ok past run n)) is

  pub followed : (n : ℕ) (f : Following) → IsIn (state setup n past).followings f → IsPointOf setup past f.branch f.position
  followed n f i = (((run_traced setup ok past run).stores n).follows f i).stands

-- ---- what was asked for

module _ (setup : SetupState) where
  point_later : (later m : List Entry) (b : Id) (at : ℕ) → IsPointOf setup m b at → IsPointOf setup (later ++ m) b at
  point_later [] m b at h = h
  point_later (e ∷ later) m b at h = point_more setup (later ++ m) e b at (point_later later m b at h)

  pub point_then : (past m : List Entry) → IsEarlier past m → (b : Id) (at : ℕ) → IsPointOf setup m b at → IsPointOf setup past b at
  point_then past m early b at h = subst (λ (l : List Entry). IsPointOf setup l b at) (sym early.is) (point_later early.later m b at h)

asked_traced : (setup : SetupState) → IsSetup setup → (past : List Entry) → IsRun setup past → (maker : NodeId) (branch : Id) (region : Region) (based_on : Pieced Id) (origin : Pieced Version)
    → Asked setup past maker branch region based_on origin → WholeTraced (IsPointOf setup past) origin
asked_traced setup ok past run maker branch region based_on origin a g k v is =
    let then : IsRun setup a.moment = earlier_run setup past a.moment run a.earlier in
    let s : NodeState = state setup maker.0 a.moment in
    let traced : WholeTraced (IsPointOf setup a.moment) origin =
    subst (WholeTraced (IsPointOf setup a.moment)) (sym a.origin_is)
    (masked_traced (IsPointOf setup a.moment) region s.versions (some_version setup ok a.moment then maker.0) ((run_traced setup ok a.moment then).stores maker.0).versions_are) in
    traced_weaker (IsPointOf setup a.moment) (IsPointOf setup past) (point_then setup past a.moment a.earlier) v (traced g k v is)

change_traced : (setup : SetupState) → IsSetup setup → (past : List Entry) → IsRun setup past → (c : Change) → IsAsked setup past c → (version : Version) → GivesOrigin c version → IsTraced setup past version
change_traced setup ok past run Noop a version g = absurd g
change_traced setup ok past run (SetConfig config) a version g = absurd g
change_traced setup ok past run (NewContracts removed added) a version g = absurd g
change_traced setup ok past run (RegisterBranch branch region tenure maker based_on origin) a version g =
    asked_traced setup ok past run maker branch region based_on origin a g.hash g.key version g.is

pub logged : (setup : SetupState) → IsSetup setup → (past : List Entry) → IsRun setup past → (n : ℕ) (e : LogEntry Change) → IsIn (state setup n past).log.raft.log e
    → (version : Version) → GivesOrigin e.change version → IsTraced setup past version
logged setup ok past run n e i version g =
    change_traced setup ok past run e.change
    (all_member (λ (x : LogEntry Change). IsAsked setup past x.change) (state setup n past).log.raft.log (registered_asked setup ok past run n) e i) version g

-- ---- messages

-- a session brings the branch under whose id it was opened
session_branch : (setup : SetupState) → IsSetup setup → (past : List Entry) → IsRun setup past → (name : SessionName) (branch : Id) → IsSessionOf setup past name branch → name.opened ≡ branch
session_branch setup ok past run name branch h =
    let r = run_traced setup ok h.moment (earlier_run setup past h.moment run h.earlier) in
    elim h.is [
      | inl t ↦ ap (λ (x : SessionName). x.opened) (sym t.name_is) ∙ (r.runs h.node t.execution t.is_in).names t.session t.has ∙ t.branch_is
      | inr j ↦ ap (λ (x : SessionName). x.opened) (sym j.name_is) ∙ ((r.stores h.node).follows j.following j.is_in).opened ∙ j.branch_is
    ]

module _ (setup : SetupState) (ok : IsSetup setup) (past : List Entry) (run : IsRun setup past) where
  carried_at : (name : SessionName) (stands : Option ℕ) (at : ℕ) (version : Version) → SessionAt setup past name stands → stands ≡ Some at → CarriesAt setup past name at version → IsTraced setup past version
  carried_at name stands at version h is c =
      let same : name.opened ≡ c.branch = session_branch setup ok past run name c.branch c.session in
      let p : IsPointOf setup past name.opened at = subst (AtPoint setup past name.opened) is h.at in
      subst (IsTraced setup past) (sym c.version_is) (point_traced (IsPointOf setup past) c.branch at (subst (λ (d : Id). IsPointOf setup past d at) same p))

  entries_traced : (entries : List (LogEntry Change)) → AllByRecursion (λ (x : LogEntry Change). IsAsked setup past x.change) entries → (version : Version) → HasOrigin entries version → IsTraced setup past version
  entries_traced entries h version o =
      change_traced setup ok past run o.entry.change (all_member (λ (x : LogEntry Change). IsAsked setup past x.change) entries h o.entry o.is_in) version o.gives

  carried_in : (m : Envelope) → SentFits setup past m.message → ClaimsSent (IsAsked setup past) (AskedUnder setup past) m → (version : Version) → Carries setup past m.message version
      → IsTraced setup past version
  carried_in m h claims version c = of m.message h claims c
    where
      reported : (contract : Id) (ack : Ack) → SentFits setup past (message.Say contract ack) → Reports ack version → IsTraced setup past version
      reported contract (NeedBranch branch based_on origin) k g = k g.hash g.key version g.is
      reported contract InProgress k g = absurd g
      reported contract Ready k g = absurd g
      reported contract (NeedPrimary versions) k g = k g.hash g.key version g.is
      reported contract Backfilling k g = absurd g
      reported contract Streaming k g = absurd g

      of : (x : Sent) → SentFits setup past x → ClaimsSent (IsAsked setup past) (AskedUnder setup past) (record { from = m.from; to = m.to; message = x }) → Carries setup past x version
          → IsTraced setup past version
      of (message.Raft (VoteAsk term last_term last_index)) k a g = absurd g
      of (message.Raft (VoteSay term granted)) k a g = absurd g
      of (message.Raft (Append term prev prev_term entries commit)) k a g = entries_traced entries a version g
      of (message.Raft (AppendSay term ok upto)) k a g = absurd g
      of (message.Say contract ack) k a g = reported contract ack k g
      of (message.Stream stream) k a g = carried_at stream.session (Some (timestamp_of stream.part)) (timestamp_of stream.part) version k refl g
      of (message.Got got) k a g = carried_at got.session got.stands g.0 version k g.1 g.2

pub carried : (setup : SetupState) → IsSetup setup → (past : List Entry) → IsRun setup past → (m : Envelope) → IsIn (sent past) m → (version : Version) → Carries setup past m.message version
    → IsTraced setup past version
carried setup ok past run m i =
    carried_in setup ok past run m (all_member (EnvelopeFits setup past) (sent past) (run_traced setup ok past run).messages m i)
    (all_member (ClaimsSent (IsAsked setup past) (AskedUnder setup past)) (sent past) (asked_facts setup past run).messages m i)

pub in_session : (setup : SetupState) → IsSetup setup → (past : List Entry) → IsRun setup past → (m : Envelope) → IsIn (sent past) m → IsInSession setup past m.message
in_session setup ok past run m i = of m.message (all_member (EnvelopeFits setup past) (sent past) (run_traced setup ok past run).messages m i)
  where
    of : (x : Sent) → SentFits setup past x → IsInSession setup past x
    of (message.Raft r) h = tt
    of (message.Say contract ack) h = tt
    of (message.Stream stream) h = (h.branch, h.session)
    of (message.Got got) h = (h.branch, h.session)
