-- In every run, what is answered as done was counted at more than half of the voters, and each that was counted holds it.
use Rattle.std.proofs.Common.{◌≡◌, ◌==◌, ◌⊎◌, ℕ, zero, suc, ◌+◌, ◌-◌, ◌*◌, ◌≤◌, ◌<◌, Bool, true, false, cond, ◌&&◌, nat_lt, nat_le, List, [], ◌∷◌, length, count_by, Option, Some, None, inl, inr, refl, sym, ap, ◌∙◌, subst, arith}
use Rattle.std.proofs.lemmas.Bool.{false≢true, cond_both, and_parts, or_cases, eq-eqb, eqb-true, ltb-true, leb-true}
use Rattle.std.specs.Prelude.{slice_get}
use Rattle.std.specs.List.{AllByRecursion}
use Rattle.row_runs.specs.runs.region_map.declared.id.Id.{Id}
use Rattle.row_runs.specs.runs.region_map.declared.id.NodeId.{NodeId}
use Rattle.row_runs.specs.runs.region_map.declared.region.Region.{Region}
use Rattle.row_runs.specs.runs.region_map.Keys.{hash_of}
use Rattle.row_runs.specs.runs.region_map.Nodes.{node_id}
use Rattle.row_runs.specs.runs.region_map.Regions.{in_region}
use Rattle.row_runs.specs.runs.region_map.Equal.{same_id}
use Rattle.row_runs.specs.runs.register_laws.declared.operation.OpId.{OpId}
use Rattle.row_runs.specs.runs.register_laws.declared.operation.Reply.{Reply}
use Rattle.row_runs.specs.runs.register_laws.Lists.{same_op}
use Rattle.row_runs.specs.runs.contract_types.declared.config.ShardConfig.{ShardConfig}
use Rattle.row_runs.specs.runs.contract_types.declared.contract.Contract.{Contract}
use Rattle.row_runs.specs.runs.contract_types.declared.results.Viewed.{Viewed as Results}
use Rattle.row_runs.specs.runs.contract_types.Configs.{shard_region}
use Rattle.row_runs.specs.runs.contract_types.Setup.{SetupState, IsSetup}
use Rattle.row_runs.specs.runs.contract_types.Tables.{setup_id, first_contract, first_contracts}
use Rattle.row_runs.specs.runs.table_log.Logs.{viewed}
use Rattle.row_runs.specs.runs.exec_types.Sessions.{same_session, setup_session_name}
use Rattle.row_runs.specs.runs.exec_types.declared.input.Input.{Input}
use Rattle.row_runs.specs.runs.exec_types.declared.input.Input.TheVariants.{Request, GiveUp, See, Tick, Deliver, Crash, Restart}
use Rattle.row_runs.specs.runs.exec_types.declared.message.Message.{Message as Sent}
use Rattle.row_runs.specs.runs.exec_types.declared.message.Message.TheVariants as message
use Rattle.row_runs.specs.runs.exec_types.declared.message.SessionName.{SessionName}
use Rattle.row_runs.specs.runs.exec_types.declared.outcome.Outcome.TheVariants.{Done}
use Rattle.row_runs.specs.runs.exec_types.declared.output.Output.{Output}
use Rattle.row_runs.specs.runs.exec_types.declared.output.Output.TheVariants.{Message, Dispatched, Viewed, Answer}
use Rattle.row_runs.specs.runs.store_api.Rows.{has_key}
use Rattle.row_runs.specs.runs.store_api.Versions.{point}
use Rattle.row_runs.specs.runs.write_dispatch.declared.decided.KeptAck.{KeptAck}
use Rattle.row_runs.specs.runs.write_dispatch.Dispatch.{ack_of, reaches, is_counted, is_temp_majority, counts_of}
use Rattle.row_runs.proofs.runs.write_dispatch.Later.{no_acks-none}
use Rattle.row_runs.specs.runs.secondary_exec.declared.following.Following.{Following}
use Rattle.row_runs.specs.runs.primary_exec.declared.session.Session.{Session}
use Rattle.row_runs.specs.runs.primary_exec.Execution.{Execution, joined, begun, join_all, setup_execution, is_session, is_any_session}
use Rattle.row_runs.specs.runs.node_core.declared.node.Brought.{Brought}
use Rattle.row_runs.specs.runs.node_core.declared.journal.Entry.{Entry}
use Rattle.row_runs.specs.runs.node_core.Step.{NodeState, Stepped, is_led, executions_from, input_row, act, act_on, end_step}
use Rattle.row_runs.specs.runs.declared.envelope.Envelope.{Envelope}
use Rattle.row_runs.specs.runs.DonePoints.{IsDoneAt}
use Rattle.row_runs.specs.runs.Run.{sent_by, sent, opened, brought, state, IsRun}
use Rattle.row_runs.specs.runs.Story.{Point, IsIn, points, points_of, answer_in, or_else, answer}
use Rattle.row_runs.proofs.step_runs.Begun.{begun_branch}
use Rattle.row_runs.proofs.step_runs.Facts.{same_op-true, same_op-refl}
use Rattle.row_runs.proofs.key_runs.KeyedFacts.{History-along}
use Rattle.row_runs.proofs.key_runs.KeyedLaws.{keyed_facts}
use Rattle.row_runs.proofs.key_runs.KeyedRoles.{led}
use Rattle.row_runs.proofs.change_runs.LedHistories.{some_inner}
use Rattle.row_runs.proofs.step_runs.EndPoints.{end_points_of}
use Rattle.row_runs.proofs.lead_runs.LedRoles.{IsLed, Roles, ends_kept, one_of_few}
use Rattle.row_runs.proofs.lead_runs.LedRows.{kept, lead_of, leads_of}
use Rattle.row_runs.proofs.lead_runs.LedRuns.{run_roles}
use Rattle.row_runs.proofs.lead_runs.LedShards.{holder_is, leads_in}
use Rattle.row_runs.proofs.log_runs.LogWorldRuns.{moving}
use Rattle.row_runs.proofs.step_runs.PointBranches.{all_at, all_from}
use Rattle.row_runs.proofs.step_runs.Setups.{one_shard}
use Rattle.row_runs.proofs.change_runs.StoredPaths.{same_id-true}
use Rattle.row_runs.proofs.StoredRuns.{run_kept}
use Rattle.row_runs.proofs.StoredSteps.{all_weaker, all_append, IsSessionOf, Runs, Follows}
use Rattle.row_runs.proofs.StoredSetups.{Away}
use Rattle.row_runs.proofs.step_runs.Told.{IsIn-left, IsIn-right, point_times}
use Rattle.row_runs.proofs.runs.list_laws.Counts.{more_pass}
use Rattle.durability_laws.specs.Held.{holds}
use Rattle.durability_laws.proofs.Backing.{kept_cases, WaitsIn, Backed, backed_more, Brings, Ours, News, row_backed, act_backed, decide_backed}
use Rattle.durability_laws.proofs.Holding.{led_holds, reached_holds}
use Rattle.durability_laws.proofs.Places.{Covers, run_covers}
use Rattle.durability_laws.proofs.Reached.{Reaches, reaches_more}
use Rattle.durability_laws.proofs.Telling.{GotIn, DoneIn, OutIn, Decides, step_tell}

-- ---- the facts

-- an operation took a point of a key of a region, and its timestamp is above 0
pub record HasPoint (setup : SetupState) (past : List Entry) (region : Region) (op : OpId) (at : ℕ) : Type 0 where
  pub taken : Point
  pub is_in : IsIn (points past) taken
  pub op_is : taken.op ≡ op
  pub inside : has_key region setup.hashes taken.key ≡ true
  pub up : 1 ≤ at

point_more : (setup : SetupState) (past : List Entry) (e : Entry) (region : Region) (op : OpId) (at : ℕ) → HasPoint setup past region op at → HasPoint setup (e ∷ past) region op at
point_more setup past e region op at p =
    record { taken = p.taken; is_in = IsIn-left (points past) (points_of e.input e.outputs) p.taken p.is_in; op_is = p.op_is; inside = p.inside; up = p.up }

-- what a message says of where its sender stands, at each key that begins with the branch under which its session was opened
abbrev GotHolds : SetupState → List Entry → NodeId → Sent → Type 0
GotHolds setup past from (message.Raft m) = Unit {0}
GotHolds setup past from (message.Say contract ack) = Unit {0}
GotHolds setup past from (message.Stream s) = Unit {0}
GotHolds setup past from (message.Got g) = (at : ℕ) → g.stands ≡ Some at → (key : List ℕ) → begun_branch setup key ≡ Some g.session.opened → Reaches setup past from.0 key g.session.opened at

abbrev EnvelopeHolds : SetupState → List Entry → Envelope → Type 0
EnvelopeHolds setup past m = GotHolds setup past m.from m.message

abbrev BroughtHolds : SetupState → List Entry → Option Brought → Type 0
BroughtHolds setup past None = Unit {0}
BroughtHolds setup past (Some b) = GotHolds setup past b.from b.message

-- what a done operation rests on: more than half of the voters of its shard were counted, and each of them leads the key or came
-- to the point
pub record DoneHeld (setup : SetupState) (past : List Entry) (op : OpId) (branch : Id) (at : ℕ) : Type 0 where
  pub shard : ShardConfig
  pub shard_in : IsIn setup.shards shard
  pub p : HasPoint setup past shard.region op at
  pub counted : ℕ → Bool
  pub most : length shard.voters < 2 * count_by counted shard.voters
  pub each : (v : ℕ) → counted v ≡ true → (v ≡ shard.primary.0) ⊎ Reaches setup past v p.taken.key branch at

pub record RunHeld (setup : SetupState) (past : List Entry) : Type 0 where
  pub told : AllByRecursion (EnvelopeHolds setup past) (sent past)
  pub nodes : (n : ℕ) → AllByRecursion (Backed setup.hashes n (Reaches setup past) (HasPoint setup past)) (state setup n past).executions
  pub done : (op : OpId) (reply : Reply) (branch : Id) (at : ℕ) → answer past op ≡ Some (Done reply branch at) → DoneHeld setup past op branch at

-- ---- with which a table begins

-- an execution of the setup, while servers join: each acknowledged timestamp 0 alone, and nothing is pending
record BeginsBacked (me : NodeId) (x : Execution) : Type 0 where
  me_is : x.me ≡ me
  acks : (v : ℕ) (k : KeptAck) → ack_of x.dispatch.acks v ≡ Some k → k.at ≡ 0
  waits : x.dispatch.waiting ≡ []

joined_begins : (me : NodeId) (place : ℕ) (x : Execution) (ns : List ℕ) → BeginsBacked me x → BeginsBacked me (join_all place x ns)
joined_begins me place x [] h = h
joined_begins me place x (n ∷ ns) h =
    let y : Execution = joined x (node_id n) (setup_session_name place x.me (node_id n)) in
    joined_begins me place (cond (n == x.me.0) x y) ns
    (cond_both (n == x.me.0) x y (BeginsBacked me) (λ _. h)
    (λ _. record {
      me_is = h.me_is;
      acks = λ v k is. elim (kept_cases x.dispatch.acks n 0 0 v k is) [ inl old ↦ h.acks v k old | inr e ↦ e.1 ];
      waits = h.waits;
    }))

begin_backed : (setup : SetupState) (n place : ℕ) (ss : List ShardConfig) → AllByRecursion (Backed setup.hashes n (Reaches setup []) (HasPoint setup [])) (executions_from n place ss)
begin_backed setup n place [] = tt
begin_backed setup n place (s ∷ ss) =
    let B : Execution → Type 0 = Backed setup.hashes n (Reaches setup []) (HasPoint setup []) in
    let c : Contract = first_contract place s in
    let x : Execution = setup_execution c s.primary place in
    let rest : List Execution = executions_from n (place + 1) ss in
    let k = joined_begins s.primary place (begun c s.primary (setup_id place s.primary)) c.replicas
    (record { me_is = refl; acks = λ v k is. absurd (let e : None ≡ Some k = sym (no_acks-none v) ∙ is in cc); waits = refl }) in
    cond_both (is_led n s) (x ∷ rest) rest (AllByRecursion B)
    (λ led. (
      record {
        me_is = ap (λ (m : NodeId). m.0) k.me_is ∙ eqb-true s.primary.0 n led;
        acks = λ v kept is up key has. absurd (let zero_is = k.acks v kept is in omega (arith, zero_is, up));
        waits = subst (AllByRecursion (WaitsIn (HasPoint setup []) x.contract.region)) (sym k.waits) tt;
      },
      begin_backed setup n (place + 1) ss,
    ))
    (λ _. begin_backed setup n (place + 1) ss)

-- ---- messages of secondaries

-- a live session was opened under the branch of its execution
live_opened : (from : NodeId) (name : SessionName) (branch : Id) (last : ℕ) (ss : List Session) → AllByRecursion (IsSessionOf branch last) ss → is_any_session from name ss ≡ true → name.opened ≡ branch
live_opened from name branch last [] h live = absurd (false≢true live)
live_opened from name branch last (s ∷ ss) h live =
    elim (or_cases (is_session from name s) (is_any_session from name ss) live) [
      | inl is ↦
          let same = (and_parts (s.server.0 == from.0) (same_session s.name name) is).1 in
          sym (same_id-true s.name.opened name.opened (and_parts (same_id s.name.asked name.asked) (same_id s.name.opened name.opened) same).1) ∙ h.0.1
      | inr more ↦ live_opened from name branch last ss h.1 more
    ]

no_session : (from : NodeId) (name : SessionName) (ss : List Session) → ss ≡ [] → is_any_session from name ss ≡ true → ⊥
no_session from name ss none live = false≢true (ap (is_any_session from name) (sym none) ∙ live)

-- ---- lists

opened_holds : (setup : SetupState) (past : List Entry) (ms : List Envelope) (k : ℕ) → AllByRecursion (EnvelopeHolds setup past) ms → BroughtHolds setup past (opened (slice_get ms k))
opened_holds setup past [] k h = tt
opened_holds setup past (m ∷ ms) zero h = h.0
opened_holds setup past (m ∷ ms) (suc k) h = opened_holds setup past ms k h.1

brought_holds : (setup : SetupState) (past : List Entry) (input : Input) → AllByRecursion (EnvelopeHolds setup past) (sent past) → BroughtHolds setup past (brought past input)
brought_holds setup past (Request op key what) h = tt
brought_holds setup past (GiveUp op) h = tt
brought_holds setup past (See other up) h = tt
brought_holds setup past Tick h = tt
brought_holds setup past Crash h = tt
brought_holds setup past Restart h = tt
brought_holds setup past (Deliver number) h =
    cond_both (number == 0) None (slice_get (sent past) (number - 1)) (λ m. BroughtHolds setup past (opened m)) (λ _. tt) (λ _. opened_holds setup past (sent past) (number - 1) h)

sent_by_holds : (setup : SetupState) (past : List Entry) (fs : List Following) (D : OpId → Id → ℕ → Type 0) (from : NodeId) → ((m : Sent) → GotIn fs m → GotHolds setup past from m)
    → (outs : List Output) → AllByRecursion (OutIn fs D) outs → AllByRecursion (EnvelopeHolds setup past) (sent_by from outs)
sent_by_holds setup past fs D from each [] h = tt
sent_by_holds setup past fs D from each (Message to m ∷ outs) h = (each m h.0, sent_by_holds setup past fs D from each outs h.1)
sent_by_holds setup past fs D from each (Dispatched op key branch timestamp ∷ outs) h = sent_by_holds setup past fs D from each outs h.1
sent_by_holds setup past fs D from each (Viewed first results ∷ outs) h = sent_by_holds setup past fs D from each outs h.1
sent_by_holds setup past fs D from each (Answer op outcome ∷ outs) h = sent_by_holds setup past fs D from each outs h.1

pub answer_done : (fs : List Following) (D : OpId → Id → ℕ → Type 0) (outs : List Output) (op : OpId) (reply : Reply) (branch : Id) (at : ℕ) → AllByRecursion (OutIn fs D) outs
    → answer_in outs op ≡ Some (Done reply branch at) → D op branch at
answer_done fs D [] op reply branch at h e = absurd (cc e)
answer_done fs D (Message to m ∷ outs) op reply branch at h e = answer_done fs D outs op reply branch at h.1 e
answer_done fs D (Dispatched q key b timestamp ∷ outs) op reply branch at h e = answer_done fs D outs op reply branch at h.1 e
answer_done fs D (Viewed first results ∷ outs) op reply branch at h e = answer_done fs D outs op reply branch at h.1 e
answer_done fs D (Answer q outcome ∷ outs) op reply branch at h e =
    elim (same_op q op) as (λ c. same_op q op ≡ c → cond c (Some outcome) (answer_in outs op) ≡ Some (Done reply branch at) → D op branch at) [
      | true ↦ λ same f. subst (λ (p : OpId). D p branch at) (same_op-true q op same) (subst (DoneIn D q) (some_inner outcome (Done reply branch at) f) h.0)
      | false ↦ λ _ f. answer_done fs D outs op reply branch at h.1 f
    ] refl e

got_more : (setup : SetupState) → IsSetup setup → (past : List Entry) (e : Entry) → IsRun setup past → (from : NodeId) (m : Sent) → GotHolds setup past from m → GotHolds setup (e ∷ past) from m
got_more setup ok past e run from (message.Raft m) h = tt
got_more setup ok past e run from (message.Say contract ack) h = tt
got_more setup ok past e run from (message.Stream s) h = tt
got_more setup ok past e run from (message.Got g) h = λ at stands key begun. reaches_more setup ok past e run from.0 key g.session.opened at (h at stands key begun)

done_more : (setup : SetupState) → IsSetup setup → (past : List Entry) (e : Entry) → IsRun setup past → (op : OpId) (branch : Id) (at : ℕ) → DoneHeld setup past op branch at → DoneHeld setup (e ∷ past) op branch at
unfolding point_more
done_more setup ok past e run op branch at d =
    record {
      shard = d.shard;
      shard_in = d.shard_in;
      p = point_more setup past e d.shard.region op at d.p;
      counted = d.counted;
      most = d.most;
      each = λ v is. elim (d.each v is) [ inl same ↦ inl same | inr r ↦ inr (reaches_more setup ok past e run v d.p.taken.key branch at r) ];
    }

-- ---- what is decided

-- the shard of a contract
record ShardOf (ss : List ShardConfig) (c : Contract) : Type 0 where
  shard : ShardConfig
  is_in : IsIn ss shard
  region_is : c.region ≡ shard.region
  voters_are : c.voters ≡ shard.voters

shard_of : (place : ℕ) (ss : List ShardConfig) (c : Contract) → IsIn (first_contracts place ss) c → ShardOf ss c
shard_of place [] c i = absurd i
shard_of place (s ∷ ss) c i =
    elim i [
      | inl e ↦ record { shard = s; is_in = inl refl; region_is = ap (λ (d : Contract). d.region) (sym e); voters_are = ap (λ (d : Contract). d.voters) (sym e) }
      | inr j ↦ let r = shard_of (place + 1) ss c j in record { shard = r.shard; is_in = inr r.is_in; region_is = r.region_is; voters_are = r.voters_are }
    ]

reaches_low : (setup : SetupState) (past : List Entry) (v : ℕ) (key : List ℕ) (b : Id) (low at : ℕ) → low ≤ at → Reaches setup past v key b at → Reaches setup past v key b low
reaches_low setup past v key b low at le r = let up = r.up in record { away = r.away; begun = r.begun; to = r.to; version_is = r.version_is; up = omega (arith, le, up) }

-- a server whose kept ack reaches a timestamp came there
kept_reaches : (setup : SetupState) (past : List Entry) (v since at : ℕ) (key : List ℕ) (b : Id) (o : Option KeptAck) → 1 ≤ at
    → ((k : KeptAck) → o ≡ Some k → 1 ≤ k.at → Reaches setup past v key b k.at) → reaches o since at ≡ true → Reaches setup past v key b at
kept_reaches setup past v since at key b None up h r = absurd (false≢true r)
kept_reaches setup past v since at key b (Some k) up h r =
    let le = leb-true at k.at (and_parts (nat_le since k.view) (nat_le at k.at) r).1 in
    reaches_low setup past v key b at k.at le (h k refl (omega (arith, up, le)))

pub decides_held : (setup : SetupState) → IsSetup setup → (past : List Entry) (n life : ℕ) (x : Execution) → IsLed setup n life (lead_of x) → Backed setup.hashes n (Reaches setup past) (HasPoint setup past) x
    → Decides (DoneHeld setup past) x
decides_held setup ok past n life x led k d i is op op_is =
    let w : HasPoint setup past x.contract.region op d.at = (all_at (WaitsIn (HasPoint setup past) x.contract.region) x.dispatch.waiting k.waits d i).of op op_is in
    let s = shard_of 0 setup.shards x.contract led.contract in
    let inside : has_key s.shard.region setup.hashes w.taken.key ≡ true = ap (λ (r : Region). has_key r setup.hashes w.taken.key) (sym s.region_is) ∙ w.inside in
    let leads : s.shard.primary.0 ≡ n = holder_is setup ok s.shard s.is_in (hash_of w.taken.key setup.hashes) w.taken.key inside x.contract n led.contract w.inside led.held in
    let counted : ℕ → Bool = is_counted x.dispatch.acks x.contract.since x.me.0 d.at in
    let most : length x.contract.voters < 2 * count_by counted x.contract.voters =
    ltb-true (length x.contract.voters) (2 * count_by counted x.contract.voters)
    (and_parts (nat_lt (length x.contract.voters) (2 * count_by counted x.contract.voters)) (is_temp_majority (counts_of x.dispatch.acks x.contract x.me.0 d.at).temp) is).0 in
    record {
      shard = s.shard;
      shard_in = s.is_in;
      p = record { taken = w.taken; is_in = w.is_in; op_is = w.op_is; inside = inside; up = w.up };
      counted = counted;
      most = subst (λ (vs : List ℕ). length vs < 2 * count_by counted vs) s.voters_are most;
      each = λ v c. elim (or_cases (v == x.me.0) (reaches (ack_of x.dispatch.acks v) x.contract.since d.at) c) [
        | inl me ↦ inl (eqb-true v x.me.0 me ∙ k.me_is ∙ sym leads)
        | inr far ↦
            inr (kept_reaches setup past v x.contract.since d.at w.taken.key x.branch (ack_of x.dispatch.acks v) w.up (λ kept e up. k.acks v kept e up w.taken.key w.inside) far)
      ];
    }

-- ---- one step

act_me : (step : Stepped) (v : Option Results) → (act_on step v).node.me ≡ step.node.me
act_me step None = refl
act_me step (Some v) = refl

module _ (setup : SetupState) (ok : IsSetup setup) (past : List Entry) (e : Entry) (run : IsRun setup (e ∷ past)) (r : RunHeld setup past) where
  abbrev n : ℕ
  n = e.node.0

  abbrev s : NodeState
  s = state setup n past

  abbrev more : List Entry
  more = e ∷ past

  abbrev step : Stepped
  step = input_row s e.input (brought past e.input)

  abbrev B : ℕ → Execution → Type 0
  B m = Backed setup.hashes m (Reaches setup more) (HasPoint setup more)

  here : state setup n more ≡ (end_step step).node
  here = ap (λ b. cond b (moving setup past e n) s) (eq-eqb n n refl)

  later : (m : ℕ) → AllByRecursion (B m) (state setup m past).executions
  later m =
      backed_more setup.hashes m (Reaches setup past) (Reaches setup more) (HasPoint setup past) (HasPoint setup more)
      (λ v key b at h. reaches_more setup ok past e run.1 v key b at h) (λ region op at h. point_more setup past e region op at h) (state setup m past).executions (r.nodes m)

  ours : (from : NodeId) (m : Sent) → GotHolds setup past from m → Ours setup.hashes n (Reaches setup more) (HasPoint setup more) s.executions from m
  ours from (message.Raft m) h = tt
  ours from (message.Say contract ack) h = tt
  ours from (message.Stream t) h = tt
  ours from (message.Got g) h = λ x i live at stands key has.
      let k : Runs setup (points past) x = all_at (Runs setup (points past)) s.executions ((run_kept setup ok past run.1).nodes n).runs x i in
      let opened_is : g.session.opened ≡ x.branch = live_opened from g.session x.branch x.last x.sessions k.sessions live in
      elim k.first [
        | inl none ↦ absurd (no_session from g.session x.sessions none live)
        | inr first ↦
            subst (λ (b : Id). Reaches setup more from.0 key b at) opened_is
            (reaches_more setup ok past e run.1 from.0 key g.session.opened at (h at stands key (first.0 key has ∙ ap Some (sym opened_is))))
      ]

  brings : (b : Option Brought) → BroughtHolds setup past b → Brings setup.hashes n (Reaches setup more) (HasPoint setup more) s.executions b
  brings None h = tt
  brings (Some b) h = ours b.from b.message h

  news : News setup.hashes n (Reaches setup more) (HasPoint setup more) (points_of e.input step.outs)
  news q i region has at up =
      let these : points_of e.input e.outputs ≡ points_of e.input step.outs = ap (points_of e.input) run.0.outputs ∙ end_points_of e.input step in
      record {
        taken = q;
        is_in = IsIn-right (points past) (points_of e.input e.outputs) q (subst (λ (l : List Point). IsIn l q) (sym these) i);
        op_is = refl;
        inside = has;
        up = up;
      }

  pub acted : AllByRecursion (Backed setup.hashes e.node.0 (Reaches setup (e ∷ past)) (HasPoint setup (e ∷ past))) (act step).node.executions
  acted =
      let before = run_roles setup ok past run.1 n in
      let after = run_roles setup ok more run n in
      let me : step.node.me.0 ≡ n =
      ap (λ (m : NodeId). m.0) (sym (act_me step (viewed step.node.log)) ∙ ap (λ (t : NodeState). t.me) (sym here) ∙ after.me_is) in
      act_backed setup.hashes n (Reaches setup more) (HasPoint setup more) step (viewed step.node.log) me
      (row_backed setup.hashes n (Reaches setup more) (HasPoint setup more) s e.input (brought past e.input) (ap (λ (t : SetupState). t.hashes) before.of)
      (brings (brought past e.input) (brought_holds setup past e.input r.told)) news (later n))

  ended : AllByRecursion (B n) (moving setup past e n).executions
  ended = decide_backed setup.hashes n (Reaches setup more) (HasPoint setup more) (act step).node.executions acted

  deciding : AllByRecursion (Decides (DoneHeld setup more)) (act step).node.executions
  deciding =
      let roles = (run_roles setup ok more run n).roles in
      let same : kept (state setup n more) ≡ kept (act step).node = ap kept here ∙ ends_kept step in
      let all : Roles setup n (kept (act step).node) = subst (Roles setup n) same roles in
      all_from (Decides (DoneHeld setup more)) (act step).node.executions (λ x i.
      decides_held setup ok more n (kept (act step).node).life x
      (all_at (IsLed setup n (kept (act step).node).life) (leads_of (act step).node.executions) all.leads (lead_of x) (leads_in (act step).node.executions x i))
      (all_at (B n) (act step).node.executions acted x i))

  tells : AllByRecursion (OutIn (state setup n more).followings (DoneHeld setup more)) e.outputs
  tells =
      subst (λ (outs : List Output). AllByRecursion (OutIn (state setup n more).followings (DoneHeld setup more)) outs) (sym run.0.outputs)
      (subst (λ (t : NodeState). AllByRecursion (OutIn t.followings (DoneHeld setup more)) (end_step step).outs) (sym here)
      (step_tell (DoneHeld setup more) s e.input (brought past e.input) deciding))

  got_holds : (m : Sent) → GotIn (state setup n more).followings m → GotHolds setup more e.node m
  got_holds (message.Raft m) h = tt
  got_holds (message.Say contract ack) h = tt
  got_holds (message.Stream t) h = tt
  got_holds (message.Got g) h = λ at stands key begun.
      let t : NodeState = state setup n more in
      let f : Following = h.0 in
      let k : Follows (Away setup n) setup.hashes t.versions f = all_at (Follows (Away setup n) setup.hashes t.versions) t.followings ((run_kept setup ok more run).nodes n).follows f h.1 in
      let opened_is : g.session.opened ≡ f.branch = ap (λ (name : SessionName). name.opened) h.2 ∙ k.opened in
      let has = (all_at (Covers setup) t.followings (run_covers setup more n) f h.1).has key (begun ∙ ap Some opened_is) in
      let there : f.position ≡ at = some_inner f.position at (sym h.3 ∙ stands) in
      record {
        away = k.away key has;
        begun = begun;
        to = f.position;
        version_is = k.stands key has ∙ ap (λ (b : Id). Some (point b f.position)) (sym opened_is);
        up = omega (arith, there);
      }

  pub held_more : RunHeld setup more
  held_more =
      record {
        told =
            all_append (EnvelopeHolds setup more) (sent past) (sent_by e.node e.outputs)
            (all_weaker (EnvelopeHolds setup past) (EnvelopeHolds setup more) (λ m. got_more setup ok past e run.1 m.from m.message) (sent past) r.told)
            (sent_by_holds setup more (state setup n more).followings (DoneHeld setup more) e.node got_holds e.outputs tells);
        nodes = λ m.
            cond_both (e.node.0 == m) (moving setup past e m) (state setup m past) (λ (t : NodeState). AllByRecursion (B m) t.executions)
            (λ same. subst (λ i. AllByRecursion (B i) (moving setup past e i).executions) (eqb-true e.node.0 m same) ended) (λ _. later m);
        done = λ op reply branch at is.
            elim (answer past op) as (λ o. answer past op ≡ o → or_else o (answer_in e.outputs op) ≡ Some (Done reply branch at) → DoneHeld setup more op branch at) [
              | Some outcome ↦ λ old f. done_more setup ok past e run.1 op branch at (r.done op reply branch at (old ∙ f))
              | None ↦ λ _ f. answer_done (state setup n more).followings (DoneHeld setup more) e.outputs op reply branch at tells f
            ] refl is;
      }

pub run_held : (setup : SetupState) → IsSetup setup → (past : List Entry) → IsRun setup past → RunHeld setup past
run_held setup ok [] run = record { told = tt; nodes = λ n. begin_backed setup n 0 setup.shards; done = λ op reply branch at is. absurd (cc is) }
run_held setup ok (e ∷ past) run = held_more setup ok past e run (run_held setup ok past run.1)

-- ---- what the law says

counts_one : (b : Bool) (t : ℕ) → b ≡ true → 1 ≤ cond b 1 0 + t
counts_one true t e = omega arith
counts_one false t e = absurd (false≢true e)

some_times : (ps : List Point) (p : Point) → IsIn ps p → 1 ≤ point_times ps p.op
some_times [] p i = absurd i
some_times (x ∷ ps) p i =
    elim i [
      | inl e ↦ counts_one (same_op x.op p.op) (point_times ps p.op) (ap (λ (y : Point). same_op y.op p.op) e ∙ same_op-refl p.op)
      | inr j ↦ let rest = some_times ps p j in omega (arith, rest)
    ]

-- an operation that took one point alone
pub one_point : (ps : List Point) (p q : Point) → point_times ps q.op ≤ 1 → IsIn ps p → IsIn ps q → p.op ≡ q.op → p ≡ q
one_point [] p q few i j same = absurd i
one_point (x ∷ ps) p q few i j same =
    elim i [
      | inl e ↦ elim j [
        | inl f ↦ sym e ∙ f
        | inr m ↦
            let rest = some_times ps q m in
            let first : same_op x.op q.op ≡ true = ap (λ (y : Point). same_op y.op q.op) e ∙ ap (λ o. same_op o q.op) same ∙ same_op-refl q.op in
            absurd (twice (same_op x.op q.op) (point_times ps q.op) first few rest)
      ]
      | inr k ↦ elim j [
        | inl f ↦
            let rest : 1 ≤ point_times ps q.op = subst (λ o. 1 ≤ point_times ps o) same (some_times ps p k) in
            let first : same_op x.op q.op ≡ true = ap (λ (y : Point). same_op y.op q.op) f ∙ same_op-refl q.op in
            absurd (twice (same_op x.op q.op) (point_times ps q.op) first few rest)
        | inr m ↦ one_point ps p q (omega (arith, few)) k m same
      ]
    ]
  where
    twice : (b : Bool) (t : ℕ) → b ≡ true → cond b 1 0 + t ≤ 1 → 1 ≤ t → ⊥
    twice true t e few some = omega (arith, few, some)
    twice false t e few some = false≢true e

-- the node that has a shard of a pair as its primary
leads_there : (ss : List ShardConfig) (shard : ShardConfig) (h : ℕ) (k : List ℕ) → IsIn ss shard → in_region shard.region h k ≡ true → 1 ≤ led shard.primary.0 ss h k
leads_there [] shard h k i inside = absurd i
leads_there (s ∷ ss) shard h k i inside =
    elim i [
      | inl e ↦
          counts_one (is_led shard.primary.0 s && in_region s.region h k) (led shard.primary.0 ss h k)
          (ap (λ (t : ShardConfig). is_led shard.primary.0 t && in_region t.region h k) e ∙ ap (λ b. b && in_region shard.region h k) (eq-eqb shard.primary.0 shard.primary.0 refl) ∙ inside)
      | inr j ↦ let rest = leads_there ss shard h k j inside in omega (arith, rest)
    ]

pub done_held : (setup : SetupState) → IsSetup setup → (past : List Entry) → IsRun setup past → (q : Point) → IsDoneAt past q → (shard : ShardConfig) → IsIn setup.shards shard → has_key shard.region setup.hashes q.key ≡ true
    → length shard.voters < 2 * count_by (holds setup past q) shard.voters
done_held setup ok past run q d shard i inside =
    let g : ℕ = hash_of q.key setup.hashes in
    let held : DoneHeld setup past q.op q.branch q.timestamp = (run_held setup ok past run).done q.op d.reply q.branch q.timestamp d.answered in
    let once = (History-along past (keyed_facts setup ok past run).0).once q.op in
    let same : held.p.taken ≡ q = one_point (points past) held.p.taken q once held.p.is_in d.taken held.p.op_is in
    let own : in_region held.shard.region g q.key ≡ true = subst (λ (p : Point). has_key held.shard.region setup.hashes p.key ≡ true) same held.p.inside in
    let shard_is : held.shard ≡ shard = one_of_few shard_region setup.shards g q.key (one_shard setup ok g q.key) held.shard shard held.shard_in i own inside in
    let most : length shard.voters < 2 * count_by held.counted shard.voters = subst (λ (t : ShardConfig). length t.voters < 2 * count_by held.counted t.voters) shard_is held.most in
    let passes = more_pass held.counted (holds setup past q) shard.voters (λ v is.
    elim (held.each v is) [
      | inl leads ↦
          led_holds setup ok past run v q d.taken
          (subst (λ m. 1 ≤ led m setup.shards g q.key) (ap (λ (t : ShardConfig). t.primary.0) (sym shard_is) ∙ sym leads) (leads_there setup.shards shard g q.key i inside))
      | inr r ↦ reached_holds setup ok past run v q (subst (λ (p : Point). Reaches setup past v p.key q.branch q.timestamp) same r)
    ]) in
    omega (arith, most, passes)
