-- In every run the logs of nodes hold nothing but what was asked for: so contracts stay, and each node leads in those that have
-- it as their primary.
use Rattle.std.proofs.Common.{◌≡◌, ◌∙◌, ℕ, zero, suc, ◌==◌, ◌-◌, ◌≤◌, true, List, [], ◌∷◌, ◌++◌, length, slice_get, Option, None, refl, sym, ap, subst, arith}
use Rattle.std.specs.List.{AllByRecursion}
use Rattle.std.proofs.lemmas.Bool.{cond_both, eqb-true}
use Rattle.log_runs.specs.runs.region_map.declared.id.Id.{Id}
use Rattle.log_runs.specs.runs.region_map.declared.id.NodeId.{NodeId}
use Rattle.log_runs.specs.runs.region_map.declared.region.Region.{Region}
use Rattle.log_runs.specs.runs.region_map.Equal.{same_id}
use Rattle.log_runs.specs.runs.region_map.Nodes.{node_id}
use Rattle.log_runs.specs.runs.region_map.Maps.{Pieced}
use Rattle.log_runs.specs.runs.region_map.Made.{mask_map}
use Rattle.log_runs.specs.runs.branch_history.declared.version.Version.{Version}
use Rattle.log_runs.specs.runs.branch_history.Equal.{same_version}
use Rattle.log_runs.proofs.runs.branch_history.PathLaws.{id_same}
use Rattle.log_runs.specs.runs.raft_vote.declared.log.LogEntry.{LogEntry}
use Rattle.log_runs.specs.runs.raft_vote.declared.message.RaftMessage.{RaftMessage}
use Rattle.log_runs.specs.runs.raft_vote.declared.message.RaftMessage.TheVariants.{VoteAsk, VoteSay, Append, AppendSay}
use Rattle.log_runs.specs.raft_laws.World.{World}
use Rattle.log_runs.specs.runs.contract_types.declared.ack.Ack.{Ack}
use Rattle.log_runs.specs.runs.contract_types.declared.ack.Ack.TheVariants.{NeedBranch, InProgress, Ready, NeedPrimary, Backfilling, Streaming}
use Rattle.log_runs.specs.runs.contract_types.declared.change.Change.{Change}
use Rattle.log_runs.specs.runs.contract_types.declared.change.Change.TheVariants.{Noop, SetConfig, NewContracts, RegisterBranch}
use Rattle.log_runs.specs.runs.contract_types.declared.contract.Contract.{Contract}
use Rattle.log_runs.specs.runs.contract_types.Configs.{ConfigState}
use Rattle.log_runs.specs.runs.contract_types.Setup.{SetupState, IsSetup}
use Rattle.log_runs.specs.runs.contract_types.Tables.{Table, first_contracts}
use Rattle.log_runs.specs.runs.table_apply.Conditions.{is_held_by}
use Rattle.log_runs.specs.runs.table_log.Logs.{table_of}
use Rattle.log_runs.specs.runs.exec_types.declared.message.Message.{Message}
use Rattle.log_runs.specs.runs.exec_types.declared.message.Message.TheVariants as message
use Rattle.log_runs.specs.runs.exec_types.declared.input.Input.{Input}
use Rattle.log_runs.specs.runs.exec_types.declared.input.Input.TheVariants.{Request, GiveUp, See, Tick, Deliver, Crash, Restart}
use Rattle.log_runs.specs.runs.exec_types.declared.output.Output.{Output}
use Rattle.log_runs.specs.runs.primary_exec.declared.asking.Asking.{Asking}
use Rattle.log_runs.specs.runs.node_core.declared.journal.Entry.{Entry}
use Rattle.log_runs.specs.runs.node_core.Starting.{current_of}
use Rattle.log_runs.specs.runs.node_core.Step.{NodeState, node_step, tick_row}
use Rattle.log_runs.specs.runs.declared.envelope.Envelope.{Envelope}
use Rattle.log_runs.specs.runs.Committed.{IsEarlier}
use Rattle.log_runs.specs.runs.Run.{IsStep, IsRun, state, sent, sent_by, message_at, opened, brought}
use Rattle.log_runs.specs.runs.Story.{IsIn}
use Rattle.change_runs.proofs.Asked.{Asked, IsAsked}
use Rattle.log_runs.proofs.LogWorldRuns.{log_world, run_facts, part, journal_past, promises}
use Rattle.log_runs.proofs.step_runs.PointBranches.{all_at, all_weaker, all_append}
use Rattle.log_runs.proofs.step_runs.PointRuns.{points_rise}
use Rattle.change_runs.proofs.AskedRunsLogs.{Each, Carries}
use Rattle.change_runs.proofs.AskedRunsTables.{OnlyRegisters, HasFirst, table_has_first, extended_table, one_of_id}
use Rattle.change_runs.proofs.AskedRunsSteps.{SaysRight, Claims, ClaimsOut, ClaimsSent, ClaimsBrought, AckHolds, AcksHold, MayRegister, TicksRight, prepared, tick_extends, sent_claims, step_holds, Holds, StepHolds}
use Rattle.change_runs.proofs.AskedRunsRoles.{PartsOf, parts_keep, begun_parts}

-- ---- what was asked for stays asked for

pub asked_more : (setup : SetupState) (past : List Entry) (e : Entry) (maker : NodeId) (branch : Id) (region : Region) (based_on : Pieced Id) (origin : Pieced Version)
    → Asked setup past maker branch region based_on origin → Asked setup (e ∷ past) maker branch region based_on origin
asked_more setup past e maker branch region based_on origin a =
    record {
      moment = a.moment;
      earlier = record { later = e ∷ a.earlier.later; is = ap (λ (l : List Entry). e ∷ l) a.earlier.is };
      asking = a.asking;
      is_in = a.is_in;
      branch_is = a.branch_is;
      region_is = a.region_is;
      based = a.based;
      origin_is = a.origin_is;
    }

pub change_more : (setup : SetupState) (past : List Entry) (e : Entry) (c : Change) → IsAsked setup past c → IsAsked setup (e ∷ past) c
change_more setup past e Noop h = tt
change_more setup past e (SetConfig config) h = h
change_more setup past e (NewContracts removed added) h = h
change_more setup past e (RegisterBranch branch region tenure maker based_on origin) h = asked_more setup past e maker branch region based_on origin h

-- what a server asks for under the id of a contract with which the table began
pub record AskedUnder (setup : SetupState) (past : List Entry) (server : NodeId) (id branch : Id) (based_on : Pieced Id) (origin : Pieced Version) : Type 0 where
  pub contract : Contract
  pub known : IsIn (first_contracts 0 setup.shards) contract
  pub id_is : contract.id ≡ id
  pub asked : Asked setup past server branch contract.region based_on origin

under_more : (setup : SetupState) (past : List Entry) (e : Entry) (server : NodeId) (id branch : Id) (based_on : Pieced Id) (origin : Pieced Version)
    → AskedUnder setup past server id branch based_on origin → AskedUnder setup (e ∷ past) server id branch based_on origin
under_more setup past e server id branch based_on origin a =
    record { contract = a.contract; known = a.known; id_is = a.id_is; asked = asked_more setup past e server branch a.contract.region based_on origin a.asked }

-- ---- what holds of all that a run brought about

-- a contract with which the table began has the node as its primary
pub record IsLedBy (setup : SetupState) (n : ℕ) (c : Contract) : Type 0 where
  pub known : IsIn (first_contracts 0 setup.shards) c
  pub held_by : is_held_by c.primary (node_id n) ≡ true

pub record AskedFacts (setup : SetupState) (past : List Entry) : Type 0 where
  pub nodes : (n : ℕ) → Holds (IsAsked setup past) (AskedUnder setup past) (state setup n past)
  pub messages : AllByRecursion (ClaimsSent (IsAsked setup past) (AskedUnder setup past)) (sent past)
  pub parts : (n : ℕ) → PartsOf (IsLedBy setup n) (state setup n past)

module _ (setup : SetupState) (past : List Entry) (e : Entry) where
  abbrev OldP : Change → Type 0
  OldP = IsAsked setup past

  abbrev NewP : Change → Type 0
  NewP = IsAsked setup (e ∷ past)

  abbrev OldR : NodeId → Id → Id → Pieced Id → Pieced Version → Type 0
  OldR = AskedUnder setup past

  abbrev NewR : NodeId → Id → Id → Pieced Id → Pieced Version → Type 0
  NewR = AskedUnder setup (e ∷ past)

  each_more : (log : List (LogEntry Change)) → Each OldP log → Each NewP log
  each_more log h = all_weaker (λ (x : LogEntry Change). OldP x.change) (λ (x : LogEntry Change). NewP x.change) log (λ x p. change_more setup past e x.change p) h

  says_more : (server : NodeId) (id : Id) (ack : Ack) → SaysRight OldP OldR server id ack → SaysRight NewP NewR server id ack
  says_more server id (NeedBranch branch based_on origin) h = under_more setup past e server id branch based_on origin h
  says_more server id InProgress h = tt
  says_more server id Ready h = tt
  says_more server id (NeedPrimary versions) h = tt
  says_more server id Backfilling h = tt
  says_more server id Streaming h = tt

  raft_more : (m : RaftMessage Change) → Carries OldP m → Carries NewP m
  raft_more (VoteAsk term last_term last_index) h = tt
  raft_more (VoteSay term granted) h = tt
  raft_more (Append term prev prev_term entries commit) h = each_more entries h
  raft_more (AppendSay term ok upto) h = tt

  claims_more : (from : NodeId) (m : Message) → Claims OldP OldR from m → Claims NewP NewR from m
  claims_more from (message.Raft m) h = raft_more m h
  claims_more from (message.Say contract ack) h = says_more from contract ack h
  claims_more from (message.Stream stream) h = tt
  claims_more from (message.Got got) h = tt

  node_more : (s : NodeState) → Holds OldP OldR s → Holds NewP NewR s
  node_more s h =
      record {
        log = each_more s.log.raft.log h.log;
        acks = all_weaker (AcksHold OldP OldR) (AcksHold NewP NewR) s.acks
            (λ c k. all_weaker (AckHolds OldP OldR c.contract) (AckHolds NewP NewR c.contract) c.acks (λ a r. says_more a.server c.contract a.ack r) k) h.acks;
      }

  sent_more : AllByRecursion (ClaimsSent OldP OldR) (sent past) → AllByRecursion (ClaimsSent NewP NewR) (sent past)
  sent_more h = all_weaker (ClaimsSent OldP OldR) (ClaimsSent NewP NewR) (sent past) (λ x k. claims_more x.from x.message k) h

-- ---- tables

pub asked_registers : (setup : SetupState) (past : List Entry) (c : Change) → IsAsked setup past c → OnlyRegisters c
asked_registers setup past Noop h = tt
asked_registers setup past (SetConfig config) h = absurd h
asked_registers setup past (NewContracts removed added) h = absurd h
asked_registers setup past (RegisterBranch branch region tenure maker based_on origin) h = tt

pub log_registers : (setup : SetupState) (past : List Entry) (log : List (LogEntry Change)) → Each (IsAsked setup past) log → Each OnlyRegisters log
log_registers setup past log h =
    all_weaker (λ (x : LogEntry Change). IsAsked setup past x.change) (λ (x : LogEntry Change). OnlyRegisters x.change) log (λ x p. asked_registers setup past x.change p) h

module _ (setup : SetupState) (past : List Entry) (run : IsRun setup past) where
  -- a node acts on entries that it has
  pub acted_within : (n : ℕ) → (state setup n past).log.acted ≤ length (state setup n past).log.raft.log
  acted_within n =
      let whole : length past ≤ length past = omega arith in
      let now : part setup past (length past) ≡ log_world setup past = ap (log_world setup) (journal_past past (length past) whole) in
      let within = subst (λ (w : World Change). (w.node n).view ≤ length (w.node n).log) now ((promises setup past run).within (length past) n) in
      omega (arith, within, (run_facts setup past run).caught n)

  pub me_is : (n : ℕ) → (state setup n past).me ≡ node_id n
  me_is n = ap node_id (((points_rise setup past run).1 n).me_is)

  module _ (f : AskedFacts setup past) where
    pub table_first : (n : ℕ) → HasFirst setup (table_of (state setup n past).log)
    table_first n =
        let s = state setup n past in
        subst (λ (c : ConfigState). HasFirst c (table_of s.log)) ((run_facts setup past run).config n)
        (table_has_first s.log.config s.log.raft.log s.log.acted (log_registers setup past s.log.raft.log (f.nodes n).log))

-- ---- messages that come

brought_claims : (P : Change → Type 0) (R : NodeId → Id → Id → Pieced Id → Pieced Version → Type 0) (past : List Entry) (input : Input)
    → AllByRecursion (ClaimsSent P R) (sent past) → ClaimsBrought P R (brought past input)
brought_claims P R past (Request op key what) h = tt
brought_claims P R past (GiveUp op) h = tt
brought_claims P R past (See other up) h = tt
brought_claims P R past Tick h = tt
brought_claims P R past (Deliver number) h = at_number
  where
    at_place : (xs : List Envelope) (place : ℕ) → AllByRecursion (ClaimsSent P R) xs → ClaimsBrought P R (opened (slice_get xs place))
    at_place [] place k = tt
    at_place (x ∷ xs) zero k = k.0
    at_place (x ∷ xs) (suc place) k = at_place xs place k.1

    at_number : ClaimsBrought P R (opened (message_at past number))
    at_number =
        cond_both (number == 0) None (slice_get (sent past) (number - 1)) (λ (o : Option Envelope). ClaimsBrought P R (opened o)) (λ _. tt) (λ _. at_place (sent past) (number - 1) h)
brought_claims P R past Crash h = tt
brought_claims P R past Restart h = tt

-- ---- one entry more

module _ (setup : SetupState) (past : List Entry) (e : Entry) (run : IsRun setup past) (f : AskedFacts setup past) where
  abbrev before : NodeState
  before = state setup e.node.0 past

  abbrev P : Change → Type 0
  P = IsAsked setup (e ∷ past)

  abbrev R : NodeId → Id → Id → Pieced Id → Pieced Version → Type 0
  R = AskedUnder setup (e ∷ past)

  own : Holds P R before
  own = node_more setup past e before (f.nodes e.node.0)

  -- a leader proposes what was asked for
  may_register : MayRegister P R (table_of before.log).contracts
  may_register c i server branch based_on origin asked =
      let known : IsIn (first_contracts 0 setup.shards) c = subst (λ (cs : List Contract). IsIn cs c) (table_first setup past run f e.node.0).contracts_are i in
      let same : asked.contract ≡ c = one_of_id 0 setup.shards asked.contract c asked.known known asked.id_is in
      subst (λ (d : Contract). Asked setup (e ∷ past) server branch d.region based_on origin) same asked.asked

  ticks_right : TicksRight P R tt e.node before own
  ticks_right c i a j same =
      let t = (tick_row before).node in
      let p = prepared P R tt e.node before own may_register in
      let table : table_of t.log ≡ table_of before.log =
      extended_table before.log t.log (tick_extends P R tt e.node before own may_register) (acted_within setup past run e.node.0) in
      let here : IsIn before.asking a = subst (λ (l : List Asking). IsIn l a) p.asking j in
      let led : IsLedBy setup e.node.0 a.contract = all_at (λ (b : Asking). IsLedBy setup e.node.0 b.contract) before.asking (f.parts e.node.0).asking_are a here in
      record {
        contract = a.contract;
        known = led.known;
        id_is = id_same a.contract.id c.id same;
        asked =
            record {
              moment = past;
              earlier = record { later = e ∷ []; is = refl };
              asking = a;
              is_in = here;
              branch_is = refl;
              region_is = refl;
              based = ap (λ (k : Table). mask_map same_id a.contract.region (current_of k)) table;
              origin_is = ap (λ (v : Pieced Version). mask_map same_version a.contract.region v) p.versions;
            };
      }

  entry_holds : StepHolds P R e.node (node_step before e.input (brought past e.input))
  entry_holds =
      step_holds P R tt e.node before own e.input (brought past e.input) (brought_claims P R past e.input (sent_more setup past e f.messages)) may_register ticks_right

  entry_parts : PartsOf (IsLedBy setup e.node.0) (node_step before e.input (brought past e.input)).node
  entry_parts =
      parts_keep (IsLedBy setup e.node.0) before (f.parts e.node.0) e.input (brought past e.input)
      (λ c i h. record {
        known = subst (λ (cs : List Contract). IsIn cs c) (table_first setup past run f e.node.0).contracts_are i;
        held_by = ap (λ (m : NodeId). is_held_by c.primary m) (sym (me_is setup past run e.node.0)) ∙ h;
      })

  facts_next : IsStep setup past e → AskedFacts setup (e ∷ past)
  facts_next step =
      let next : ℕ → NodeState = λ n. (node_step (state setup n past) e.input (brought past e.input)).node in
      record {
        nodes = λ n.
            cond_both (e.node.0 == n) (next n) (state setup n past) (Holds P R)
            (λ same. subst (λ (k : ℕ). Holds P R (next k)) (eqb-true e.node.0 n same) entry_holds.node)
            (λ _. node_more setup past e (state setup n past) (f.nodes n));
        messages =
            all_append (ClaimsSent P R) (sent past) (sent_by e.node e.outputs) (sent_more setup past e f.messages)
            (sent_claims P R e.node e.outputs (subst (λ (outs : List Output). AllByRecursion (ClaimsOut P R e.node) outs) (sym step.outputs) entry_holds.outs));
        parts = λ n.
            cond_both (e.node.0 == n) (next n) (state setup n past) (PartsOf (IsLedBy setup n))
            (λ same. subst (λ (k : ℕ). PartsOf (IsLedBy setup k) (next k)) (eqb-true e.node.0 n same) entry_parts)
            (λ _. f.parts n);
      }

-- ---- every run

pub asked_facts : (setup : SetupState) (past : List Entry) → IsRun setup past → AskedFacts setup past
asked_facts setup [] h =
    record {
      nodes = λ n. record { log = tt; acks = tt };
      messages = tt;
      parts = λ n. record { asking_are = tt; executions_are = begun_parts (IsLedBy setup n) n 0 setup.shards (λ c i held. record { known = i; held_by = held }) };
    }
asked_facts setup (e ∷ past) h = facts_next setup past e h.1 (asked_facts setup past h.1) h.0

-- the log of a node holds nothing but what was asked for before
pub registered_asked : (setup : SetupState) → IsSetup setup → (past : List Entry) → IsRun setup past → (n : ℕ) → AllByRecursion (λ (e : LogEntry Change). IsAsked setup past e.change) (state setup n past).log.raft.log
registered_asked setup ok past h n = ((asked_facts setup past h).nodes n).log

pub contracts_stay : (setup : SetupState) → IsSetup setup → (past : List Entry) → IsRun setup past → (n : ℕ) → (table_of (state setup n past).log).contracts ≡ first_contracts 0 setup.shards
contracts_stay setup ok past h n = (table_first setup past h (asked_facts setup past h) n).contracts_are

pub config_stays : (setup : SetupState) → IsSetup setup → (past : List Entry) → IsRun setup past → (n : ℕ) → (table_of (state setup n past).log).config ≡ setup
config_stays setup ok past h n = (table_first setup past h (asked_facts setup past h) n).config_is

-- ---- what was asked for, at whatever moment

run_before : (setup : SetupState) (later p : List Entry) → IsRun setup (later ++ p) → IsRun setup p
run_before setup [] p h = h
run_before setup (e ∷ later) p h = run_before setup later p h.1

-- an earlier journal of a run is one
pub earlier_run : (setup : SetupState) (past p : List Entry) → IsRun setup past → IsEarlier past p → IsRun setup p
earlier_run setup past p h early = run_before setup early.later p (subst (IsRun setup) early.is h)

-- the region is that of a contract that has the one who asked as its primary
pub record AskedIn (setup : SetupState) (maker : NodeId) (region : Region) : Type 0 where
  pub contract : Contract
  pub led : IsLedBy setup maker.0 contract
  pub region_is : contract.region ≡ region

pub asked_in : (setup : SetupState) → IsSetup setup → (past : List Entry) → IsRun setup past → (maker : NodeId) (branch : Id) (region : Region) (based_on : Pieced Id) (origin : Pieced Version)
    → Asked setup past maker branch region based_on origin → AskedIn setup maker region
asked_in setup ok past h maker branch region based_on origin a =
    let parts = (asked_facts setup a.moment (earlier_run setup past a.moment h a.earlier)).parts maker.0 in
    record {
      contract = a.asking.contract;
      led = all_at (λ (b : Asking). IsLedBy setup maker.0 b.contract) (state setup maker.0 a.moment).asking parts.asking_are a.asking a.is_in;
      region_is = a.region_is;
    }
