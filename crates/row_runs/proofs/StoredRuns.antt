-- In every run each key has, at each node, the row that the path of its version leaves.
use Rattle.std.proofs.Common.{◌≡◌, ℕ, zero, suc, ◌+◌, ◌-◌, ◌≤◌, ◌<◌, ◌==◌, max, min, true, false, List, [], ◌∷◌, ◌++◌, map, Option, Some, None, inl, inr, refl, sym, ap, ◌∙◌, subst, arith, append-nil, sum}
use Rattle.std.proofs.Math.Nat.{mod-lt}
use Rattle.std.proofs.lemmas.Bool.{cond_both, eqb-true, false_from_ne_true}
use Rattle.std.specs.Prelude.{slice_get}
use Rattle.std.specs.List.{AllByRecursion, flat_map}
use Rattle.path_runs.specs.runs.region_map.declared.id.Id.{Id}
use Rattle.path_runs.specs.runs.region_map.declared.id.NodeId.{NodeId}
use Rattle.path_runs.specs.runs.region_map.Keys.{hash_of}
use Rattle.path_runs.specs.runs.region_map.Maps.{Pieced, value_at}
use Rattle.path_runs.specs.runs.region_map.Nodes.{node_id, has}
use Rattle.path_runs.specs.runs.raft_vote.declared.message.RaftMessage.{RaftMessage}
use Rattle.path_runs.specs.runs.raft_node.declared.input.RaftInput.TheVariants as raft
use Rattle.path_runs.specs.runs.branch_history.declared.version.Version.{Version}
use Rattle.path_runs.specs.runs.register_laws.declared.operation.OpId.{OpId}
use Rattle.path_runs.specs.runs.register_laws.declared.operation.Op.{Op}
use Rattle.path_runs.specs.runs.contract_types.declared.ack.Ack.{Ack}
use Rattle.path_runs.specs.runs.contract_types.declared.change.Change.{Change}
use Rattle.path_runs.specs.runs.contract_types.declared.contract.Contract.{Contract}
use Rattle.path_runs.specs.runs.contract_types.declared.contract.Holder.{Holder}
use Rattle.path_runs.specs.runs.contract_types.declared.results.Viewed.{Viewed as Results}
use Rattle.path_runs.specs.runs.contract_types.Setup.{SetupState, IsSetup}
use Rattle.path_runs.specs.runs.contract_types.Tables.{Table}
use Rattle.path_runs.specs.runs.contract_types.Tilings.{holders}
use Rattle.path_runs.specs.runs.table_log.Logs.{LogStepped, table_of, caught_up, viewed, log_step}
use Rattle.path_runs.specs.runs.coordinator.Acks.{with_ack}
use Rattle.path_runs.specs.runs.coordinator.Proposals.{proposals_of, after_proposals}
use Rattle.path_runs.specs.runs.exec_types.declared.input.Input.{Input}
use Rattle.path_runs.specs.runs.exec_types.declared.input.Input.TheVariants.{Request, GiveUp, See, Tick, Deliver, Crash, Restart}
use Rattle.path_runs.specs.runs.exec_types.declared.message.Message.{Message as Sent}
use Rattle.path_runs.specs.runs.exec_types.declared.message.Message.TheVariants as message
use Rattle.path_runs.specs.runs.exec_types.declared.message.SessionName.{SessionName}
use Rattle.path_runs.specs.runs.exec_types.declared.message.Got.{Got}
use Rattle.path_runs.specs.runs.exec_types.declared.outcome.Outcome.TheVariants.{NoMajority}
use Rattle.path_runs.specs.runs.exec_types.declared.output.Output.{Output}
use Rattle.path_runs.specs.runs.exec_types.declared.output.Output.TheVariants.{Message, Dispatched, Viewed, Answer}
use Rattle.path_runs.specs.runs.store_api.Rows.{Rows, has_key, row_of}
use Rattle.path_runs.specs.runs.store_api.Versions.{point, version_of, replaced_map}
use Rattle.path_runs.proofs.runs.store_api.VersionMaps.{advanced_map_hashes, replaced_map_hashes}
use Rattle.path_runs.specs.runs.write_dispatch.declared.decided.Decided.{Decided}
use Rattle.path_runs.specs.runs.write_dispatch.Dispatch.{counts_of, is_decided, pending_of}
use Rattle.path_runs.specs.runs.secondary_exec.declared.following.Following.{Following}
use Rattle.path_runs.specs.runs.secondary_exec.Stream.{acknowledgement}
use Rattle.path_runs.specs.runs.primary_exec.declared.asking.Asking.{Asking}
use Rattle.path_runs.specs.runs.primary_exec.declared.session.Session.{Session}
use Rattle.path_runs.specs.runs.primary_exec.Execution.{Execution, is_live, is_session, with_acked, with_stands, got_row, answers, decides, decided, decided_answers, decide_outs, given_up, give_up_outs, give_up_row, started, started_versions}
use Rattle.path_runs.specs.runs.node_core.declared.node.Brought.{Brought}
use Rattle.path_runs.specs.runs.node_core.declared.journal.Entry.{Entry}
use Rattle.path_runs.specs.runs.node_core.Parts.{is_for, give_up_all_outs, decide_all_outs}
use Rattle.path_runs.specs.runs.node_core.Saying.{Roles as Said, is_following_under, says_to, ack_under, acknowledgements_to, acknowledges, says_under, says_all}
use Rattle.path_runs.specs.runs.node_core.Starting.{Starting, current_of, due, start_one, start_each}
use Rattle.path_runs.specs.runs.node_core.Step.{NodeState, Stepped, silent, request_row, give_up, take_got, leads, coordinates, propose_all, raft_outs, with_proposals, roles_of, says_now, with_log, tick_row, message_row, is_well_formed, brought_row, input_row, act_on, act, decide_step, end_step, node_step}
use Rattle.path_runs.specs.runs.declared.envelope.Envelope.{Envelope}
use Rattle.path_runs.specs.runs.Rising.{AreRising}
use Rattle.path_runs.specs.runs.Run.{sent_by, sent, opened, brought, state, IsRun}
use Rattle.path_runs.specs.runs.Story.{Point, IsIn, points_in, points_of, points}
use Rattle.path_runs.proofs.change_runs.AskedRuns.{contracts_stay}
use Rattle.path_runs.proofs.step_runs.Begun.{begun_branch}
use Rattle.path_runs.proofs.key_runs.KeyedRoles.{asking_region, one_role, askings_led}
use Rattle.path_runs.proofs.key_runs.KeyedRuns.{some_hash}
use Rattle.path_runs.proofs.key_runs.KeyedStarts.{placed_all, started_outside}
use Rattle.path_runs.proofs.step_runs.EndPoints.{end_points_of}
use Rattle.path_runs.proofs.lead_runs.LedRoles.{IsAsking, Roles, asked_from, roles_row, some_there}
use Rattle.path_runs.proofs.lead_runs.LedRows.{kept}
use Rattle.path_runs.proofs.lead_runs.LedRuns.{row_is, run_roles}
use Rattle.path_runs.proofs.log_runs.LogWorldRuns.{moving}
use Rattle.path_runs.proofs.step_runs.PointBranches.{all_at}
use Rattle.path_runs.proofs.step_runs.PointRuns.{rise}
use Rattle.path_runs.proofs.step_runs.Setups.{exec_region, following_region}
use Rattle.path_runs.proofs.change_runs.StoredPaths.{row_at, IsAbove, last_above, Grows, grows_same}
use Rattle.row_runs.proofs.StoredFirsts.{keyed_node, first_row}
use Rattle.row_runs.proofs.StoredSteps.{all_step, all_weaker, all_append, IsSessionOf, Runs, NodeKept, SentTells, sent_grown, OutTells, other_kept, follows_outside, request_kept, stream_kept}
use Rattle.row_runs.proofs.StoredSetups.{Away, begin_kept}

-- ---- what is told of no point

module _ (ps : List Point) where
  answers_tell : (branch : Id) (d : Decided) (op : Option OpId) (rest : List Output) → AllByRecursion (OutTells ps) rest → AllByRecursion (OutTells ps) (answers branch d op ++ rest)
  answers_tell branch d None rest h = h
  answers_tell branch d (Some op) rest h = (tt, h)

  decided_tell : (x : Execution) (ds : List Decided) → AllByRecursion (OutTells ps) (decided_answers x ds)
  decided_tell x [] = tt
  decided_tell x (d ∷ ds) =
      cond_both (decides x d) (answers x.branch d d.op ++ decided_answers x ds) [] (AllByRecursion (OutTells ps)) (λ _. answers_tell x.branch d d.op (decided_answers x ds) (decided_tell x ds)) (λ _. tt)

  all_decided_tell : (xs : List Execution) → AllByRecursion (OutTells ps) (decide_all_outs xs)
  all_decided_tell [] = tt
  all_decided_tell (x ∷ xs) = all_append (OutTells ps) (decide_outs x) (decide_all_outs xs) (decided_tell x x.dispatch.waiting) (all_decided_tell xs)

  given_up_tell : (x : Execution) (op : OpId) (d : Option Decided) → AllByRecursion (OutTells ps) (given_up x.dispatch.acks x.contract x.me.0 op d)
  given_up_tell x op None = tt
  given_up_tell x op (Some d) =
      cond_both (is_decided x.dispatch.acks x.contract x.me.0 d.at) [] (Answer op (NoMajority (counts_of x.dispatch.acks x.contract x.me.0 d.at)) ∷ []) (AllByRecursion (OutTells ps)) (λ _. tt) (λ _. (tt, tt))

  all_given_up_tell : (xs : List Execution) (op : OpId) → AllByRecursion (OutTells ps) (give_up_all_outs xs op)
  all_given_up_tell [] op = tt
  all_given_up_tell (x ∷ xs) op = all_append (OutTells ps) (give_up_outs x op) (give_up_all_outs xs op) (given_up_tell x op (pending_of x.dispatch.waiting op)) (all_given_up_tell xs op)

  raft_tell : (xs : List (NodeId × RaftMessage Change)) → AllByRecursion (OutTells ps) (raft_outs xs)
  raft_tell [] = tt
  raft_tell (x ∷ xs) = (tt, raft_tell xs)

  flat_tell : {X : Type 0} (f : X → List Output) → ((x : X) → AllByRecursion (OutTells ps) (f x)) → (xs : List X) → AllByRecursion (OutTells ps) (flat_map f xs)
  flat_tell f each [] = tt
  flat_tell f each (x ∷ xs) = all_append (OutTells ps) (f x) (flat_map f xs) (each x) (flat_tell f each xs)

  says_tell : (to : Option NodeId) (c : Contract) (ack : Option Ack) → AllByRecursion (OutTells ps) (says_to to c ack)
  says_tell None c ack = tt
  says_tell (Some leader) c None = tt
  says_tell (Some leader) c (Some ack) = (tt, tt)

  acknowledgements_tell : (c : Contract) (primary : NodeId) (view : ℕ) (fs : List Following) → AllByRecursion (OutTells ps) (acknowledgements_to c primary view fs)
  acknowledgements_tell c primary view [] = tt
  acknowledgements_tell c primary view (f ∷ fs) =
      cond_both (is_following_under c primary f) (acknowledgement f view ∷ acknowledgements_to c primary view fs) (acknowledgements_to c primary view fs) (AllByRecursion (OutTells ps))
      (λ _. (tt, acknowledgements_tell c primary view fs)) (λ _. acknowledgements_tell c primary view fs)

  acknowledges_tell : (c : Contract) (view : ℕ) (fs : List Following) (h : Option Holder) → AllByRecursion (OutTells ps) (acknowledges c view fs h)
  acknowledges_tell c view fs None = tt
  acknowledges_tell c view fs (Some h) = acknowledgements_tell c h.server view fs

  said_tell : (me : NodeId) (leader : Option NodeId) (current : Pieced Id) (versions : Pieced Version) (view : ℕ) (r : Said) (contracts : List Contract)
      → AllByRecursion (OutTells ps) (says_all me leader current versions view r contracts)
  said_tell me leader current versions view r contracts =
      flat_tell (says_under me leader current versions view r)
      (λ c.
      let said = says_to leader c (ack_under me current versions r c c.primary) in
      let acks = acknowledges c view r.followings c.primary in
      cond_both (has c.replicas me.0) (said ++ acks) [] (AllByRecursion (OutTells ps))
      (λ _. all_append (OutTells ps) said acks (says_tell leader c (ack_under me current versions r c c.primary)) (acknowledges_tell c view r.followings c.primary)) (λ _. tt))
      contracts

-- ---- the rows of a step

-- what is kept at a node in a state
abbrev pub StateKept : SetupState → List Point → ℕ → NodeState → Type 0
StateKept setup ps n s = NodeKept (Away setup n) setup ps s.rows s.versions s.executions s.followings

-- what is kept after a step, in a history that the step's points are in
record StepKept (setup : SetupState) (ps more : List Point) (n : ℕ) (step : Stepped) : Type 0 where
  grows : Grows ps more
  state : StateKept setup more n step.node
  tells : AllByRecursion (OutTells more) step.outs

-- executions whose pending operations or acknowledgements alone change
changed : (setup : SetupState) (ps : List Point) (n : ℕ) (s : NodeState) (f : Execution → Execution) → ((x : Execution) → Runs setup ps x → Runs setup ps (f x))
    → StateKept setup ps n s → StateKept setup ps n (record s { executions = map f s.executions })
changed setup ps n s f keeps h = record { kept = h.kept; runs = all_step (Runs setup ps) (Runs setup ps) f keeps s.executions h.runs; follows = h.follows }

still_kept : (setup : SetupState) (ps : List Point) (n : ℕ) (step : Stepped) → StateKept setup ps n step.node → AllByRecursion (OutTells ps) step.outs → StepKept setup ps ps n step
still_kept setup ps n step h t = record { grows = grows_same ps; state = h; tells = t }

got_cases : (P : Execution → Type 0) (x : Execution) (from : NodeId) (got : Got) → P (record x { sessions = map (with_acked from got.session got.upto) x.sessions; dispatch = with_stands x.dispatch from got got.stands }) → P x
    → P (got_row x from got)
got_cases P x from got taken' quiet' =
    cond_both (is_live x from got.session) (record x { sessions = map (with_acked from got.session got.upto) x.sessions; dispatch = with_stands x.dispatch from got got.stands }) x P (λ _. taken') (λ _. quiet')

acked_session : (branch : Id) (last : ℕ) (from : NodeId) (name : SessionName) (upto : ℕ) (s : Session) → IsSessionOf branch last s → IsSessionOf branch last (with_acked from name upto s)
acked_session branch last from name upto s h =
    cond_both (is_session from name s) (record s { acked = max s.acked (min upto s.sent) }) s (IsSessionOf branch last) (λ _. h) (λ _. h)

take_got_kept : (setup : SetupState) (ps : List Point) (n : ℕ) (s : NodeState) (from : NodeId) (got : Got) → StateKept setup ps n s → StepKept setup ps ps n (take_got s from got)
take_got_kept setup ps n s from got h =
    still_kept setup ps n (take_got s from got)
    (changed setup ps n s (λ x. got_row x from got)
    (λ x r. got_cases (Runs setup ps) x from got
    (record {
      first = elim r.first [ inl none ↦ inl (ap (map (with_acked from got.session got.upto)) none) | inr f ↦ inr f ];
      sessions = all_step (IsSessionOf x.branch x.last) (IsSessionOf x.branch x.last) (with_acked from got.session got.upto) (acked_session x.branch x.last from got.session got.upto) x.sessions r.sessions;
    })
    r) h)
    tt

-- ---- the row of an input

-- what is known of a message that is brought
abbrev BroughtTells : List Point → Option Brought → Type 0
BroughtTells ps None = Unit {0}
BroughtTells ps (Some b) = SentTells ps b.message

-- what a node's row needs beside what is kept
record Before (setup : SetupState) (ps : List Point) (n : ℕ) (s : NodeState) : Type 0 where
  some : 0 < setup.hashes
  begun : s.setup ≡ setup
  hashes : s.versions.hashes ≡ setup.hashes
  apart : (x : Execution) → IsIn s.executions x → (key : List ℕ) → Away setup n key → is_for setup.hashes key x ≡ false
  one : (h : ℕ) (k : List ℕ) → holders following_region s.followings h k ≤ 1
  rows : (x : Execution) → IsIn s.executions x → (key : List ℕ) → is_for setup.hashes key x ≡ true → begun_branch setup key ≡ Some x.branch → row_of s.rows key ≡ row_at ps key (point x.branch x.last)

module _ (setup : SetupState) (ps : List Point) (n : ℕ) where
  message_kept : (s : NodeState) (from : NodeId) (m : Sent) → Before setup ps n s → StateKept setup ps n s → SentTells ps m → StepKept setup ps ps n (message_row s from m)
  message_kept s from (message.Raft m) before h t = still_kept setup ps n (message_row s from (message.Raft m)) h (raft_tell ps (log_step s.log (raft.Deliver from m)).sent)
  message_kept s from (message.Say contract ack) before h t =
      still_kept setup ps n (message_row s from (message.Say contract ack))
      (cond_both (leads s.log) (record s { acks = with_ack contract from ack s.acks }) s (StateKept setup ps n) (λ _. h) (λ _. h)) tt
  message_kept s from (message.Got got) before h t = take_got_kept setup ps n s from got h
  message_kept s from (message.Stream stream) before h t =
      let r = stream_kept (Away setup n) setup ps s.rows s.versions s.executions s.followings from stream s.log.acted before.some before.hashes before.one t h in
      record { grows = r.grows; state = r.node; tells = r.tells }

  brought_kept : (s : NodeState) (b : Option Brought) → Before setup ps n s → StateKept setup ps n s → BroughtTells ps b → StepKept setup ps ps n (brought_row s b)
  brought_kept s None before h t = still_kept setup ps n (silent s) h tt
  brought_kept s (Some b) before h t =
      cond_both (is_well_formed s b) (message_row s b.from b.message) (silent s) (StepKept setup ps ps n)
      (λ _. message_kept s b.from b.message before h t) (λ _. still_kept setup ps n (silent s) h tt)

  tick_kept : (s : NodeState) → StateKept setup ps n s → StepKept setup ps ps n (tick_row s)
  tick_kept s h =
      let t : NodeState = with_proposals s in
      let r : LogStepped = log_step t.log (raft.Tick t.unseen) in
      let u : NodeState = (with_log t r).node in
      let same : StateKept setup ps n t =
      cond_both (coordinates s.log)
      (record s { log = propose_all s.log (proposals_of s.acks (table_of s.log)); acks = after_proposals s.acks (table_of s.log) }) s (StateKept setup ps n) (λ _. h) (λ _. h) in
      still_kept setup ps n (tick_row s) same
      (all_append (OutTells ps) (raft_outs r.sent) (says_now u) (raft_tell ps r.sent)
      (said_tell ps u.me u.log.raft.votes.leader (current_of (table_of u.log)) u.versions u.log.acted (roles_of u) (table_of u.log).contracts))

  request_row_kept : (s : NodeState) (op : OpId) (key : List ℕ) (what : Op) → Before setup ps n s → StateKept setup ps n s → ((q : Point) → points_in what (request_row s op key what).outs ≡ q ∷ [] → IsAbove ps q)
      → StepKept setup ps (ps ++ points_in what (request_row s op key what).outs) n (request_row s op key what)
  request_row_kept s op key what before h new =
      let shape : record s { setup = setup } ≡ s = λ i. record s { setup = sym before.begun i } in
      let A : NodeState → Type 0 = λ (v : NodeState). (q : Point) → points_in what (request_row v op key what).outs ≡ q ∷ [] → IsAbove ps q in
      let new_too : A (record s { setup = setup }) = subst A (sym shape) new in
      let k = request_kept (Away setup n) setup ps s.rows s.versions s.executions s.followings op key what before.some before.hashes before.apart
      (λ x i is f. before.rows x i key is (f.0 key is)) new_too h in
      subst (λ (v : NodeState). StepKept setup ps (ps ++ points_in what (request_row v op key what).outs) n (request_row v op key what)) shape
      (record { grows = k.grows; state = k.node; tells = k.tells })

  -- a row without a point
  without_point : (step : Stepped) → StepKept setup ps ps n step → StepKept setup ps (ps ++ []) n step
  without_point step h = subst (λ (l : List Point). StepKept setup ps l n step) (sym (append-nil ps)) h

  row_kept : (s : NodeState) (input : Input) (b : Option Brought) → Before setup ps n s → StateKept setup ps n s → BroughtTells ps b
      → ((q : Point) → points_of input (input_row s input b).outs ≡ q ∷ [] → IsAbove ps q) → StepKept setup ps (ps ++ points_of input (input_row s input b).outs) n (input_row s input b)
  row_kept s (Request op key what) b before h t new = request_row_kept s op key what before h new
  row_kept s (GiveUp op) b before h t new =
      without_point (give_up s op)
      (still_kept setup ps n (give_up s op) (changed setup ps n s (λ x. give_up_row x op) (λ x r. record { first = r.first; sessions = r.sessions }) h) (all_given_up_tell ps s.executions op))
  row_kept s (See other up) b before h t new = without_point (input_row s (See other up) b) (still_kept setup ps n (input_row s (See other up) b) h tt)
  row_kept s Tick b before h t new = without_point (tick_row s) (tick_kept s h)
  row_kept s (Deliver number) b before h t new = without_point (brought_row s b) (brought_kept s b before h t)
  row_kept s Crash b before h t new = without_point (input_row s Crash b) (still_kept setup ps n (input_row s Crash b) (record { kept = h.kept; runs = tt; follows = tt }) tt)
  row_kept s Restart b before h t new = without_point (input_row s Restart b) (still_kept setup ps n (input_row s Restart b) (record { kept = h.kept; runs = tt; follows = tt }) tt)

-- ---- the end of a step

-- what is kept while executions start
record StartKept (setup : SetupState) (ps : List Point) (n : ℕ) (rows : Rows) (fs : List Following) (s : Starting) : Type 0 where
  hashes : s.versions.hashes ≡ setup.hashes
  node : NodeKept (Away setup n) setup ps rows s.versions s.executions fs

-- what asks is of keys that the node leads
abbrev AskLed : SetupState → ℕ → List Asking → Type 0
AskLed setup n waits = (a : Asking) → IsIn waits a → (key : List ℕ) → Away setup n key → has_key a.contract.region setup.hashes key ≡ false

module _ (setup : SetupState) (ps : List Point) (n : ℕ) (some : 0 < setup.hashes) (rows : Rows) (fs : List Following) where
  one_start : (me : NodeId) (cs : List Contract) (a : Asking) (initial : Option ℕ) (s : Starting) → ((key : List ℕ) → Away setup n key → has_key a.contract.region setup.hashes key ≡ false)
      → StartKept setup ps n rows fs s → StartKept setup ps n rows fs (start_one me cs a initial s)
  one_start me cs a None s out h = record { hashes = h.hashes; node = h.node }
  one_start me cs a (Some initial) s out h =
      let newer : Pieced Version = started_versions a initial s.versions in
      let same : newer.hashes ≡ setup.hashes =
      advanced_map_hashes a.contract.region a.branch (initial + 1) (replaced_map a.contract.region (point a.branch initial) s.versions)
      ∙ replaced_map_hashes a.contract.region (point a.branch initial) s.versions ∙ h.hashes in
      let stay : (key : List ℕ) → Away setup n key → version_of newer key ≡ version_of s.versions key = λ key away.
      ap (λ c. value_at newer.pieces (hash_of key c) key) same
      ∙ started_outside setup.hashes a initial s.versions (hash_of key setup.hashes) key h.hashes (mod-lt (sum key) some) (out key away)
      ∙ ap (λ c. value_at s.versions.pieces (hash_of key c) key) (sym h.hashes) in
      record {
        hashes = same;
        node =
            record {
              kept = λ key away.
                  let k = h.node.kept key away in
                  record { version = k.version; stands = stay key away ∙ k.stands; row = k.row; reached = k.reached; first = k.first };
              runs = placed_all (Runs setup ps) cs (started a me initial) s.executions (record { first = inl refl; sessions = tt }) h.node.runs;
              follows = follows_outside (Away setup n) setup.hashes s.versions newer stay fs h.node.follows;
            };
      }

  each_start : (me : NodeId) (t : Table) (waits : List Asking) (s : Starting) → AskLed setup n waits → StartKept setup ps n rows fs s → StartKept setup ps n rows fs (start_each me t waits s)
  each_start me t [] s out h = h
  each_start me t (a ∷ waits) s out h =
      each_start me t waits (start_one me t.contracts a (due t a) s) (λ x i. out x (inr i)) (one_start me t.contracts a (due t a) s (out a (inl refl)) h)

act_kept : (setup : SetupState) (ps more : List Point) (n : ℕ) (step : Stepped) (v : Option Results) → 0 < setup.hashes → step.node.versions.hashes ≡ setup.hashes → AskLed setup n step.node.asking
    → StepKept setup ps more n step → StepKept setup ps more n (act_on step v)
act_kept setup ps more n step None some hashes out h = h
act_kept setup ps more n step (Some v) some hashes out h =
    let s : NodeState = step.node in
    let r = each_start setup more n some s.rows s.followings s.me (table_of (caught_up s.log)) s.asking (record { asking = []; executions = s.executions; versions = s.versions }) out
    (record { hashes = hashes; node = h.state }) in
    record { grows = h.grows; state = r.node; tells = all_append (OutTells more) step.outs (Viewed v.first v.results ∷ []) h.tells (tt, tt) }

decide_kept : (setup : SetupState) (ps more : List Point) (n : ℕ) (step : Stepped) → StepKept setup ps more n step → StepKept setup ps more n (decide_step step)
decide_kept setup ps more n step h =
    record {
      grows = h.grows;
      state = changed setup more n step.node decided (λ x r. record { first = r.first; sessions = r.sessions }) h.state;
      tells = all_append (OutTells more) step.outs (decide_all_outs step.node.executions) h.tells (all_decided_tell more step.node.executions);
    }

-- ---- runs

abbrev EnvelopeTells : List Point → Envelope → Type 0
EnvelopeTells ps m = SentTells ps m.message

pub record RunKept (setup : SetupState) (past : List Entry) : Type 0 where
  pub tells : AllByRecursion (EnvelopeTells (points past)) (sent past)
  pub nodes : (n : ℕ) → StateKept setup (points past) n (state setup n past)

sent_by_tells : (ps : List Point) (from : NodeId) (outs : List Output) → AllByRecursion (OutTells ps) outs → AllByRecursion (EnvelopeTells ps) (sent_by from outs)
sent_by_tells ps from [] h = tt
sent_by_tells ps from (Message to m ∷ outs) h = (h.0, sent_by_tells ps from outs h.1)
sent_by_tells ps from (Dispatched op key branch timestamp ∷ outs) h = sent_by_tells ps from outs h.1
sent_by_tells ps from (Viewed first results ∷ outs) h = sent_by_tells ps from outs h.1
sent_by_tells ps from (Answer op outcome ∷ outs) h = sent_by_tells ps from outs h.1

got_tells : (ps : List Point) (ms : List Envelope) (k : ℕ) → AllByRecursion (EnvelopeTells ps) ms → BroughtTells ps (opened (slice_get ms k))
got_tells ps [] k h = tt
got_tells ps (m ∷ ms) zero h = h.0
got_tells ps (m ∷ ms) (suc k) h = got_tells ps ms k h.1

brought_tells : (past : List Entry) (input : Input) → AllByRecursion (EnvelopeTells (points past)) (sent past) → BroughtTells (points past) (brought past input)
brought_tells past (Request op key what) h = tt
brought_tells past (GiveUp op) h = tt
brought_tells past (See other up) h = tt
brought_tells past Tick h = tt
brought_tells past Crash h = tt
brought_tells past Restart h = tt
brought_tells past (Deliver number) h =
    cond_both (number == 0) None (slice_get (sent past) (number - 1)) (λ m. BroughtTells (points past) (opened m)) (λ _. tt) (λ _. got_tells (points past) (sent past) (number - 1) h)

-- what is known of a node before its step
before_step : (setup : SetupState) → IsSetup setup → (past : List Entry) → IsRun setup past → (n : ℕ) → Before setup (points past) n (state setup n past)
before_step setup ok past run n =
    let s : NodeState = state setup n past in
    let f = keyed_node setup ok past run n in
    record {
      some = some_hash setup ok;
      begun = f.begun;
      hashes = f.filled.hashes_are;
      apart = λ x i key away. false_from_ne_true (is_for setup.hashes key x) (λ has.
          let here = some_there exec_region s.executions (hash_of key setup.hashes) key x i has in
          let leads = f.leads (hash_of key setup.hashes) key in
          omega (arith, here, leads, away));
      one = λ h k.
          let follows = f.follows h k in
          let role = one_role setup ok n h k in
          omega (arith, follows, role);
      rows = λ x i key has begun. first_row setup ok past run n x i key has begun;
    }

-- the step of an entry
entry_kept : (setup : SetupState) → IsSetup setup → (past : List Entry) (e : Entry) → IsRun setup (e ∷ past) → RunKept setup past → StepKept setup (points past) (points (e ∷ past)) e.node.0 (node_step (state setup e.node.0 past) e.input (brought past e.input))
entry_kept setup ok past e run r =
    let n : ℕ = e.node.0 in
    let ps : List Point = points past in
    let s : NodeState = state setup n past in
    let b : Option Brought = brought past e.input in
    let step : Stepped = input_row s e.input b in
    let qs : List Point = points_of e.input step.outs in
    let qs_are : points_of e.input e.outputs ≡ qs = ap (points_of e.input) run.0.outputs ∙ end_points_of e.input step in
    let roles = run_roles setup ok past run.1 n in
    let row_roles : Roles setup n (kept step.node) =
    roles_row setup ok n (kept s) (kept step.node) qs roles.roles (row_is setup n s e.input b roles.me_is roles.of (contracts_stay setup ok past run.1 n)) in
    let asks : AskLed setup n step.node.asking = λ a i key away.
    false_from_ne_true (has_key a.contract.region setup.hashes key) (λ has.
    let role : IsAsking setup n step.node.life a = all_at (IsAsking setup n step.node.life) step.node.asking row_roles.askings a i in
    let there = some_there asking_region (asked_from setup n step.node.life) (hash_of key setup.hashes) key a role.of has in
    let count = askings_led (node_id n) step.node.life 0 0 setup.shards (hash_of key setup.hashes) key in
    omega (arith, there, count, away)) in
    let new = λ (q : Point) (is : qs ≡ q ∷ []).
    last_above ps q (subst (λ (l : List Point). AreRising (ps ++ l)) (qs_are ∙ is) (rise setup ok (e ∷ past) run)) in
    let row = row_kept setup ps n s e.input b (before_step setup ok past run.1 n) (r.nodes n) (brought_tells past e.input r.tells) new in
    let whole = decide_kept setup ps (ps ++ qs) n (act step) (act_kept setup ps (ps ++ qs) n step (viewed step.node.log) (some_hash setup ok) row_roles.hashes_are asks row) in
    subst (λ (l : List Point). StepKept setup ps (ps ++ l) n (end_step step)) (sym qs_are) whole

pub run_kept : (setup : SetupState) → IsSetup setup → (past : List Entry) → IsRun setup past → RunKept setup past
run_kept setup ok [] run = record { tells = tt; nodes = begin_kept setup ok }
run_kept setup ok (e ∷ past) run =
    let r = run_kept setup ok past run.1 in
    let k = entry_kept setup ok past e run r in
    let ps : List Point = points past in
    let more : List Point = points (e ∷ past) in
    record {
      tells =
          all_append (EnvelopeTells more) (sent past) (sent_by e.node e.outputs)
          (all_weaker (EnvelopeTells ps) (EnvelopeTells more) (λ m. sent_grown ps more k.grows m.message) (sent past) r.tells)
          (sent_by_tells more e.node e.outputs (subst (AllByRecursion (OutTells more)) (sym run.0.outputs) k.tells));
      nodes = λ m.
          cond_both (e.node.0 == m) (moving setup past e m) (state setup m past) (StateKept setup more m)
          (λ same. subst (λ (i : ℕ). StateKept setup more i (moving setup past e i)) (eqb-true e.node.0 m same) k.state)
          (λ _. let t : NodeState = state setup m past in other_kept (Away setup m) setup ps more t.rows t.versions t.executions t.followings k.grows (r.nodes m));
    }
