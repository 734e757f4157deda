-- What the outputs of a step rest on: the points that it tells of, the maps that it says, and where its sessions stand.
use Rattle.std.proofs.Common.{◌≡◌, ℕ, ◌+◌, ◌==◌, true, List, [], ◌∷◌, ◌++◌, map, filter, Option, Some, None, inl, inr, refl, sym, subst}
use Rattle.std.proofs.lemmas.Bool.{cond_both}
use Rattle.std.specs.List.{AllByRecursion, list_any}
use Rattle.path_runs.specs.runs.region_map.declared.id.Id.{Id}
use Rattle.path_runs.specs.runs.region_map.declared.id.NodeId.{NodeId}
use Rattle.path_runs.specs.runs.region_map.declared.region.Region.{Region}
use Rattle.path_runs.specs.runs.region_map.Nodes.{has}
use Rattle.path_runs.specs.runs.region_map.Maps.{Pieced}
use Rattle.path_runs.specs.runs.region_map.Made.{mask_map}
use Rattle.path_runs.specs.runs.branch_history.declared.version.Version.{Version}
use Rattle.path_runs.specs.runs.branch_history.Equal.{same_version}
use Rattle.path_runs.specs.runs.raft_vote.declared.message.RaftMessage.{RaftMessage}
use Rattle.path_runs.specs.runs.raft_node.declared.input.RaftInput.TheVariants as raft
use Rattle.path_runs.specs.runs.register_laws.declared.operation.OpId.{OpId}
use Rattle.path_runs.specs.runs.register_laws.declared.operation.Op.{Op}
use Rattle.path_runs.specs.runs.register_laws.Register.{State, state_after, writes}
use Rattle.path_runs.specs.runs.contract_types.declared.ack.Ack.{Ack}
use Rattle.path_runs.specs.runs.contract_types.declared.ack.Ack.TheVariants.{NeedBranch, InProgress, Ready, NeedPrimary, Backfilling, Streaming}
use Rattle.path_runs.specs.runs.contract_types.declared.change.Change.{Change}
use Rattle.path_runs.specs.runs.contract_types.declared.contract.Contract.{Contract}
use Rattle.path_runs.specs.runs.contract_types.declared.contract.Holder.{Holder}
use Rattle.path_runs.specs.runs.contract_types.declared.results.Viewed.{Viewed as Results}
use Rattle.path_runs.specs.runs.coordinator.Proposals.{proposals_of, after_proposals}
use Rattle.path_runs.specs.runs.table_log.Logs.{LogStepped, table_of, log_step, viewed}
use Rattle.path_runs.specs.runs.exec_types.Parts.{timestamp_of}
use Rattle.path_runs.specs.runs.exec_types.declared.message.Message.{Message as Sent}
use Rattle.path_runs.specs.runs.exec_types.declared.message.Message.TheVariants as message
use Rattle.path_runs.specs.runs.exec_types.declared.message.Part.{Part}
use Rattle.path_runs.specs.runs.exec_types.declared.message.Part.TheVariants.{Write, Sync}
use Rattle.path_runs.specs.runs.exec_types.declared.message.SessionName.{SessionName}
use Rattle.path_runs.specs.runs.exec_types.declared.message.Stream.{Stream}
use Rattle.path_runs.specs.runs.exec_types.declared.input.Input.{Input}
use Rattle.path_runs.specs.runs.exec_types.declared.input.Input.TheVariants.{Request, GiveUp, See, Tick, Deliver, Crash, Restart}
use Rattle.path_runs.specs.runs.exec_types.declared.outcome.Outcome.TheVariants.{NoMajority}
use Rattle.path_runs.specs.runs.exec_types.declared.output.Output.{Output}
use Rattle.path_runs.specs.runs.exec_types.declared.output.Output.TheVariants.{Message, Dispatched, Viewed, Answer}
use Rattle.path_runs.specs.runs.store_api.Rows.{Rows, value_of}
use Rattle.path_runs.specs.runs.write_dispatch.declared.decided.Decided.{Decided}
use Rattle.path_runs.specs.runs.write_dispatch.Dispatch.{counts_of, is_decided, pending_of}
use Rattle.path_runs.specs.runs.secondary_exec.declared.following.Following.{Following}
use Rattle.path_runs.specs.runs.secondary_exec.declared.waiting.Waiting.{Waiting}
use Rattle.path_runs.specs.runs.secondary_exec.Stream.{FollowingStep, acknowledgement, stream_row, is_ours}
use Rattle.path_runs.specs.runs.primary_exec.declared.asking.Asking.{Asking}
use Rattle.path_runs.specs.runs.primary_exec.declared.session.Session.{Session}
use Rattle.path_runs.specs.runs.primary_exec.Execution.{Execution, PrimaryStep, has_room, sends, part_of, dispatch_row, needs_branch, said, answers, decides, decided_answers, decide_outs, given_up, give_up_outs}
use Rattle.path_runs.specs.runs.node_core.declared.node.Brought.{Brought}
use Rattle.path_runs.specs.runs.node_core.Parts.{Requested, Streamed, is_for, dispatched, passed_on, request_all, taken, left_alone, stream_all, give_up_all_outs, decide_all_outs}
use Rattle.path_runs.specs.runs.node_core.Saying.{Roles, is_asking_under, is_run_under, is_waiting_under, is_following_under, or_ack, asking_ack, execution_ack, waiting_ack, following_ack, ack_under, says_to, acknowledgements_to, acknowledges, says_under, says_all}
use Rattle.path_runs.specs.runs.node_core.Starting.{current_of}
use Rattle.path_runs.specs.runs.node_core.Step.{NodeState, Stepped, silent, coordinates, propose_all, with_log, raft_outs, says_now, tick_row, message_row, is_well_formed, brought_row, input_row, act_on, act, node_step}
use Rattle.path_runs.specs.runs.Story.{IsIn}
use Rattle.path_runs.proofs.runs.list_laws.All.{all_append}
use Rattle.path_runs.proofs.runs.list_laws.Members.{IsIn-left, IsIn-right, IsIn-filter}
use Rattle.path_runs.proofs.step_runs.Outs.{stream_cases}

part_time : (before : State) (at : ℕ) (key : List ℕ) (what : Op) → timestamp_of (part_of before at key what) ≡ at
part_time before at key what =
    cond_both (writes before what) (Write at key (record { value = state_after before what; recency = at })) (Sync at) (λ (p : Part). timestamp_of p ≡ at) (λ _. refl) (λ _. refl)

act_within : (step : Stepped) (v : Option Results) (o : Output) → IsIn step.outs o → IsIn (act_on step v).outs o
act_within step None o i = i
act_within step (Some v) o i = IsIn-left step.outs (Viewed v.first v.results ∷ []) o i

-- a step gives what its row gives
pub row_within : (s : NodeState) (input : Input) (b : Option Brought) (o : Output) → IsIn (input_row s input b).outs o → IsIn (node_step s input b).outs o
row_within s input b o i =
    let row : Stepped = input_row s input b in
    IsIn-left (act row).outs (decide_all_outs (act row).node.executions) o (act_within row (viewed row.node.log) o i)

-- of the session of a name a timestamp, if any, may be told; a map may be said; a point may be told
module _ (S : SessionName → Option ℕ → Type 0) (M : Pieced Version → Type 0) (D : OpId → List ℕ → Id → ℕ → Type 0) where
  abbrev pub AckFits : Ack → Type 0
  AckFits (NeedBranch branch based_on origin) = M origin
  AckFits InProgress = Unit {0}
  AckFits Ready = Unit {0}
  AckFits (NeedPrimary versions) = M versions
  AckFits Backfilling = Unit {0}
  AckFits Streaming = Unit {0}

  abbrev pub Fits : Sent → Type 0
  Fits (message.Raft m) = Unit {0}
  Fits (message.Say contract ack) = AckFits ack
  Fits (message.Stream stream) = S stream.session (Some (timestamp_of stream.part))
  Fits (message.Got got) = S got.session got.stands

  abbrev pub OutFits : Output → Type 0
  OutFits (Message to m) = Fits m
  OutFits (Dispatched op key branch timestamp) = D op key branch timestamp
  OutFits (Viewed first results) = Unit {0}
  OutFits (Answer op outcome) = Unit {0}

  abbrev All : List Output → Type 0
  All outs = AllByRecursion OutFits outs

  both : (xs ys : List Output) → All xs → All ys → All (xs ++ ys)
  both xs ys h k = all_append OutFits xs ys h k

  -- ---- answers

  answers_fit : (branch : Id) (d : Decided) (op : Option OpId) (rest : List Output) → All rest → All (answers branch d op ++ rest)
  answers_fit branch d None rest h = h
  answers_fit branch d (Some op) rest h = (tt, h)

  decided_fit : (x : Execution) (ds : List Decided) → All (decided_answers x ds)
  decided_fit x [] = tt
  decided_fit x (d ∷ ds) =
      cond_both (decides x d) (answers x.branch d d.op ++ decided_answers x ds) [] All (λ _. answers_fit x.branch d d.op (decided_answers x ds) (decided_fit x ds)) (λ _. tt)

  all_decided_fit : (xs : List Execution) → All (decide_all_outs xs)
  all_decided_fit [] = tt
  all_decided_fit (x ∷ xs) = both (decide_outs x) (decide_all_outs xs) (decided_fit x x.dispatch.waiting) (all_decided_fit xs)

  given_up_fit : (x : Execution) (op : OpId) (d : Option Decided) → All (given_up x.dispatch.acks x.contract x.me.0 op d)
  given_up_fit x op None = tt
  given_up_fit x op (Some d) =
      cond_both (is_decided x.dispatch.acks x.contract x.me.0 d.at) [] (Answer op (NoMajority (counts_of x.dispatch.acks x.contract x.me.0 d.at)) ∷ []) All (λ _. tt) (λ _. (tt, tt))

  all_given_up_fit : (xs : List Execution) (op : OpId) → All (give_up_all_outs xs op)
  all_given_up_fit [] op = tt
  all_given_up_fit (x ∷ xs) op = both (give_up_outs x op) (give_up_all_outs xs op) (given_up_fit x op (pending_of x.dispatch.waiting op)) (all_given_up_fit xs op)

  -- ---- requests

  -- what a dispatch of an execution tells
  abbrev pub MayTell : OpId → List ℕ → Execution → Type 0
  MayTell op key x = D op key x.branch (x.last + 1) × ((t : Session) → IsIn x.sessions t → S t.name (Some (x.last + 1)))

  sends_fit : (x : Execution) (part : Part) → timestamp_of part ≡ x.last + 1 → ((t : Session) → IsIn x.sessions t → S t.name (Some (x.last + 1))) → (ss : List Session)
      → ((t : Session) → IsIn ss t → IsIn x.sessions t) → All (map (sends part) ss)
  sends_fit x part time may [] within = tt
  sends_fit x part time may (s ∷ ss) within = (
    subst (λ (at : ℕ). S s.name (Some at)) (sym time) (may s (within s (inl refl))),
    sends_fit x part time may ss (λ t i. within t (inr i)),
  )

  dispatch_fit : (x : Execution) (rows : Rows) (versions : Pieced Version) (op : OpId) (key : List ℕ) (what : Op)
      → (IsIn (dispatch_row x rows versions op key what).outs (Dispatched op key x.branch (x.last + 1)) → MayTell op key x) → All (dispatch_row x rows versions op key what).outs
  dispatch_fit x rows versions op key what may =
      let part : Part = part_of (value_of rows key) (x.last + 1) key what in
      let sent : List Output = map (sends part) (filter has_room x.sessions) in
      let told : List Output = Dispatched op key x.branch (x.last + 1) ∷ [] in
      let m : MayTell op key x = may (IsIn-right sent told (Dispatched op key x.branch (x.last + 1)) (inl refl)) in
      both sent told
      (sends_fit x part (part_time (value_of rows key) (x.last + 1) key what) m.1 (filter has_room x.sessions) (λ t i. (IsIn-filter has_room x.sessions t i).0))
      (m.0, tt)

  request_fit : (hashes : ℕ) (xs : List Execution) (rows : Rows) (versions : Pieced Version) (op : OpId) (key : List ℕ) (what : Op)
      → ((x : Execution) → IsIn xs x → IsIn (request_all hashes xs rows versions op key what).outs (Dispatched op key x.branch (x.last + 1)) → MayTell op key x)
      → All (request_all hashes xs rows versions op key what).outs
  request_fit hashes [] rows versions op key what may = (tt, tt)
  request_fit hashes (x ∷ xs) rows versions op key what may =
      let step : PrimaryStep = dispatch_row x rows versions op key what in
      let rest : Requested = request_all hashes xs rows versions op key what in
      cond_both (is_for hashes key x) (dispatched step xs) (passed_on x rest)
      (λ (r : Requested). ((y : Execution) → IsIn (x ∷ xs) y → IsIn r.outs (Dispatched op key y.branch (y.last + 1)) → MayTell op key y) → All r.outs)
      (λ _ m. dispatch_fit x rows versions op key what (m x (inl refl)))
      (λ _ m. request_fit hashes xs rows versions op key what (λ y i. m y (inr i))) may

  -- ---- acks

  abbrev AnyFits : Option Ack → Type 0
  AnyFits None = Unit {0}
  AnyFits (Some ack) = AckFits ack

  or_fit : (a b : Option Ack) → AnyFits a → AnyFits b → AnyFits (or_ack a b)
  or_fit None b h k = k
  or_fit (Some ack) b h k = h

  module _ (current : Pieced Id) (versions : Pieced Version) (maps : (r : Region) → M (mask_map same_version r versions)) where
    asking_fit : (c : Contract) (waits : List Asking) → AnyFits (asking_ack c current versions waits)
    asking_fit c [] = tt
    asking_fit c (a ∷ rest) =
        cond_both (is_asking_under c a) (Some (needs_branch a current versions)) (asking_ack c current versions rest) AnyFits (λ _. maps a.contract.region) (λ _. asking_fit c rest)

    execution_fit : (c : Contract) (xs : List Execution) → AnyFits (execution_ack c xs)
    execution_fit c [] = tt
    execution_fit c (x ∷ xs) =
        cond_both (is_run_under c x) (Some (said x)) (execution_ack c xs) AnyFits (λ _. cond_both x.ready Ready InProgress AckFits (λ _. tt) (λ _. tt)) (λ _. execution_fit c xs)

    ack_fit : (me : NodeId) (r : Roles) (c : Contract) (h : Option Holder) → AnyFits (ack_under me current versions r c h)
    ack_fit me r c None = maps c.region
    ack_fit me r c (Some h) =
        let asks : Option Ack = asking_ack c current versions r.asking in
        let runs : Option Ack = execution_ack c r.executions in
        let waits : Option Ack = waiting_ack c h.server r.waiting in
        let follows : Option Ack = following_ack c h.server r.followings in
        cond_both (h.server.0 == me.0) (or_ack asks runs) (or_ack waits follows) AnyFits
        (λ _. or_fit asks runs (asking_fit c r.asking) (execution_fit c r.executions))
        (λ _. or_fit waits follows
        (cond_both (list_any (is_waiting_under c h.server) r.waiting) (Some Backfilling) None AnyFits (λ _. tt) (λ _. tt))
        (cond_both (list_any (is_following_under c h.server) r.followings) (Some Streaming) None AnyFits (λ _. tt) (λ _. tt)))

    -- ---- what is said at a tick

    to_fit : (to : Option NodeId) (c : Contract) (ack : Option Ack) → AnyFits ack → All (says_to to c ack)
    to_fit None c ack h = tt
    to_fit (Some leader) c None h = tt
    to_fit (Some leader) c (Some ack) h = (h, tt)

    module _ (fs : List Following) (stand : (f : Following) → IsIn fs f → S f.session (Some f.position)) where
      acknowledgements_fit : (c : Contract) (primary : NodeId) (view : ℕ) (gs : List Following) → ((f : Following) → IsIn gs f → IsIn fs f) → All (acknowledgements_to c primary view gs)
      acknowledgements_fit c primary view [] within = tt
      acknowledgements_fit c primary view (f ∷ gs) within =
          let rest = acknowledgements_fit c primary view gs (λ g i. within g (inr i)) in
          cond_both (is_following_under c primary f) (acknowledgement f view ∷ acknowledgements_to c primary view gs) (acknowledgements_to c primary view gs) All
          (λ _. (stand f (within f (inl refl)), rest)) (λ _. rest)

      acknowledges_fit : (c : Contract) (view : ℕ) (h : Option Holder) → All (acknowledges c view fs h)
      acknowledges_fit c view None = tt
      acknowledges_fit c view (Some h) = acknowledgements_fit c h.server view fs (λ f i. i)

      said_fit : (me : NodeId) (leader : Option NodeId) (view : ℕ) (waits : List Asking) (xs : List Execution) (ws : List Waiting) (contracts : List Contract)
          → All (says_all me leader current versions view (record { asking = waits; executions = xs; waiting = ws; followings = fs }) contracts)
      said_fit me leader view waits xs ws [] = tt
      said_fit me leader view waits xs ws (c ∷ contracts) =
          let r : Roles = record { asking = waits; executions = xs; waiting = ws; followings = fs } in
          let say : List Output = says_to leader c (ack_under me current versions r c c.primary) in
          let acks : List Output = acknowledges c view fs c.primary in
          both (says_under me leader current versions view r c) (says_all me leader current versions view r contracts)
          (cond_both (has c.replicas me.0) (say ++ acks) [] All
          (λ _. both say acks (to_fit leader c (ack_under me current versions r c c.primary) (ack_fit me r c c.primary)) (acknowledges_fit c view c.primary)) (λ _. tt))
          (said_fit me leader view waits xs ws contracts)

  -- ---- rows

  raft_fit : (sent : List (NodeId × RaftMessage Change)) → All (raft_outs sent)
  raft_fit [] = tt
  raft_fit (x ∷ xs) = (tt, raft_fit xs)

  stream_fit : (fs : List Following) (rows : Rows) (versions : Pieced Version) (from : NodeId) (stream : Stream) (view : ℕ)
      → ((f : Following) → IsIn fs f → S f.session (Some f.position))
      → ((f : Following) → IsIn fs f → is_ours f from stream ≡ true → S f.session (Some (timestamp_of stream.part)))
      → All (stream_all fs rows versions from stream view).outs
  stream_fit [] rows versions from stream view stand next = tt
  stream_fit (f ∷ fs) rows versions from stream view stand next =
      cond_both (is_ours f from stream) (taken (stream_row f rows versions from stream view) fs) (left_alone f (stream_all fs rows versions from stream view)) (λ (r : Streamed). All r.outs)
      (λ ours. stream_cases (λ (step : FollowingStep). All step.outs) f rows versions from stream view tt (stand f (inl refl), tt) (next f (inl refl) ours, tt))
      (λ _. stream_fit fs rows versions from stream view (λ g i. stand g (inr i)) (λ g i. next g (inr i)))

  -- what a message that is brought lets a following tell
  abbrev pub MayFollow : List Following → Option Brought → Type 0
  MayFollow fs None = Unit {0}
  MayFollow fs (Some b) = (f : Following) → IsIn fs f → (stream : Stream) → b.message ≡ message.Stream stream → is_ours f b.from stream ≡ true → S f.session (Some (timestamp_of stream.part))

  -- what a step may tell at a node
  pub record MaySay (s : NodeState) (input : Input) (b : Option Brought) : Type 0 where
    pub maps : (r : Region) → M (mask_map same_version r s.versions)
    pub stand : (f : Following) → IsIn s.followings f → S f.session (Some f.position)
    pub next : MayFollow s.followings b
    pub points : (op : OpId) (key : List ℕ) (what : Op) → input ≡ Request op key what → (x : Execution) → IsIn s.executions x
        → IsIn (node_step s input b).outs (Dispatched op key x.branch (x.last + 1)) → MayTell op key x

  message_fit : (s : NodeState) (from : NodeId) (m : Sent) → ((f : Following) → IsIn s.followings f → S f.session (Some f.position)) → MayFollow s.followings (Some (record { from = from; message = m }))
      → All (message_row s from m).outs
  message_fit s from (message.Raft m) stand next = raft_fit (log_step s.log (raft.Deliver from m)).sent
  message_fit s from (message.Say contract ack) stand next = tt
  message_fit s from (message.Stream stream) stand next = stream_fit s.followings s.rows s.versions from stream s.log.acted stand (λ f i ours. next f i stream refl ours)
  message_fit s from (message.Got got) stand next = tt

  brought_fit : (s : NodeState) (b : Option Brought) → ((f : Following) → IsIn s.followings f → S f.session (Some f.position)) → MayFollow s.followings b → All (brought_row s b).outs
  brought_fit s None stand next = tt
  brought_fit s (Some b) stand next =
      cond_both (is_well_formed s b) (message_row s b.from b.message) (silent s) (λ (step : Stepped). All step.outs) (λ _. message_fit s b.from b.message stand next) (λ _. tt)

  tick_fit : (s : NodeState) → ((r : Region) → M (mask_map same_version r s.versions)) → ((f : Following) → IsIn s.followings f → S f.session (Some f.position)) → All (tick_row s).outs
  tick_fit s maps stand =
      cond_both (coordinates s.log)
      (record s { log = propose_all s.log (proposals_of s.acks (table_of s.log)); acks = after_proposals s.acks (table_of s.log) }) s
      (λ (t : NodeState). All (raft_outs (log_step t.log (raft.Tick t.unseen)).sent ++ says_now (with_log t (log_step t.log (raft.Tick t.unseen))).node))
      (λ _. of_log (record s { log = propose_all s.log (proposals_of s.acks (table_of s.log)); acks = after_proposals s.acks (table_of s.log) }) maps stand) (λ _. of_log s maps stand)
    where
      of_log : (t : NodeState) → ((r : Region) → M (mask_map same_version r t.versions)) → ((f : Following) → IsIn t.followings f → S f.session (Some f.position))
          → All (raft_outs (log_step t.log (raft.Tick t.unseen)).sent ++ says_now (with_log t (log_step t.log (raft.Tick t.unseen))).node)
      of_log t m k =
          let r : LogStepped = log_step t.log (raft.Tick t.unseen) in
          let u : NodeState = (with_log t r).node in
          both (raft_outs r.sent) (says_now u) (raft_fit r.sent)
          (said_fit (current_of (table_of u.log)) t.versions m t.followings k u.me u.log.raft.votes.leader u.log.acted u.asking u.executions u.waiting (table_of u.log).contracts)

  row_fit : (s : NodeState) (input : Input) (b : Option Brought) → MaySay s input b → All (input_row s input b).outs
  row_fit s (Request op key what) b m =
      request_fit s.setup.hashes s.executions s.rows s.versions op key what
      (λ x i j. m.points op key what refl x i (row_within s (Request op key what) b (Dispatched op key x.branch (x.last + 1)) j))
  row_fit s (GiveUp op) b m = all_given_up_fit s.executions op
  row_fit s (See other up) b m = tt
  row_fit s Tick b m = tick_fit s m.maps m.stand
  row_fit s (Deliver number) b m = brought_fit s b m.stand m.next
  row_fit s Crash b m = tt
  row_fit s Restart b m = tt

  act_fit : (step : Stepped) (v : Option Results) → All step.outs → All (act_on step v).outs
  act_fit step None h = h
  act_fit step (Some v) h = both step.outs (Viewed v.first v.results ∷ []) h (tt, tt)

  pub step_fit : (s : NodeState) (input : Input) (b : Option Brought) → MaySay s input b → All (node_step s input b).outs
  step_fit s input b m =
      let row : Stepped = input_row s input b in
      let acted : Stepped = act row in
      both acted.outs (decide_all_outs acted.node.executions)
      (act_fit row (viewed row.node.log) (row_fit s input b m))
      (all_decided_fit acted.node.executions)
