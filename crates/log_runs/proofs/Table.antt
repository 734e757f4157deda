-- For whom the messages of a run are.
use Rattle.std.proofs.Common.{◌≡◌, ℕ, zero, suc, ◌+◌, ◌<◌, ◌≤◌, max, ◌-◌, ◌==◌, Bool, true, cond, not, ◌&&◌, nat_lt, nat_le, List, [], ◌∷◌, ◌++◌, map, filter, Option, Some, None, refl, sym, subst, arith}
use Rattle.std.proofs.lemmas.Bool.{cond_both, and_parts, ltb-true, lt-ltb}
use Rattle.std.specs.List.{AllByRecursion}
use Rattle.std.specs.Prelude.{slice_get}
use Rattle.step_runs.specs.runs.region_map.declared.id.Id.{Id}
use Rattle.step_runs.specs.runs.region_map.declared.id.NodeId.{NodeId}
use Rattle.step_runs.specs.runs.region_map.Nodes.{has, with_member}
use Rattle.step_runs.specs.runs.region_map.Maps.{Pieced}
use Rattle.step_runs.specs.runs.branch_history.declared.version.Version.{Version}
use Rattle.step_runs.specs.runs.register_laws.declared.operation.OpId.{OpId}
use Rattle.step_runs.specs.runs.register_laws.declared.operation.Op.{Op}
use Rattle.step_runs.specs.runs.raft_vote.declared.message.RaftMessage.{RaftMessage}
use Rattle.step_runs.specs.runs.raft_vote.Rows.{all_nodes, is_leader}
use Rattle.step_runs.specs.runs.raft_append.Commit.{decided}
use Rattle.step_runs.specs.runs.raft_node.declared.input.RaftInput.{RaftInput}
use Rattle.step_runs.specs.runs.raft_node.declared.input.RaftInput.TheVariants as raft
use Rattle.step_runs.specs.runs.raft_node.State.{RaftState}
use Rattle.step_runs.specs.runs.raft_node.Rows.{is_full, with_entry, raft_step}
use Rattle.step_runs.specs.runs.contract_types.declared.ack.Ack.{Ack}
use Rattle.step_runs.specs.runs.contract_types.declared.change.Change.{Change}
use Rattle.step_runs.specs.runs.contract_types.declared.change.Change.TheVariants.{Noop}
use Rattle.step_runs.specs.runs.contract_types.declared.contract.Contract.{Contract}
use Rattle.step_runs.specs.runs.contract_types.declared.contract.Holder.{Holder}
use Rattle.step_runs.specs.runs.contract_types.declared.results.Viewed.{Viewed as Results}
use Rattle.step_runs.specs.runs.contract_types.Setup.{SetupState, IsSetup}
use Rattle.step_runs.specs.runs.contract_types.Tables.{Table as TableNow}
use Rattle.step_runs.specs.runs.table_log.Fitting.{fits}
use Rattle.step_runs.specs.runs.table_log.Logs.{LogState, table_of, restarted, log_step, with_proposed, caught_up, viewed}
use Rattle.step_runs.specs.runs.coordinator.Acks.{with_ack}
use Rattle.step_runs.specs.runs.coordinator.Proposals.{proposals_of, after_proposals}
use Rattle.step_runs.specs.runs.exec_types.declared.input.Input.{Input}
use Rattle.step_runs.specs.runs.exec_types.declared.input.Input.TheVariants.{Request, GiveUp, See, Tick, Deliver, Crash, Restart}
use Rattle.step_runs.specs.runs.exec_types.declared.message.Message.{Message as Sent}
use Rattle.step_runs.specs.runs.exec_types.declared.message.Message.TheVariants as message
use Rattle.step_runs.specs.runs.exec_types.declared.message.SessionName.{SessionName}
use Rattle.step_runs.specs.runs.exec_types.declared.message.Got.{Got}
use Rattle.step_runs.specs.runs.exec_types.declared.message.Part.{Part}
use Rattle.step_runs.specs.runs.exec_types.declared.message.Stream.{Stream}
use Rattle.step_runs.specs.runs.exec_types.declared.outcome.Outcome.TheVariants.{NoMajority}
use Rattle.step_runs.specs.runs.exec_types.declared.output.Output.{Output}
use Rattle.step_runs.specs.runs.exec_types.declared.output.Output.TheVariants.{Message, Dispatched, Viewed, Answer}
use Rattle.step_runs.specs.runs.store_api.Rows.{Rows, value_of}
use Rattle.step_runs.specs.runs.write_dispatch.declared.decided.Decided.{Decided}
use Rattle.step_runs.specs.runs.write_dispatch.Dispatch.{counts_of, is_decided, pending_of}
use Rattle.step_runs.specs.runs.primary_exec.declared.asking.Asking.{Asking}
use Rattle.step_runs.specs.runs.primary_exec.declared.session.Session.{Session}
use Rattle.step_runs.specs.runs.primary_exec.Execution.{Execution, started, has_room, with_sent, sends, part_of, dispatch_row, with_acked, is_live, with_stands, answers, decides, decided_answers, decide_outs, given_up, give_up_outs}
use Rattle.step_runs.specs.runs.secondary_exec.declared.following.Following.{Following}
use Rattle.step_runs.specs.runs.secondary_exec.Stream.{FollowingStep, stream_row, is_ours, take_part, is_next, apply_part, acknowledgement, quiet}
use Rattle.step_runs.specs.runs.node_core.declared.node.Brought.{Brought}
use Rattle.step_runs.specs.runs.node_core.declared.journal.Entry.{Entry}
use Rattle.step_runs.specs.runs.node_core.Parts.{Requested, Streamed, is_for, dispatched, passed_on, request_all, taken, left_alone, stream_all, got_all, give_up_all, give_up_all_outs, decide_all, decide_all_outs}
use Rattle.step_runs.specs.runs.node_core.Saying.{Roles, is_following_under, says_to, ack_under, acknowledgements_to, acknowledges, says_under, says_all}
use Rattle.step_runs.specs.runs.node_core.Starting.{Starting, current_of, place_of, placed, due, start_one, start_each}
use Rattle.step_runs.specs.runs.node_core.Step.{NodeState, Stepped, silent, raft_outs, with_log, leads, coordinates, propose_one, propose_all, with_proposals, roles_of, says_now, tick_log, tick_row, message_row, message_fits, is_well_formed, brought_row, input_row, act_on, act, node_step, ends_numbers}
use Rattle.step_runs.specs.runs.declared.envelope.Envelope.{Envelope}
use Rattle.step_runs.specs.runs.Run.{sent_by, sent, message_at, names_node, arrives, suits, is_fresh, brought, state, IsStep, IsRun}
use Rattle.log_runs.proofs.LogReceivers.{LeaderWithin, VotesWithin, SendsWithin, RaftWithin, raft_ticks, raft_takes}
use Rattle.log_runs.proofs.LogWorldRuns.{moving}
use Rattle.step_runs.proofs.PointBranches.{all_append}
use Rattle.step_runs.proofs.Setups.{begins_within}
use Rattle.step_runs.proofs.runs.list_laws.All.{all_at, all_filter}

-- ---- what names a node of the table

abbrev GoesWithin : ℕ → Output → Type 0
GoesWithin nodes (Message to message) = nat_lt to.0 nodes ≡ true
GoesWithin nodes (Dispatched op key branch timestamp) = Unit {0}
GoesWithin nodes (Viewed first results) = Unit {0}
GoesWithin nodes (Answer op outcome) = Unit {0}

abbrev IsWith : ℕ → Session → Type 0
IsWith nodes session = nat_lt session.server.0 nodes ≡ true

abbrev SessionsWithin : ℕ → Execution → Type 0
SessionsWithin nodes x = AllByRecursion (IsWith nodes) x.sessions

abbrev FollowsWithin : ℕ → Following → Type 0
FollowsWithin nodes f = nat_lt f.primary.0 nodes ≡ true

abbrev AllSessionsWithin : ℕ → List Execution → Type 0
AllSessionsWithin nodes xs = AllByRecursion (SessionsWithin nodes) xs

abbrev AllFollowWithin : ℕ → List Following → Type 0
AllFollowWithin nodes fs = AllByRecursion (FollowsWithin nodes) fs

-- what a node knows are nodes of the table
record LogWithin (nodes : ℕ) (log : LogState) : Type 0 where
  config : log.config.nodes ≡ nodes
  votes : VotesWithin nodes log.raft.votes

record KnowsTable (nodes : ℕ) (s : NodeState) : Type 0 where
  of : s.setup.nodes ≡ nodes
  log : LogWithin nodes s.log
  sessions : AllSessionsWithin nodes s.executions
  follows : AllFollowWithin nodes s.followings

-- a step that sends to nodes of the table alone, and knows no others
record StaysWithin (nodes : ℕ) (step : Stepped) : Type 0 where
  outs : AllByRecursion (GoesWithin nodes) step.outs
  node : KnowsTable nodes step.node

-- ---- lists

module _ (nodes : ℕ) where
  within_sent : (ss : List Session) → AllByRecursion (IsWith nodes) ss → AllByRecursion (IsWith nodes) (map with_sent ss)
  within_sent [] h = tt
  within_sent (s ∷ ss) h = (h.0, within_sent ss h.1)

  within_sends : (part : Part) (ss : List Session) → AllByRecursion (IsWith nodes) ss → AllByRecursion (GoesWithin nodes) (map (sends part) ss)
  within_sends part [] h = tt
  within_sends part (s ∷ ss) h = (h.0, within_sends part ss h.1)

  acked_with : (from : NodeId) (name : SessionName) (upto : ℕ) (s : Session) → IsWith nodes s → IsWith nodes (with_acked from name upto s)
  acked_with from name upto s h = grind arith

  within_acked : (from : NodeId) (name : SessionName) (upto : ℕ) (ss : List Session) → AllByRecursion (IsWith nodes) ss → AllByRecursion (IsWith nodes) (map (with_acked from name upto) ss)
  within_acked from name upto [] h = tt
  within_acked from name upto (s ∷ ss) h = (acked_with from name upto s h.0, within_acked from name upto ss h.1)

  within_answers : (x : Execution) (d : Decided) (q : Option OpId) (rest : List Output) → AllByRecursion (GoesWithin nodes) rest → AllByRecursion (GoesWithin nodes) (answers x.branch d q ++ rest)
  within_answers x d None rest h = h
  within_answers x d (Some q) rest h = (tt, h)

  within_decided : (x : Execution) (ds : List Decided) → AllByRecursion (GoesWithin nodes) (decided_answers x ds)
  within_decided x [] = tt
  within_decided x (d ∷ ds) =
      cond_both (decides x d) (answers x.branch d d.op ++ decided_answers x ds) [] (λ (l : List Output). AllByRecursion (GoesWithin nodes) l)
      (λ _. within_answers x d d.op (decided_answers x ds) (within_decided x ds)) (λ _. tt)

  within_all_decided : (xs : List Execution) → AllByRecursion (GoesWithin nodes) (decide_all_outs xs)
  within_all_decided [] = tt
  within_all_decided (x ∷ xs) = all_append (GoesWithin nodes) (decide_outs x) (decide_all_outs xs) (within_decided x x.dispatch.waiting) (within_all_decided xs)

  -- ---- the rows of a step

  -- what a request gives goes to nodes of the table, and no other becomes known
  record RequestWithin (r : Requested) : Type 0 where
    outs : AllByRecursion (GoesWithin nodes) r.outs
    sessions : AllSessionsWithin nodes r.executions

  dispatch_within : (x : Execution) (rows : Rows) (versions : Pieced Version) (op : OpId) (key : List ℕ) (what : Op) → SessionsWithin nodes x
      → AllByRecursion (GoesWithin nodes) (dispatch_row x rows versions op key what).outs × SessionsWithin nodes (dispatch_row x rows versions op key what).execution
  dispatch_within x rows versions op key what h =
      let part : Part = part_of (value_of rows key) (x.last + 1) key what in
      let sessions : List Session = filter has_room x.sessions in
      let with = all_filter (IsWith nodes) has_room x.sessions h in
      (all_append (GoesWithin nodes) (map (sends part) sessions) (Dispatched op key x.branch (x.last + 1) ∷ []) (within_sends part sessions with) (tt, tt), within_sent sessions with)

  request_within : (hashes : ℕ) (xs : List Execution) (rows : Rows) (versions : Pieced Version) (op : OpId) (key : List ℕ) (what : Op) → AllSessionsWithin nodes xs
      → RequestWithin (request_all hashes xs rows versions op key what)
  request_within hashes [] rows versions op key what h = record { outs = (tt, tt); sessions = tt }
  request_within hashes (x ∷ xs) rows versions op key what h =
      let here = dispatch_within x rows versions op key what h.0 in
      let later = request_within hashes xs rows versions op key what h.1 in
      cond_both (is_for hashes key x) (dispatched (dispatch_row x rows versions op key what) xs) (passed_on x (request_all hashes xs rows versions op key what)) RequestWithin
      (λ _. record { outs = here.0; sessions = (here.1, h.1) })
      (λ _. record { outs = later.outs; sessions = (h.0, later.sessions) })

  given_up_within : (x : Execution) (op : OpId) (o : Option Decided) → AllByRecursion (GoesWithin nodes) (given_up x.dispatch.acks x.contract x.me.0 op o)
  given_up_within x op None = tt
  given_up_within x op (Some d) =
      cond_both (is_decided x.dispatch.acks x.contract x.me.0 d.at) [] (Answer op (NoMajority (counts_of x.dispatch.acks x.contract x.me.0 d.at)) ∷ []) (λ (l : List Output). AllByRecursion (GoesWithin nodes) l)
      (λ _. tt) (λ _. (tt, tt))

  give_up_within : (xs : List Execution) (op : OpId) → AllSessionsWithin nodes xs → AllByRecursion (GoesWithin nodes) (give_up_all_outs xs op) × AllSessionsWithin nodes (give_up_all xs op)
  give_up_within [] op h = (tt, tt)
  give_up_within (x ∷ xs) op h =
      let rest = give_up_within xs op h.1 in
      (all_append (GoesWithin nodes) (give_up_outs x op) (give_up_all_outs xs op) (given_up_within x op (pending_of x.dispatch.waiting op)) rest.0, (h.0, rest.1))

  part_within : (view : ℕ) (f : Following) (rows : Rows) (versions : Pieced Version) (from : NodeId) (stream : Stream) → FollowsWithin nodes f
      → AllByRecursion (GoesWithin nodes) (stream_row f rows versions from stream view).outs × FollowsWithin nodes (stream_row f rows versions from stream view).following
  part_within view f rows versions from stream h =
      let P : FollowingStep → Type 0 = λ step. AllByRecursion (GoesWithin nodes) step.outs × FollowsWithin nodes step.following in
      let again : FollowingStep = record { following = f; rows = rows; versions = versions; outs = acknowledgement f view ∷ [] } in
      let next : FollowingStep = apply_part f rows versions stream view in
      cond_both (is_ours f from stream) (take_part f rows versions stream view) (quiet f rows versions) P
      (λ _. cond_both (nat_le stream.number f.got) again (cond (is_next f stream) next (quiet f rows versions)) P (λ _. ((h, tt), h))
      (λ _. cond_both (is_next f stream) next (quiet f rows versions) P (λ _. ((h, tt), h)) (λ _. (tt, h))))
      (λ _. (tt, h))

  record StreamWithin (r : Streamed) : Type 0 where
    outs : AllByRecursion (GoesWithin nodes) r.outs
    follows : AllFollowWithin nodes r.followings

  stream_within : (view : ℕ) (fs : List Following) (rows : Rows) (versions : Pieced Version) (from : NodeId) (stream : Stream) → AllFollowWithin nodes fs → StreamWithin (stream_all fs rows versions from stream view)
  stream_within view [] rows versions from stream h = record { outs = tt; follows = tt }
  stream_within view (f ∷ fs) rows versions from stream h =
      let here = part_within view f rows versions from stream h.0 in
      let later = stream_within view fs rows versions from stream h.1 in
      cond_both (is_ours f from stream) (taken (stream_row f rows versions from stream view) fs) (left_alone f (stream_all fs rows versions from stream view)) StreamWithin
      (λ _. record { outs = here.0; follows = (here.1, h.1) })
      (λ _. record { outs = later.outs; follows = (h.0, later.follows) })

  got_within : (xs : List Execution) (from : NodeId) (got : Got) → AllSessionsWithin nodes xs → AllSessionsWithin nodes (got_all xs from got)
  got_within [] from got h = tt
  got_within (x ∷ xs) from got h = (
    cond_both (is_live x from got.session) (record x { sessions = map (with_acked from got.session got.upto) x.sessions; dispatch = with_stands x.dispatch from got got.stands }) x
        (SessionsWithin nodes) (λ _. within_acked from got.session got.upto x.sessions h.0) (λ _. h.0),
    got_within xs from got h.1,
  )

  decided_within : (xs : List Execution) → AllSessionsWithin nodes xs → AllSessionsWithin nodes (decide_all xs)
  decided_within [] h = tt
  decided_within (x ∷ xs) h = (h.0, decided_within xs h.1)

  -- ---- what starts

  placed_within : (cs : List Contract) (x : Execution) (ys : List Execution) → SessionsWithin nodes x → AllSessionsWithin nodes ys → AllSessionsWithin nodes (placed cs x ys)
  placed_within cs x [] h k = (h, tt)
  placed_within cs x (y ∷ ys) h k =
      cond_both (nat_lt (place_of cs x.contract.id) (place_of cs y.contract.id)) (x ∷ y ∷ ys) (y ∷ placed cs x ys) (AllSessionsWithin nodes) (λ _. (h, k)) (λ _. (k.0, placed_within cs x ys h k.1))

  one_within : (me : NodeId) (cs : List Contract) (a : Asking) (initial : Option ℕ) (s : Starting) → AllSessionsWithin nodes s.executions → AllSessionsWithin nodes (start_one me cs a initial s).executions
  one_within me cs a None s h = h
  one_within me cs a (Some initial) s h = placed_within cs (started a me initial) s.executions tt h

  starts_within : (me : NodeId) (t : TableNow) (rest : List Asking) (s : Starting) → AllSessionsWithin nodes s.executions → AllSessionsWithin nodes (start_each me t rest s).executions
  starts_within me t [] s h = h
  starts_within me t (a ∷ rest) s h = starts_within me t rest (start_one me t.contracts a (due t a) s) (one_within me t.contracts a (due t a) s h)

  -- ---- what is said of contracts

  says_within : (to : Option NodeId) (c : Contract) (ack : Option Ack) → LeaderWithin nodes to → AllByRecursion (GoesWithin nodes) (says_to to c ack)
  says_within None c ack h = tt
  says_within (Some leader) c None h = tt
  says_within (Some leader) c (Some ack) h = (h, tt)

  acknowledged_within : (c : Contract) (primary : NodeId) (view : ℕ) (fs : List Following) → AllFollowWithin nodes fs → AllByRecursion (GoesWithin nodes) (acknowledgements_to c primary view fs)
  acknowledged_within c primary view [] h = tt
  acknowledged_within c primary view (f ∷ fs) h =
      let rest = acknowledged_within c primary view fs h.1 in
      cond_both (is_following_under c primary f) (acknowledgement f view ∷ acknowledgements_to c primary view fs) (acknowledgements_to c primary view fs) (λ (l : List Output). AllByRecursion (GoesWithin nodes) l)
      (λ _. (h.0, rest)) (λ _. rest)

  acknowledges_within : (c : Contract) (view : ℕ) (fs : List Following) (h : Option Holder) → AllFollowWithin nodes fs → AllByRecursion (GoesWithin nodes) (acknowledges c view fs h)
  acknowledges_within c view fs None h = tt
  acknowledges_within c view fs (Some holder) h = acknowledged_within c holder.server view fs h

  said_within : (me : NodeId) (leader : Option NodeId) (current : Pieced Id) (versions : Pieced Version) (view : ℕ) (r : Roles) (cs : List Contract) → LeaderWithin nodes leader → AllFollowWithin nodes r.followings
      → AllByRecursion (GoesWithin nodes) (says_all me leader current versions view r cs)
  said_within me leader current versions view r [] to h = tt
  said_within me leader current versions view r (c ∷ cs) to h =
      let said = says_to leader c (ack_under me current versions r c c.primary) in
      let acks = acknowledges c view r.followings c.primary in
      all_append (GoesWithin nodes) (says_under me leader current versions view r c) (says_all me leader current versions view r cs)
      (cond_both (has c.replicas me.0) (said ++ acks) [] (λ (l : List Output). AllByRecursion (GoesWithin nodes) l)
      (λ _. all_append (GoesWithin nodes) said acks (says_within leader c (ack_under me current versions r c c.primary) to) (acknowledges_within c view r.followings c.primary h)) (λ _. tt))
      (said_within me leader current versions view r cs to h)

  -- ---- the log

  member_within : (ks : List ℕ) (n : ℕ) → nat_lt n nodes ≡ true → AllByRecursion (λ k. nat_lt k nodes ≡ true) ks → AllByRecursion (λ k. nat_lt k nodes ≡ true) (with_member ks n)
  member_within [] n l h = (l, tt)
  member_within (k ∷ ks) n l h =
      let All : List ℕ → Type 0 = λ xs. AllByRecursion (λ k. nat_lt k nodes ≡ true) xs in
      cond_both (nat_lt n k) (n ∷ k ∷ ks) (cond (k == n) (k ∷ ks) (k ∷ with_member ks n)) All (λ _. (l, h))
      (λ _. cond_both (k == n) (k ∷ ks) (k ∷ with_member ks n) All (λ _. h) (λ _. (h.0, member_within ks n l h.1)))

  nodes_within : (m : ℕ) → m ≤ nodes → AllByRecursion (λ k. nat_lt k nodes ≡ true) (all_nodes m)
  nodes_within zero l = tt
  nodes_within (suc m) l = member_within (all_nodes m) m (lt-ltb m nodes (omega (arith, l))) (nodes_within m (omega (arith, l)))

  log_sends : (sent : List (NodeId × RaftMessage Change)) → SendsWithin nodes sent → AllByRecursion (GoesWithin nodes) (raft_outs sent)
  log_sends [] h = tt
  log_sends (x ∷ xs) h = (h.0, log_sends xs h.1)

  one_proposed : (log : LogState) (change : Change) → LogWithin nodes log → LogWithin nodes (propose_one log change)
  one_proposed log change h =
      let raft : RaftState Change = with_entry log.raft change in
      cond_both (fits log.config.hashes change && not (is_full log.raft.log)) (with_proposed log change) log (LogWithin nodes)
      (λ _. record {
        config = h.config;
        votes = cond_both (is_leader log.raft.votes.role) (record raft { view = max raft.view (decided raft.votes raft.log raft.peers) }) raft (λ (r : RaftState Change). VotesWithin nodes r.votes) (λ _. h.votes) (λ _. h.votes);
      })
      (λ _. h)

  all_proposed : (log : LogState) (changes : List Change) → LogWithin nodes log → LogWithin nodes (propose_all log changes)
  all_proposed log [] h = h
  all_proposed log (c ∷ cs) h = all_proposed (propose_one log c) cs (one_proposed log c h)

  proposals_known : (s : NodeState) → KnowsTable nodes s → KnowsTable nodes (with_proposals s)
  proposals_known s h =
      cond_both (coordinates s.log) (record s { log = propose_all s.log (proposals_of s.acks (table_of s.log)); acks = after_proposals s.acks (table_of s.log) }) s (KnowsTable nodes)
      (λ _. record { of = h.of; log = all_proposed s.log (proposals_of s.acks (table_of s.log)) h.log; sessions = h.sessions; follows = h.follows }) (λ _. h)

  restarted_within : (log : LogState) → LogWithin nodes log → LogWithin nodes (restarted log)
  restarted_within log h =
      record { config = h.config; votes = record { me = h.votes.me; all = subst (λ k. AllByRecursion (λ j. nat_lt j nodes ≡ true) (all_nodes k)) (sym h.config) (nodes_within nodes (omega arith)); leader = tt } }

  -- ---- every row

  stays_silent : (s : NodeState) → KnowsTable nodes s → StaysWithin nodes (silent s)
  stays_silent s h = record { outs = tt; node = h }

  log_stays : (s : NodeState) (input : RaftInput Change) → KnowsTable nodes s → RaftWithin nodes (raft_step Noop s.log.raft input) → StaysWithin nodes (with_log s (log_step s.log input))
  log_stays s input h r =
      record { outs = log_sends (raft_step Noop s.log.raft input).sent r.sent; node = record { of = h.of; log = record { config = h.log.config; votes = r.votes }; sessions = h.sessions; follows = h.follows } }

  tick_stays : (s : NodeState) → KnowsTable nodes s → StaysWithin nodes (tick_row s)
  tick_stays s h =
      let p : NodeState = with_proposals s in
      let known = proposals_known s h in
      let step : Stepped = tick_log p in
      let ticked = log_stays p (raft.Tick p.unseen) known (raft_ticks nodes Noop p.log.raft known.log.votes p.unseen) in
      let t : NodeState = step.node in
      record {
        outs = all_append (GoesWithin nodes) step.outs (says_now t) ticked.outs
            (said_within t.me t.log.raft.votes.leader (current_of (table_of t.log)) t.versions t.log.acted (roles_of t) (table_of t.log).contracts ticked.node.log.votes.leader ticked.node.follows);
        node = ticked.node;
      }

  message_stays : (s : NodeState) (from : NodeId) (m : Sent) → nat_lt from.0 nodes ≡ true → KnowsTable nodes s → StaysWithin nodes (message_row s from m)
  message_stays s from (message.Raft m) f h = log_stays s (raft.Deliver from m) h (raft_takes nodes Noop s.log.raft h.log.votes from m f)
  message_stays s from (message.Say contract ack) f h =
      cond_both (leads s.log) (record s { acks = with_ack contract from ack s.acks }) s (λ (t : NodeState). StaysWithin nodes (silent t))
      (λ _. record { outs = tt; node = record { of = h.of; log = h.log; sessions = h.sessions; follows = h.follows } }) (λ _. stays_silent s h)
  message_stays s from (message.Stream stream) f h =
      let r = stream_within s.log.acted s.followings s.rows s.versions from stream h.follows in
      record { outs = r.outs; node = record { of = h.of; log = h.log; sessions = h.sessions; follows = r.follows } }
  message_stays s from (message.Got got) f h =
      record { outs = tt; node = record { of = h.of; log = h.log; sessions = got_within s.executions from got h.sessions; follows = h.follows } }

  brought_stays : (s : NodeState) (b : Option Brought) → KnowsTable nodes s → StaysWithin nodes (brought_row s b)
  brought_stays s None h = stays_silent s h
  brought_stays s (Some b) h =
      cond_both (is_well_formed s b) (message_row s b.from b.message) (silent s) (StaysWithin nodes)
      (λ e.
      let from : nat_lt b.from.0 nodes ≡ true = subst (λ k. nat_lt b.from.0 k ≡ true) h.of (and_parts (nat_lt b.from.0 s.setup.nodes) (message_fits s b.from b.message) e).0 in
      message_stays s b.from b.message from h)
      (λ _. stays_silent s h)

  row_stays : (s : NodeState) (input : Input) (b : Option Brought) → KnowsTable nodes s → StaysWithin nodes (input_row s input b)
  row_stays s (Request op key what) b h =
      let r = request_within s.setup.hashes s.executions s.rows s.versions op key what h.sessions in
      record { outs = r.outs; node = record { of = h.of; log = h.log; sessions = r.sessions; follows = h.follows } }
  row_stays s (GiveUp op) b h =
      let r = give_up_within s.executions op h.sessions in
      record { outs = r.0; node = record { of = h.of; log = h.log; sessions = r.1; follows = h.follows } }
  row_stays s (See other up) b h = record { outs = tt; node = record { of = h.of; log = h.log; sessions = h.sessions; follows = h.follows } }
  row_stays s Tick b h = tick_stays s h
  row_stays s (Deliver number) b h = brought_stays s b h
  row_stays s Crash b h = record { outs = tt; node = record { of = h.of; log = restarted_within s.log h.log; sessions = tt; follows = tt } }
  row_stays s Restart b h = record { outs = tt; node = record { of = h.of; log = restarted_within s.log h.log; sessions = tt; follows = tt } }

  act_stays : (step : Stepped) (v : Option Results) → StaysWithin nodes step → StaysWithin nodes (act_on step v)
  act_stays step None h = h
  act_stays step (Some v) h =
      let s : NodeState = step.node in
      record {
        outs = all_append (GoesWithin nodes) step.outs (Viewed v.first v.results ∷ []) h.outs (tt, tt);
        node = record {
          of = h.node.of;
          log = record { config = h.node.log.config; votes = h.node.log.votes };
          sessions = starts_within s.me (table_of (caught_up s.log)) s.asking (record { asking = []; executions = s.executions; versions = s.versions }) h.node.sessions;
          follows = h.node.follows;
        };
      }

  step_stays : (s : NodeState) (input : Input) (b : Option Brought) → KnowsTable nodes s → StaysWithin nodes (node_step s input b)
  step_stays s input b h =
      let row : Stepped = input_row s input b in
      let step : Stepped = act row in
      let r = act_stays row (viewed row.node.log) (row_stays s input b h) in
      record {
        outs = all_append (GoesWithin nodes) step.outs (decide_all_outs step.node.executions) r.outs (within_all_decided step.node.executions);
        node = record { of = r.node.of; log = r.node.log; sessions = decided_within step.node.executions r.node.sessions; follows = r.node.follows };
      }

-- ---- runs

-- the node of an entry is one of the table
pub node_within : (setup : SetupState) (past : List Entry) (e : Entry) → IsStep setup past e → nat_lt e.node.0 setup.nodes ≡ true
node_within setup past e h =
    let s : NodeState = state setup e.node.0 past in
    let named : Bool = nat_lt e.node.0 setup.nodes && names_node setup e.input in
    let most = and_parts (named && arrives past e.node e.input && suits s.up e.input && is_fresh past e.input) (not (ends_numbers s e.input (brought past e.input))) h.allowed in
    let fits = and_parts (named && arrives past e.node e.input && suits s.up e.input) (is_fresh past e.input) most.0 in
    let comes = and_parts (named && arrives past e.node e.input) (suits s.up e.input) fits.0 in
    let names = and_parts named (arrives past e.node e.input) comes.0 in
    (and_parts (nat_lt e.node.0 setup.nodes) (names_node setup e.input) names.0).0

knows_table : (setup : SetupState) → IsSetup setup → (past : List Entry) → IsRun setup past → (n : ℕ) → n < setup.nodes → KnowsTable setup.nodes (state setup n past)
knows_table setup valid [] run n h =
    let begun = begins_within setup valid n h in
    record {
      of = refl;
      log = record { config = refl; votes = record { me = lt-ltb n setup.nodes h; all = nodes_within setup.nodes setup.nodes (omega arith); leader = tt } };
      sessions = begun.0;
      follows = begun.1;
    }
knows_table setup valid (e ∷ past) run n h =
    let before = knows_table setup valid past run.1 n h in
    cond_both (e.node.0 == n) (moving setup past e n) (state setup n past) (KnowsTable setup.nodes)
    (λ _. (step_stays setup.nodes (state setup n past) e.input (brought past e.input) before).node) (λ _. before)

-- a message from a node of the table to one
abbrev pub IsWithin : ℕ → Envelope → Type 0
IsWithin nodes m = (m.from.0 < nodes) × (m.to.0 < nodes)

sent_by_within : (nodes : ℕ) (from : NodeId) (outs : List Output) → from.0 < nodes → AllByRecursion (GoesWithin nodes) outs → AllByRecursion (IsWithin nodes) (sent_by from outs)
sent_by_within nodes from [] f h = tt
sent_by_within nodes from (Message to message ∷ outs) f h = ((f, ltb-true to.0 nodes h.0), sent_by_within nodes from outs f h.1)
sent_by_within nodes from (Dispatched op key branch timestamp ∷ outs) f h = sent_by_within nodes from outs f h.1
sent_by_within nodes from (Viewed first results ∷ outs) f h = sent_by_within nodes from outs f h.1
sent_by_within nodes from (Answer op outcome ∷ outs) f h = sent_by_within nodes from outs f h.1

sent_within : (setup : SetupState) → IsSetup setup → (past : List Entry) → IsRun setup past → AllByRecursion (IsWithin setup.nodes) (sent past)
sent_within setup valid [] h = tt
sent_within setup valid (e ∷ past) h =
    let node = ltb-true e.node.0 setup.nodes (node_within setup past e h.0) in
    let step = step_stays setup.nodes (state setup e.node.0 past) e.input (brought past e.input) (knows_table setup valid past h.1 e.node.0 node) in
    let outs = subst (AllByRecursion (GoesWithin setup.nodes)) (sym h.0.outputs) step.outs in
    all_append (IsWithin setup.nodes) (sent past) (sent_by e.node e.outputs) (sent_within setup valid past h.1) (sent_by_within setup.nodes e.node e.outputs node outs)

-- each message goes from a node of the table to one
pub message_within : (setup : SetupState) → IsSetup setup → (past : List Entry) → IsRun setup past → (number : ℕ) (m : Envelope) → message_at past number ≡ Some m → IsWithin setup.nodes m
message_within setup valid past h number m e =
    cond_both (number == 0) None (slice_get (sent past) (number - 1)) (λ (o : Option Envelope). o ≡ Some m → IsWithin setup.nodes m)
    (λ _ none. cc) (λ _ some. all_at (IsWithin setup.nodes) (sent past) (number - 1) m (sent_within setup valid past h) some) e
