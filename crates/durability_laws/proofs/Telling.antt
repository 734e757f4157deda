-- What the outputs of a step rest on: a message that tells where a secondary stands tells of one of the node's followings, and what
-- is answered as done was decided by an execution of the node.
use Rattle.std.proofs.Common.{◌≡◌, ℕ, ◌+◌, true, List, [], ◌∷◌, ◌++◌, map, filter, Option, Some, None, inl, inr, refl, sym, subst}
use Rattle.std.proofs.lemmas.Bool.{cond_both}
use Rattle.std.specs.List.{AllByRecursion, flat_map}
use Rattle.row_runs.specs.runs.region_map.declared.id.Id.{Id}
use Rattle.row_runs.specs.runs.region_map.declared.id.NodeId.{NodeId}
use Rattle.row_runs.specs.runs.region_map.Maps.{Pieced}
use Rattle.row_runs.specs.runs.region_map.Nodes.{has}
use Rattle.row_runs.specs.runs.raft_vote.declared.message.RaftMessage.{RaftMessage}
use Rattle.row_runs.specs.runs.raft_node.declared.input.RaftInput.TheVariants as raft
use Rattle.row_runs.specs.runs.branch_history.declared.version.Version.{Version}
use Rattle.row_runs.specs.runs.register_laws.declared.operation.OpId.{OpId}
use Rattle.row_runs.specs.runs.register_laws.declared.operation.Op.{Op}
use Rattle.row_runs.specs.runs.contract_types.declared.ack.Ack.{Ack}
use Rattle.row_runs.specs.runs.contract_types.declared.change.Change.{Change}
use Rattle.row_runs.specs.runs.contract_types.declared.contract.Contract.{Contract}
use Rattle.row_runs.specs.runs.contract_types.declared.contract.Holder.{Holder}
use Rattle.row_runs.specs.runs.contract_types.declared.results.Viewed.{Viewed as Results}
use Rattle.row_runs.specs.runs.table_log.Logs.{LogStepped, table_of, viewed, log_step}
use Rattle.row_runs.specs.runs.exec_types.declared.input.Input.{Input}
use Rattle.row_runs.specs.runs.exec_types.declared.input.Input.TheVariants.{Request, GiveUp, See, Tick, Deliver, Crash, Restart}
use Rattle.row_runs.specs.runs.exec_types.declared.message.Message.{Message as Sent}
use Rattle.row_runs.specs.runs.exec_types.declared.message.Message.TheVariants as message
use Rattle.row_runs.specs.runs.exec_types.declared.message.Part.{Part}
use Rattle.row_runs.specs.runs.exec_types.declared.message.Stream.{Stream}
use Rattle.row_runs.specs.runs.exec_types.declared.outcome.Outcome.{Outcome}
use Rattle.row_runs.specs.runs.exec_types.declared.outcome.Outcome.TheVariants.{Done, NotServing, NoMajority}
use Rattle.row_runs.specs.runs.exec_types.declared.output.Output.{Output}
use Rattle.row_runs.specs.runs.exec_types.declared.output.Output.TheVariants.{Message, Dispatched, Viewed, Answer}
use Rattle.row_runs.specs.runs.store_api.Rows.{Rows, value_of}
use Rattle.row_runs.specs.runs.write_dispatch.declared.decided.Decided.{Decided}
use Rattle.row_runs.specs.runs.write_dispatch.Dispatch.{counts_of, is_decided, pending_of}
use Rattle.row_runs.specs.runs.secondary_exec.declared.following.Following.{Following}
use Rattle.row_runs.specs.runs.secondary_exec.Stream.{FollowingStep, is_ours, stream_row, acknowledgement}
use Rattle.row_runs.specs.runs.primary_exec.declared.session.Session.{Session}
use Rattle.row_runs.specs.runs.primary_exec.Execution.{Execution, has_room, sends, part_of, dispatch_row, answers, decides, decided_answers, decide_outs, given_up, give_up_outs}
use Rattle.row_runs.specs.runs.node_core.declared.node.Brought.{Brought}
use Rattle.row_runs.specs.runs.node_core.Parts.{Requested, Streamed, is_for, dispatched, passed_on, request_all, taken, left_alone, stream_all, give_up_all_outs, decide_all_outs}
use Rattle.row_runs.specs.runs.node_core.Saying.{Roles as Said, is_following_under, says_to, ack_under, acknowledgements_to, acknowledges, says_under, says_all}
use Rattle.row_runs.specs.runs.node_core.Starting.{current_of}
use Rattle.row_runs.specs.runs.node_core.Step.{NodeState, Stepped, silent, raft_outs, with_log, with_proposals, roles_of, says_now, message_row, is_well_formed, brought_row, input_row, act, act_on, end_step}
use Rattle.row_runs.specs.runs.Story.{IsIn}
use Rattle.row_runs.proofs.step_runs.Outs.{stream_cases}
use Rattle.row_runs.proofs.StoredSteps.{all_weaker, all_append}
use Rattle.durability_laws.proofs.Places.{act_follows}

-- ---- what is told

-- a message that tells where a secondary stands names the session of one of these followings, and where that stands
abbrev pub GotIn : List Following → Sent → Type 0
GotIn fs (message.Raft m) = Unit {0}
GotIn fs (message.Say contract ack) = Unit {0}
GotIn fs (message.Stream s) = Unit {0}
GotIn fs (message.Got g) = (f : Following) × IsIn fs f × (g.session ≡ f.session) × (g.stands ≡ Some f.position)

-- what this says of each operation that is answered as done
abbrev pub DoneIn : (OpId → Id → ℕ → Type 0) → OpId → Outcome → Type 0
DoneIn D op (Done reply branch at) = D op branch at
DoneIn D op NotServing = Unit {0}
DoneIn D op (NoMajority counts) = Unit {0}

abbrev pub OutIn : List Following → (OpId → Id → ℕ → Type 0) → Output → Type 0
OutIn fs D (Message to m) = GotIn fs m
OutIn fs D (Dispatched op key branch timestamp) = Unit {0}
OutIn fs D (Viewed first results) = Unit {0}
OutIn fs D (Answer op outcome) = DoneIn D op outcome

-- what an execution that decides a pending operation says of it
abbrev pub Decides : (OpId → Id → ℕ → Type 0) → Execution → Type 0
Decides D x = (d : Decided) → IsIn x.dispatch.waiting d → decides x d ≡ true → (op : OpId) → d.op ≡ Some op → D op x.branch d.at

module _ (D : OpId → Id → ℕ → Type 0) where
  abbrev Tell : List Following → List Output → Type 0
  Tell fs outs = AllByRecursion (OutIn fs D) outs

  got_more : (f : Following) (fs : List Following) (m : Sent) → GotIn fs m → GotIn (f ∷ fs) m
  got_more f fs (message.Raft m) h = tt
  got_more f fs (message.Say contract ack) h = tt
  got_more f fs (message.Stream s) h = tt
  got_more f fs (message.Got g) h = (h.0, inr h.1, h.2, h.3)

  out_more : (f : Following) (fs : List Following) (o : Output) → OutIn fs D o → OutIn (f ∷ fs) D o
  out_more f fs (Message to m) h = got_more f fs m h
  out_more f fs (Dispatched op key branch timestamp) h = tt
  out_more f fs (Viewed first results) h = tt
  out_more f fs (Answer op outcome) h = h

  -- ---- answers

  answers_tell : (fs : List Following) (x : Execution) (d : Decided) (op : Option OpId) (rest : List Output) → ((q : OpId) → op ≡ Some q → D q x.branch d.at) → Tell fs rest → Tell fs (answers x.branch d op ++ rest)
  answers_tell fs x d None rest here h = h
  answers_tell fs x d (Some op) rest here h = (here op refl, h)

  decided_tell : (fs : List Following) (x : Execution) (ds : List Decided) → ((d : Decided) → IsIn ds d → decides x d ≡ true → (op : OpId) → d.op ≡ Some op → D op x.branch d.at) → Tell fs (decided_answers x ds)
  decided_tell fs x [] here = tt
  decided_tell fs x (d ∷ ds) here =
      cond_both (decides x d) (answers x.branch d d.op ++ decided_answers x ds) [] (Tell fs)
      (λ is. answers_tell fs x d d.op (decided_answers x ds) (λ q e. here d (inl refl) is q e) (decided_tell fs x ds (λ c i. here c (inr i)))) (λ _. tt)

  all_decided_tell : (fs : List Following) (xs : List Execution) → AllByRecursion (Decides D) xs → Tell fs (decide_all_outs xs)
  all_decided_tell fs [] h = tt
  all_decided_tell fs (x ∷ xs) h = all_append (OutIn fs D) (decide_outs x) (decide_all_outs xs) (decided_tell fs x x.dispatch.waiting h.0) (all_decided_tell fs xs h.1)

  given_up_tell : (fs : List Following) (x : Execution) (op : OpId) (d : Option Decided) → Tell fs (given_up x.dispatch.acks x.contract x.me.0 op d)
  given_up_tell fs x op None = tt
  given_up_tell fs x op (Some d) =
      cond_both (is_decided x.dispatch.acks x.contract x.me.0 d.at) [] (Answer op (NoMajority (counts_of x.dispatch.acks x.contract x.me.0 d.at)) ∷ []) (Tell fs) (λ _. tt) (λ _. (tt, tt))

  all_given_up_tell : (fs : List Following) (xs : List Execution) (op : OpId) → Tell fs (give_up_all_outs xs op)
  all_given_up_tell fs [] op = tt
  all_given_up_tell fs (x ∷ xs) op = all_append (OutIn fs D) (give_up_outs x op) (give_up_all_outs xs op) (given_up_tell fs x op (pending_of x.dispatch.waiting op)) (all_given_up_tell fs xs op)

  -- ---- requests

  sends_tell : (fs : List Following) (part : Part) (ss : List Session) → Tell fs (map (sends part) ss)
  sends_tell fs part [] = tt
  sends_tell fs part (s ∷ ss) = (tt, sends_tell fs part ss)

  request_tell : (fs : List Following) (hashes : ℕ) (xs : List Execution) (rows : Rows) (versions : Pieced Version) (op : OpId) (key : List ℕ) (what : Op) → Tell fs (request_all hashes xs rows versions op key what).outs
  request_tell fs hashes [] rows versions op key what = (tt, tt)
  request_tell fs hashes (x ∷ xs) rows versions op key what =
      let part : Part = part_of (value_of rows key) (x.last + 1) key what in
      cond_both (is_for hashes key x) (dispatched (dispatch_row x rows versions op key what) xs) (passed_on x (request_all hashes xs rows versions op key what)) (λ (r : Requested). Tell fs r.outs)
      (λ _. all_append (OutIn fs D) (map (sends part) (filter has_room x.sessions)) (Dispatched op key x.branch (x.last + 1) ∷ []) (sends_tell fs part (filter has_room x.sessions)) (tt, tt))
      (λ _. request_tell fs hashes xs rows versions op key what)

  -- ---- parts of streams

  stream_tell : (fs : List Following) (rows : Rows) (versions : Pieced Version) (from : NodeId) (stream : Stream) (view : ℕ)
      → Tell (stream_all fs rows versions from stream view).followings (stream_all fs rows versions from stream view).outs
  stream_tell [] rows versions from stream view = tt
  stream_tell (f ∷ fs) rows versions from stream view =
      let rest : Streamed = stream_all fs rows versions from stream view in
      cond_both (is_ours f from stream) (taken (stream_row f rows versions from stream view) fs) (left_alone f rest) (λ (r : Streamed). Tell r.followings r.outs)
      (λ _. stream_cases (λ (r : FollowingStep). Tell (r.following ∷ fs) r.outs) f rows versions from stream view tt ((f, inl refl, refl, refl), tt)
      ((_, inl refl, refl, refl), tt))
      (λ _. all_weaker (OutIn rest.followings D) (OutIn (f ∷ rest.followings) D) (out_more f rest.followings) rest.outs (stream_tell fs rows versions from stream view))

  -- ---- ticks

  raft_tell : (fs : List Following) (xs : List (NodeId × RaftMessage Change)) → Tell fs (raft_outs xs)
  raft_tell fs [] = tt
  raft_tell fs (x ∷ xs) = (tt, raft_tell fs xs)

  flat_tell : {X : Type 0} (fs : List Following) (f : X → List Output) → ((x : X) → Tell fs (f x)) → (xs : List X) → Tell fs (flat_map f xs)
  flat_tell fs f each [] = tt
  flat_tell fs f each (x ∷ xs) = all_append (OutIn fs D) (f x) (flat_map f xs) (each x) (flat_tell fs f each xs)

  says_tell : (fs : List Following) (to : Option NodeId) (c : Contract) (ack : Option Ack) → Tell fs (says_to to c ack)
  says_tell fs None c ack = tt
  says_tell fs (Some leader) c None = tt
  says_tell fs (Some leader) c (Some ack) = (tt, tt)

  acknowledgements_tell : (c : Contract) (primary : NodeId) (view : ℕ) (fs : List Following) → Tell fs (acknowledgements_to c primary view fs)
  acknowledgements_tell c primary view [] = tt
  acknowledgements_tell c primary view (f ∷ fs) =
      let more : List Output = acknowledgements_to c primary view fs in
      let rest : Tell (f ∷ fs) more = all_weaker (OutIn fs D) (OutIn (f ∷ fs) D) (out_more f fs) more (acknowledgements_tell c primary view fs) in
      cond_both (is_following_under c primary f) (acknowledgement f view ∷ more) more (Tell (f ∷ fs)) (λ _. ((f, inl refl, refl, refl), rest)) (λ _. rest)

  acknowledges_tell : (c : Contract) (view : ℕ) (fs : List Following) (h : Option Holder) → Tell fs (acknowledges c view fs h)
  acknowledges_tell c view fs None = tt
  acknowledges_tell c view fs (Some h) = acknowledgements_tell c h.server view fs

  said_tell : (me : NodeId) (leader : Option NodeId) (current : Pieced Id) (versions : Pieced Version) (view : ℕ) (r : Said) (contracts : List Contract)
      → Tell r.followings (says_all me leader current versions view r contracts)
  said_tell me leader current versions view r contracts =
      flat_tell r.followings (says_under me leader current versions view r)
      (λ c.
      let said = says_to leader c (ack_under me current versions r c c.primary) in
      let acks = acknowledges c view r.followings c.primary in
      cond_both (has c.replicas me.0) (said ++ acks) [] (Tell r.followings)
      (λ _. all_append (OutIn r.followings D) said acks (says_tell r.followings leader c (ack_under me current versions r c c.primary)) (acknowledges_tell c view r.followings c.primary)) (λ _. tt))
      contracts

  -- ---- a step

  message_tell : (s : NodeState) (from : NodeId) (m : Sent) → Tell (message_row s from m).node.followings (message_row s from m).outs
  message_tell s from (message.Raft m) = raft_tell s.followings (log_step s.log (raft.Deliver from m)).sent
  message_tell s from (message.Say contract ack) = tt
  message_tell s from (message.Got got) = tt
  message_tell s from (message.Stream stream) = stream_tell s.followings s.rows s.versions from stream s.log.acted

  brought_tell : (s : NodeState) (b : Option Brought) → Tell (brought_row s b).node.followings (brought_row s b).outs
  brought_tell s None = tt
  brought_tell s (Some b) =
      cond_both (is_well_formed s b) (message_row s b.from b.message) (silent s) (λ (step : Stepped). Tell step.node.followings step.outs) (λ _. message_tell s b.from b.message) (λ _. tt)

  row_tell : (s : NodeState) (input : Input) (b : Option Brought) → Tell (input_row s input b).node.followings (input_row s input b).outs
  row_tell s (Request op key what) b = request_tell s.followings s.setup.hashes s.executions s.rows s.versions op key what
  row_tell s (GiveUp op) b = all_given_up_tell s.followings s.executions op
  row_tell s (See other up) b = tt
  row_tell s Tick b =
      let t : NodeState = with_proposals s in
      let r : LogStepped = log_step t.log (raft.Tick t.unseen) in
      let u : NodeState = (with_log t r).node in
      all_append (OutIn u.followings D) (raft_outs r.sent) (says_now u) (raft_tell u.followings r.sent)
      (said_tell u.me u.log.raft.votes.leader (current_of (table_of u.log)) u.versions u.log.acted (roles_of u) (table_of u.log).contracts)
  row_tell s (Deliver number) b = brought_tell s b
  row_tell s Crash b = tt
  row_tell s Restart b = tt

  act_tell : (fs : List Following) (step : Stepped) (v : Option Results) → Tell fs step.outs → Tell fs (act_on step v).outs
  act_tell fs step None h = h
  act_tell fs step (Some v) h = all_append (OutIn fs D) step.outs (Viewed v.first v.results ∷ []) h (tt, tt)

  pub step_tell : (s : NodeState) (input : Input) (b : Option Brought) → AllByRecursion (Decides D) (act (input_row s input b)).node.executions
      → AllByRecursion (OutIn (end_step (input_row s input b)).node.followings D) (end_step (input_row s input b)).outs
  step_tell s input b decides =
      let step : Stepped = input_row s input b in
      let fs : List Following = (end_step step).node.followings in
      let row : Tell fs step.outs = subst (λ l. Tell l step.outs) (sym (act_follows step (viewed step.node.log))) (row_tell s input b) in
      all_append (OutIn fs D) (act step).outs (decide_all_outs (act step).node.executions) (act_tell fs step (viewed step.node.log) row) (all_decided_tell fs (act step).node.executions decides)
