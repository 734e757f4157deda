-- What a step of a node does to what holds of the changes of its log, of the acks that it keeps, and of what it sends.
use Rattle.std.proofs.Common.{◌≡◌, ◌∙◌, ℕ, ◌+◌, ◌==◌, ◌&&◌, Bool, true, cond, not, nat_le, List, [], ◌∷◌, ◌++◌, map, filter, Option, Some, None, inl, inr, refl, sym, ap, subst, append_assoc, append-nil}
use Rattle.std.specs.List.{AllByRecursion, flat_map, list_any}
use Rattle.std.proofs.lemmas.Bool.{cond_both, eqb-true}
use Rattle.log_runs.specs.runs.region_map.declared.id.Id.{Id}
use Rattle.log_runs.specs.runs.region_map.declared.id.NodeId.{NodeId}
use Rattle.log_runs.specs.runs.region_map.Nodes.{node_id, has}
use Rattle.log_runs.specs.runs.region_map.Maps.{Pieced}
use Rattle.log_runs.specs.runs.region_map.Equal.{same_id}
use Rattle.log_runs.specs.runs.branch_history.declared.version.Version.{Version}
use Rattle.log_runs.specs.runs.branch_history.Paths.{Branches}
use Rattle.log_runs.specs.runs.branch_history.Histories.{knows}
use Rattle.log_runs.proofs.runs.branch_history.PathLaws.{id_same}
use Rattle.log_runs.specs.runs.register_laws.declared.operation.OpId.{OpId}
use Rattle.log_runs.specs.runs.register_laws.declared.operation.Op.{Op}
use Rattle.log_runs.specs.runs.raft_vote.declared.message.RaftMessage.{RaftMessage}
use Rattle.log_runs.specs.runs.raft_node.declared.input.RaftInput.TheVariants.{Tick as InputTick, Deliver as InputDeliver}
use Rattle.log_runs.specs.runs.raft_node.Rows.{is_full}
use Rattle.log_runs.specs.runs.raft_node.Rows.{tick_row as raft_tick}
use Rattle.log_runs.specs.runs.contract_types.declared.ack.Ack.{Ack}
use Rattle.log_runs.specs.runs.contract_types.declared.ack.Ack.TheVariants.{NeedBranch, InProgress, Ready, NeedPrimary, Backfilling, Streaming}
use Rattle.log_runs.specs.runs.contract_types.declared.ack.ServerAck.{ServerAck}
use Rattle.log_runs.specs.runs.contract_types.declared.change.Change.{Change}
use Rattle.log_runs.specs.runs.contract_types.declared.change.Change.TheVariants.{Noop, RegisterBranch}
use Rattle.log_runs.specs.runs.contract_types.declared.contract.Contract.{Contract}
use Rattle.log_runs.specs.runs.contract_types.declared.contract.Holder.{Holder}
use Rattle.log_runs.specs.runs.contract_types.declared.results.Viewed.{Viewed}
use Rattle.log_runs.specs.runs.contract_types.Tables.{Table}
use Rattle.log_runs.specs.runs.table_log.Fitting.{fits}
use Rattle.log_runs.specs.runs.table_log.Logs.{LogState, table_of, log_step, with_proposed, viewed}
use Rattle.log_runs.specs.runs.contract_plan.declared.plans.Plan.{Plan}
use Rattle.log_runs.specs.runs.contract_plan.declared.plans.Plan.TheVariants.{Keep, Propose}
use Rattle.log_runs.specs.runs.contract_plan.Plans.{ack_in, planned, plan_under, plan_of}
use Rattle.log_runs.specs.runs.coordinator.declared.acks.ContractAcks.{ContractAcks}
use Rattle.log_runs.specs.runs.coordinator.Acks.{put, with_server_ack, with_ack, acks_under, ack_of}
use Rattle.log_runs.specs.runs.coordinator.Proposals.{proposed, changes_for, proposals_of, is_used, after_proposals}
use Rattle.log_runs.specs.runs.exec_types.declared.message.Message.{Message}
use Rattle.log_runs.specs.runs.exec_types.declared.message.Message.TheVariants as message
use Rattle.log_runs.specs.runs.exec_types.declared.message.Part.{Part}
use Rattle.log_runs.specs.runs.exec_types.declared.message.Stream.{Stream}
use Rattle.log_runs.specs.runs.exec_types.declared.input.Input.{Input}
use Rattle.log_runs.specs.runs.exec_types.declared.input.Input.TheVariants.{Request, GiveUp, See, Tick, Deliver, Crash, Restart}
use Rattle.log_runs.specs.runs.exec_types.declared.outcome.Outcome.TheVariants.{NoMajority}
use Rattle.log_runs.specs.runs.exec_types.declared.output.Output.{Output}
use Rattle.log_runs.specs.runs.exec_types.declared.output.Output.TheVariants as output
use Rattle.log_runs.specs.runs.store_api.Rows.{Rows, value_of}
use Rattle.log_runs.specs.runs.write_dispatch.declared.decided.Decided.{Decided}
use Rattle.log_runs.specs.runs.write_dispatch.Dispatch.{Acks, is_decided, counts_of, pending_of}
use Rattle.log_runs.specs.runs.primary_exec.declared.asking.Asking.{Asking}
use Rattle.log_runs.specs.runs.primary_exec.declared.session.Session.{Session}
use Rattle.log_runs.specs.runs.primary_exec.Execution.{Execution, sends, part_of, has_room, dispatch_row, answers, answers_under, decide_outs, given_up, give_up_outs, needs_branch, said}
use Rattle.log_runs.specs.runs.secondary_exec.declared.following.Following.{Following}
use Rattle.log_runs.specs.runs.secondary_exec.Stream.{FollowingStep, stream_row, is_ours, take_part, is_next, apply_part, acknowledgement, quiet}
use Rattle.log_runs.specs.runs.node_core.declared.node.Brought.{Brought}
use Rattle.log_runs.specs.runs.node_core.Parts.{Requested, Streamed, is_for, request_all, dispatched, passed_on, stream_all, taken, left_alone, give_up_all_outs, decide_all_outs}
use Rattle.log_runs.specs.runs.node_core.Starting.{current_of}
use Rattle.log_runs.specs.runs.node_core.Saying.{Roles, is_asking_under, is_run_under, is_waiting_under, is_following_under, or_ack, asking_ack, execution_ack, waiting_ack, following_ack, says_to, ack_under, acknowledgements_to, acknowledges, says_under, says_all}
use Rattle.log_runs.specs.runs.node_core.Step.{NodeState, Stepped, silent, leads, raft_outs, acks_after, take_raft, propose_one, propose_all, coordinates, with_proposals, roles_of, says_now, tick_row, message_row, is_well_formed, brought_row, input_row, act_on, act, end_step, node_step}
use Rattle.log_runs.specs.runs.declared.envelope.Envelope.{Envelope}
use Rattle.log_runs.specs.runs.Run.{sent_by}
use Rattle.log_runs.specs.runs.Story.{IsIn}
use Rattle.log_runs.proofs.step_runs.PointBranches.{all_append}
use Rattle.log_runs.proofs.runs.list_laws.All.{all_filter}
use Rattle.change_runs.proofs.AskedRunsLogs.{Each, Carries, Sends, IsGrown, ticked_log, proposed_log, each_ticked, each_delivered, each_proposed, tick_carries, deliver_carries}
use Rattle.change_runs.proofs.AskedRunsTables.{Extends}

-- ---- lists

all_flat : {A B : Type 0} (P : B → Type 0) (f : A → List B) → ((x : A) → AllByRecursion P (f x)) → (xs : List A) → AllByRecursion P (flat_map f xs)
all_flat P f each [] = tt
all_flat P f each (x ∷ xs) = all_append P (f x) (flat_map f xs) (each x) (all_flat P f each xs)

all_put : {A : Type 0} (P : A → Type 0) (passes : A → Bool) (change : A → A) (new : A) (xs : List A) → ((x : A) → P x → passes x ≡ true → P (change x)) → P new → AllByRecursion P xs → AllByRecursion P (put passes change new xs)
all_put P passes change new [] f p h = (p, tt)
all_put P passes change new (x ∷ xs) f p h =
    cond_both (passes x) (change x ∷ xs) (x ∷ put passes change new xs) (AllByRecursion P) (λ e. (f x h.0 e, h.1)) (λ _. (h.0, all_put P passes change new xs f p h.1))

-- nodes of one number are one
pub node_same : (a b : NodeId) → (a.0 == b.0) ≡ true → a ≡ b
node_same a b e = ap node_id (eqb-true a.0 b.0 e)

-- P holds of changes, and R of a server, a contract's id, and what the server asks for under it
module _ (P : Change → Type 0) (R : NodeId → Id → Id → Pieced Id → Pieced Version → Type 0) where
  -- ---- what is said

  abbrev pub SaysRight : NodeId → Id → Ack → Type 0
  SaysRight server contract (NeedBranch branch based_on origin) = R server contract branch based_on origin
  SaysRight server contract InProgress = Unit {0}
  SaysRight server contract Ready = Unit {0}
  SaysRight server contract (NeedPrimary versions) = Unit {0}
  SaysRight server contract Backfilling = Unit {0}
  SaysRight server contract Streaming = Unit {0}

  abbrev pub Claims : NodeId → Message → Type 0
  Claims from (message.Raft m) = Carries P m
  Claims from (message.Say contract ack) = SaysRight from contract ack
  Claims from (message.Stream stream) = Unit {0}
  Claims from (message.Got got) = Unit {0}

  abbrev pub ClaimsOut : NodeId → Output → Type 0
  ClaimsOut from (output.Message to m) = Claims from m
  ClaimsOut from (output.Dispatched op key branch timestamp) = Unit {0}
  ClaimsOut from (output.Viewed first results) = Unit {0}
  ClaimsOut from (output.Answer op outcome) = Unit {0}

  abbrev pub AllClaim : NodeId → List Output → Type 0
  AllClaim from outs = AllByRecursion (ClaimsOut from) outs

  abbrev pub ClaimsSent : Envelope → Type 0
  ClaimsSent e = Claims e.from e.message

  abbrev pub ClaimsBrought : Option Brought → Type 0
  ClaimsBrought None = Unit {0}
  ClaimsBrought (Some b) = Claims b.from b.message

  pub sent_claims : (n : NodeId) (outs : List Output) → AllClaim n outs → AllByRecursion ClaimsSent (sent_by n outs)
  sent_claims n [] h = tt
  sent_claims n (output.Message to m ∷ outs) h = (h.0, sent_claims n outs h.1)
  sent_claims n (output.Dispatched op key branch timestamp ∷ outs) h = sent_claims n outs h.1
  sent_claims n (output.Viewed first results ∷ outs) h = sent_claims n outs h.1
  sent_claims n (output.Answer op outcome ∷ outs) h = sent_claims n outs h.1

  -- ---- acks

  abbrev pub AckHolds : Id → ServerAck → Type 0
  AckHolds contract a = SaysRight a.server contract a.ack

  abbrev pub AcksHold : ContractAcks → Type 0
  AcksHold c = AllByRecursion (AckHolds c.contract) c.acks

  server_acks : (contract : Id) (server : NodeId) (ack : Ack) (acks : List ServerAck) → SaysRight server contract ack → AllByRecursion (AckHolds contract) acks → AllByRecursion (AckHolds contract) (with_server_ack server ack acks)
  server_acks contract server ack acks new h =
      all_put (AckHolds contract) (λ a. a.server.0 == server.0) (λ a. record a { ack = ack }) (record { server = server; ack = ack }) acks
      (λ a _ e. subst (λ (n : NodeId). SaysRight n contract ack) (sym (node_same a.server server e)) new) new h

  acks_with : (contract : Id) (server : NodeId) (ack : Ack) (acks : List ContractAcks) → SaysRight server contract ack → AllByRecursion AcksHold acks → AllByRecursion AcksHold (with_ack contract server ack acks)
  acks_with contract server ack acks new h =
      all_put AcksHold (λ c. same_id c.contract contract) (λ c. record c { acks = with_server_ack server ack c.acks })
      (record { contract = contract; acks = record { server = server; ack = ack } ∷ [] }) acks
      (λ c k e. server_acks c.contract server ack c.acks (subst (λ (i : Id). SaysRight server i ack) (sym (id_same c.contract contract e)) new) k) (new, tt) h

  acks_kept : (t : Table) (acks : List ContractAcks) → AllByRecursion AcksHold acks → AllByRecursion AcksHold (after_proposals acks t)
  acks_kept t [] h = tt
  acks_kept t (c ∷ cs) h = (all_filter (AckHolds c.contract) (λ a. not (is_used t c.contract a)) c.acks h.0, acks_kept t cs h.1)

  under_holds : (acks : List ContractAcks) (contract : Id) → AllByRecursion AcksHold acks → AllByRecursion (AckHolds contract) (acks_under acks contract)
  under_holds [] contract h = tt
  under_holds (c ∷ rest) contract h =
      cond_both (same_id c.contract contract) c.acks (acks_under rest contract) (AllByRecursion (AckHolds contract))
      (λ e. subst (λ (i : Id). AllByRecursion (AckHolds i) c.acks) (id_same c.contract contract e) h.0) (λ _. under_holds rest contract h.1)

  abbrev RightAck : NodeId → Id → Option Ack → Type 0
  RightAck server contract None = Unit {0}
  RightAck server contract (Some ack) = SaysRight server contract ack

  in_holds : (contract : Id) (acks : List ServerAck) (server : NodeId) → AllByRecursion (AckHolds contract) acks → RightAck server contract (ack_in acks server)
  in_holds contract [] server h = tt
  in_holds contract (a ∷ rest) server h =
      cond_both (a.server.0 == server.0) (Some a.ack) (ack_in rest server) (RightAck server contract)
      (λ e. subst (λ (n : NodeId). SaysRight n contract a.ack) (node_same a.server server e) h.0) (λ _. in_holds contract rest server h.1)

  -- ---- proposals

  -- what is asked for under one of these contracts may be registered
  abbrev pub MayRegister : List Contract → Type 0
  MayRegister cs = (c : Contract) → IsIn cs c → (server : NodeId) (branch : Id) (based_on : Pieced Id) (origin : Pieced Version) → R server c.id branch based_on origin → P (RegisterBranch branch c.region c.tenure server based_on origin)

  plan_holds : (c : Contract) (server : NodeId) (history : Branches) (a : Option Ack) → RightAck server c.id a
      → ((branch : Id) (based_on : Pieced Id) (origin : Pieced Version) → R server c.id branch based_on origin → P (RegisterBranch branch c.region c.tenure server based_on origin))
      → AllByRecursion P (proposed (planned c server history a))
  plan_holds c server history None h f = tt
  plan_holds c server history (Some (NeedBranch branch based_on origin)) h f =
      cond_both (knows history branch) Keep (Propose (RegisterBranch branch c.region c.tenure server based_on origin)) (λ (p : Plan). AllByRecursion P (proposed p))
      (λ _. tt) (λ _. (f branch based_on origin h, tt))
  plan_holds c server history (Some InProgress) h f = tt
  plan_holds c server history (Some Ready) h f = tt
  plan_holds c server history (Some (NeedPrimary versions)) h f = tt
  plan_holds c server history (Some Backfilling) h f = tt
  plan_holds c server history (Some Streaming) h f = tt

  under_plan : (c : Contract) (primary : Option Holder) (history : Branches) (acks : List ContractAcks) → AllByRecursion AcksHold acks
      → ((server : NodeId) (branch : Id) (based_on : Pieced Id) (origin : Pieced Version) → R server c.id branch based_on origin → P (RegisterBranch branch c.region c.tenure server based_on origin))
      → AllByRecursion P (proposed (plan_under c primary history (ack_of acks c.id)))
  under_plan c None history acks h f = tt
  under_plan c (Some holder) history acks h f =
      plan_holds c holder.server history (ack_of acks c.id holder.server) (in_holds c.id (acks_under acks c.id) holder.server (under_holds acks c.id h)) (f holder.server)

  changes_hold : (acks : List ContractAcks) (t : Table) (cs : List Contract) → AllByRecursion AcksHold acks → MayRegister cs → AllByRecursion P (changes_for acks t cs)
  changes_hold acks t [] h f = tt
  changes_hold acks t (c ∷ cs) h f =
      all_append P (proposed (plan_of c t (ack_of acks c.id))) (changes_for acks t cs) (under_plan c c.primary t.history acks h (f c (inl refl)))
      (changes_hold acks t cs h (λ d i. f d (inr i)))

  -- ---- a log that grows

  pub record Grows (a b : LogState) : Type 0 where
    pub extends : Extends a b
    pub each : Each P a.raft.log → Each P b.raft.log

  grows_not : (a : LogState) → Grows a a
  grows_not a = record { extends = record { config = refl; acted = refl; rest = []; log = sym (append-nil a.raft.log) }; each = λ h. h }

  grows_twice : (a b c : LogState) → Grows a b → Grows b c → Grows a c
  grows_twice a b c g k =
      record {
        extends =
            record {
              config = k.extends.config ∙ g.extends.config;
              acted = k.extends.acted ∙ g.extends.acted;
              rest = g.extends.rest ++ k.extends.rest;
              log = k.extends.log ∙ ap (λ l. l ++ k.extends.rest) g.extends.log ∙ append_assoc a.raft.log g.extends.rest k.extends.rest;
            };
        each = λ h. k.each (g.each h);
      }

  module _ (idle : P Noop) where
    one_grows : (log : LogState) (change : Change) → P change → Grows log (propose_one log change)
    one_grows log change p =
        cond_both (fits log.config.hashes change && not (is_full log.raft.log)) (with_proposed log change) log (Grows log)
        (λ _. record {
          extends = record { config = refl; acted = refl; rest = record { term = log.raft.votes.term; change = change } ∷ []; log = proposed_log log.raft change };
          each = λ h. each_proposed P Noop idle log.raft h change p;
        })
        (λ _. grows_not log)

    all_grow : (log : LogState) (changes : List Change) → AllByRecursion P changes → Grows log (propose_all log changes)
    all_grow log [] h = grows_not log
    all_grow log (c ∷ cs) h = grows_twice log (propose_one log c) (propose_all (propose_one log c) cs) (one_grows log c h.0) (all_grow (propose_one log c) cs h.1)

    grown_extends : (a b : LogState) (term : ℕ) → b.config ≡ a.config → b.acted ≡ a.acted → IsGrown a.raft.log b.raft.log term Noop → Extends a b
    grown_extends a b term config acted (inl e) = record { config = config; acted = acted; rest = []; log = e ∙ sym (append-nil a.raft.log) }
    grown_extends a b term config acted (inr e) = record { config = config; acted = acted; rest = record { term = term; change = Noop } ∷ []; log = e }

  -- ---- outputs that ask for nothing

  module _ (n : NodeId) where
    both_claim : (xs ys : List Output) → AllClaim n xs → AllClaim n ys → AllClaim n (xs ++ ys)
    both_claim xs ys a b = all_append (ClaimsOut n) xs ys a b

    raft_claim : (sent : List (NodeId × RaftMessage Change)) → Sends P sent → AllClaim n (raft_outs sent)
    raft_claim [] h = tt
    raft_claim (x ∷ xs) h = (h.0, raft_claim xs h.1)

    sends_claim : (part : Part) (ss : List Session) → AllClaim n (map (sends part) ss)
    sends_claim part [] = tt
    sends_claim part (s ∷ ss) = (tt, sends_claim part ss)

    request_claims : (hashes : ℕ) (xs : List Execution) (rows : Rows) (versions : Pieced Version) (op : OpId) (key : List ℕ) (what : Op) → AllClaim n (request_all hashes xs rows versions op key what).outs
    request_claims hashes [] rows versions op key what = (tt, tt)
    request_claims hashes (x ∷ xs) rows versions op key what =
        let part = part_of (value_of rows key) (x.last + 1) key what in
        cond_both (is_for hashes key x) (dispatched (dispatch_row x rows versions op key what) xs) (passed_on x (request_all hashes xs rows versions op key what))
        (λ (r : Requested). AllClaim n r.outs)
        (λ _. both_claim (map (sends part) (filter has_room x.sessions)) (output.Dispatched op key x.branch (x.last + 1) ∷ []) (sends_claim part (filter has_room x.sessions)) (tt, tt))
        (λ _. request_claims hashes xs rows versions op key what)

    given_up_claims : (acks : Acks) (c : Contract) (me : ℕ) (op : OpId) (d : Option Decided) → AllClaim n (given_up acks c me op d)
    given_up_claims acks c me op None = tt
    given_up_claims acks c me op (Some d) =
        cond_both (is_decided acks c me d.at) [] (output.Answer op (NoMajority (counts_of acks c me d.at)) ∷ []) (AllClaim n) (λ _. tt) (λ _. (tt, tt))

    give_up_claims : (xs : List Execution) (op : OpId) → AllClaim n (give_up_all_outs xs op)
    give_up_claims xs op =
        all_flat (ClaimsOut n) (λ (x : Execution). give_up_outs x op) (λ x. given_up_claims x.dispatch.acks x.contract x.me.0 op (pending_of x.dispatch.waiting op)) xs

    part_claims : (f : Following) (rows : Rows) (versions : Pieced Version) (from : NodeId) (stream : Stream) (view : ℕ) → AllClaim n (stream_row f rows versions from stream view).outs
    part_claims f rows versions from stream view =
        let C : FollowingStep → Type 0 = λ step. AllClaim n step.outs in
        cond_both (is_ours f from stream) (take_part f rows versions stream view) (quiet f rows versions) C
        (λ _. cond_both (nat_le stream.number f.got) (record { following = f; rows = rows; versions = versions; outs = acknowledgement f view ∷ [] })
        (cond (is_next f stream) (apply_part f rows versions stream view) (quiet f rows versions)) C (λ _. (tt, tt))
        (λ _. cond_both (is_next f stream) (apply_part f rows versions stream view) (quiet f rows versions) C (λ _. (tt, tt)) (λ _. tt)))
        (λ _. tt)

    stream_claims : (fs : List Following) (rows : Rows) (versions : Pieced Version) (from : NodeId) (stream : Stream) (view : ℕ) → AllClaim n (stream_all fs rows versions from stream view).outs
    stream_claims [] rows versions from stream view = tt
    stream_claims (f ∷ fs) rows versions from stream view =
        cond_both (is_ours f from stream) (taken (stream_row f rows versions from stream view) fs) (left_alone f (stream_all fs rows versions from stream view))
        (λ (r : Streamed). AllClaim n r.outs)
        (λ _. part_claims f rows versions from stream view)
        (λ _. stream_claims fs rows versions from stream view)

    answer_claims : (branch : Id) (d : Decided) (op : Option OpId) → AllClaim n (answers branch d op)
    answer_claims branch d None = tt
    answer_claims branch d (Some op) = (tt, tt)

    answers_claim : (acks : Acks) (c : Contract) (me : ℕ) (branch : Id) (ds : List Decided) → AllClaim n (answers_under acks c me branch ds)
    answers_claim acks c me branch [] = tt
    answers_claim acks c me branch (d ∷ ds) =
        cond_both (is_decided acks c me d.at) (answers branch d d.op ++ answers_under acks c me branch ds) [] (AllClaim n)
        (λ _. both_claim (answers branch d d.op) (answers_under acks c me branch ds) (answer_claims branch d d.op) (answers_claim acks c me branch ds)) (λ _. tt)

    decided_claims : (xs : List Execution) → AllClaim n (decide_all_outs xs)
    decided_claims xs = all_flat (ClaimsOut n) decide_outs (λ x. answers_claim x.dispatch.acks x.contract x.me.0 x.branch x.dispatch.waiting) xs

    -- ---- what is said of contracts

    -- what is asked for under a contract is asked for rightly
    abbrev pub AsksRight : Pieced Id → Pieced Version → List Asking → Contract → Type 0
    AsksRight current versions asking c = (a : Asking) → IsIn asking a → same_id a.contract.id c.id ≡ true → SaysRight n c.id (needs_branch a current versions)

    abbrev SaysWell : Id → Option Ack → Type 0
    SaysWell contract a = RightAck n contract a

    asking_right : (c : Contract) (current : Pieced Id) (versions : Pieced Version) (asking : List Asking) → AsksRight current versions asking c → RightAck n c.id (asking_ack c current versions asking)
    asking_right c current versions [] f = tt
    asking_right c current versions (a ∷ rest) f =
        cond_both (is_asking_under c a) (Some (needs_branch a current versions)) (asking_ack c current versions rest) (RightAck n c.id)
        (λ e. f a (inl refl) e) (λ _. asking_right c current versions rest (λ b i. f b (inr i)))

    said_right : (c : Contract) (x : Execution) → SaysRight n c.id (said x)
    said_right c x = cond_both x.ready Ready InProgress (SaysRight n c.id) (λ _. tt) (λ _. tt)

    execution_right : (c : Contract) (xs : List Execution) → RightAck n c.id (execution_ack c xs)
    execution_right c [] = tt
    execution_right c (x ∷ xs) =
        cond_both (is_run_under c x) (Some (said x)) (execution_ack c xs) (RightAck n c.id) (λ _. said_right c x) (λ _. execution_right c xs)

    or_right : (contract : Id) (a b : Option Ack) → RightAck n contract a → RightAck n contract b → RightAck n contract (or_ack a b)
    or_right contract None b h k = k
    or_right contract (Some a) b h k = h

    under_right : (me : NodeId) (current : Pieced Id) (versions : Pieced Version) (r : Roles) (c : Contract) (primary : Option Holder) → AsksRight current versions r.asking c → RightAck n c.id (ack_under me current versions r c primary)
    under_right me current versions r c None f = tt
    under_right me current versions r c (Some h) f =
        cond_both (h.server.0 == me.0) (or_ack (asking_ack c current versions r.asking) (execution_ack c r.executions)) (or_ack (waiting_ack c h.server r.waiting) (following_ack c h.server r.followings))
        (RightAck n c.id)
        (λ _. or_right c.id (asking_ack c current versions r.asking) (execution_ack c r.executions) (asking_right c current versions r.asking f) (execution_right c r.executions))
        (λ _. or_right c.id (waiting_ack c h.server r.waiting) (following_ack c h.server r.followings)
        (cond_both (list_any (is_waiting_under c h.server) r.waiting) (Some Backfilling) None (RightAck n c.id) (λ _. tt) (λ _. tt))
        (cond_both (list_any (is_following_under c h.server) r.followings) (Some Streaming) None (RightAck n c.id) (λ _. tt) (λ _. tt)))

    says_claim : (to : Option NodeId) (c : Contract) (a : Option Ack) → RightAck n c.id a → AllClaim n (says_to to c a)
    says_claim None c a h = tt
    says_claim (Some leader) c None h = tt
    says_claim (Some leader) c (Some ack) h = (h, tt)

    acknowledgements_claim : (c : Contract) (primary : NodeId) (view : ℕ) (fs : List Following) → AllClaim n (acknowledgements_to c primary view fs)
    acknowledgements_claim c primary view [] = tt
    acknowledgements_claim c primary view (f ∷ fs) =
        cond_both (is_following_under c primary f) (acknowledgement f view ∷ acknowledgements_to c primary view fs) (acknowledgements_to c primary view fs) (AllClaim n)
        (λ _. (tt, acknowledgements_claim c primary view fs)) (λ _. acknowledgements_claim c primary view fs)

    acknowledges_claim : (c : Contract) (view : ℕ) (fs : List Following) (h : Option Holder) → AllClaim n (acknowledges c view fs h)
    acknowledges_claim c view fs None = tt
    acknowledges_claim c view fs (Some h) = acknowledgements_claim c h.server view fs

    all_said : (me : NodeId) (leader : Option NodeId) (current : Pieced Id) (versions : Pieced Version) (view : ℕ) (r : Roles) (contracts : List Contract)
        → ((c : Contract) → IsIn contracts c → AsksRight current versions r.asking c) → AllClaim n (says_all me leader current versions view r contracts)
    all_said me leader current versions view r [] f = tt
    all_said me leader current versions view r (c ∷ cs) f =
        let told = says_to leader c (ack_under me current versions r c c.primary) in
        let acks = acknowledges c view r.followings c.primary in
        both_claim (says_under me leader current versions view r c) (says_all me leader current versions view r cs)
        (cond_both (has c.replicas me.0) (told ++ acks) [] (AllClaim n)
        (λ _. both_claim told acks (says_claim leader c (ack_under me current versions r c c.primary) (under_right me current versions r c c.primary (f c (inl refl)))) (acknowledges_claim c view r.followings c.primary))
        (λ _. tt))
        (all_said me leader current versions view r cs (λ d i. f d (inr i)))

  -- ---- a step

  -- of a node
  pub record Holds (s : NodeState) : Type 0 where
    pub log : Each P s.log.raft.log
    pub acks : AllByRecursion AcksHold s.acks

  pub record StepHolds (n : NodeId) (r : Stepped) : Type 0 where
    pub node : Holds r.node
    pub outs : AllClaim n r.outs

  module _ (idle : P Noop) (n : NodeId) (s : NodeState) (own : Holds s) where
    silently : (t : NodeState) → Holds t → StepHolds n (silent t)
    silently t h = record { node = h; outs = tt }

    -- a tick
    acks_pass : (before after : LogState) (acks : List ContractAcks) → AllByRecursion AcksHold acks → AllByRecursion AcksHold (acks_after before after acks)
    acks_pass before after acks h = cond_both (leads before && leads after) acks [] (AllByRecursion AcksHold) (λ _. h) (λ _. tt)

    -- the log of a tick before it ticks
    pub record Prepared (p : NodeState) : Type 0 where
      pub grows : Grows s.log p.log
      pub acks : AllByRecursion AcksHold p.acks
      pub asking : p.asking ≡ s.asking
      pub versions : p.versions ≡ s.versions

    pub prepared : MayRegister (table_of s.log).contracts → Prepared (with_proposals s)
    prepared may =
        let changes = proposals_of s.acks (table_of s.log) in
        cond_both (coordinates s.log) (record s { log = propose_all s.log changes; acks = after_proposals s.acks (table_of s.log) }) s Prepared
        (λ _. record {
          grows = all_grow idle s.log changes (changes_hold s.acks (table_of s.log) (table_of s.log).contracts own.acks may);
          acks = acks_kept (table_of s.log) s.acks own.acks;
          asking = refl;
          versions = refl;
        })
        (λ _. record { grows = grows_not s.log; acks = own.acks; asking = refl; versions = refl })

    -- a tick only puts entries at the end of the log
    pub tick_extends : MayRegister (table_of s.log).contracts → Extends s.log (tick_row s).node.log
    tick_extends may =
        let p = with_proposals s in
        let before = (prepared may).grows.extends in
        let b = (log_step p.log (InputTick p.unseen)).log in
        let more = grown_extends idle p.log b (raft_tick Noop p.log.raft p.unseen).node.votes.term refl refl (ticked_log Noop p.log.raft p.unseen) in
        record {
          config = more.config ∙ before.config;
          acted = more.acted ∙ before.acted;
          rest = before.rest ++ more.rest;
          log = more.log ∙ ap (λ l. l ++ more.rest) before.log ∙ append_assoc s.log.raft.log before.rest more.rest;
        }

    -- what the node asks for after a tick is asked for rightly
    abbrev pub TicksRight : Type 0
    TicksRight =
        let t = (tick_row s).node in
        (c : Contract) → IsIn (table_of t.log).contracts c → AsksRight n (current_of (table_of t.log)) t.versions t.asking c

    pub ticked : MayRegister (table_of s.log).contracts → TicksRight → StepHolds n (tick_row s)
    ticked may right =
        let p = with_proposals s in
        let before = prepared may in
        let logs = before.grows.each own.log in
        let step = log_step p.log (InputTick p.unseen) in
        let t = (tick_row s).node in
        record {
          node = record { log = each_ticked P Noop idle p.log.raft logs p.unseen; acks = acks_pass p.log step.log p.acks before.acks };
          outs =
              both_claim n (raft_outs step.sent) (says_now t) (raft_claim n step.sent (tick_carries P Noop idle p.log.raft logs p.unseen))
              (all_said n t.me t.log.raft.votes.leader (current_of (table_of t.log)) t.versions t.log.acted (roles_of t) (table_of t.log).contracts right);
        }

    -- ---- messages

    taken_raft : (from : NodeId) (m : RaftMessage Change) → Carries P m → StepHolds n (take_raft s from m)
    taken_raft from m brings =
        let step = log_step s.log (InputDeliver from m) in
        record {
          node = record { log = each_delivered P Noop idle s.log.raft own.log from m brings; acks = acks_pass s.log step.log s.acks own.acks };
          outs = raft_claim n step.sent (deliver_carries P Noop idle s.log.raft own.log from m);
        }

    message_holds : (from : NodeId) (m : Message) → Claims from m → StepHolds n (message_row s from m)
    message_holds from (message.Raft m) brings = taken_raft from m brings
    message_holds from (message.Say contract ack) brings =
        cond_both (leads s.log) (record s { acks = with_ack contract from ack s.acks }) s (λ (t : NodeState). StepHolds n (silent t))
        (λ _. silently (record s { acks = with_ack contract from ack s.acks }) (record { log = own.log; acks = acks_with contract from ack s.acks brings own.acks }))
        (λ _. silently s own)
    message_holds from (message.Stream stream) brings =
        record { node = record { log = own.log; acks = own.acks }; outs = stream_claims n s.followings s.rows s.versions from stream s.log.acted }
    message_holds from (message.Got got) brings = record { node = record { log = own.log; acks = own.acks }; outs = tt }

    brought_holds : (b : Option Brought) → ClaimsBrought b → StepHolds n (brought_row s b)
    brought_holds None brings = silently s own
    brought_holds (Some b) brings =
        cond_both (is_well_formed s b) (message_row s b.from b.message) (silent s) (StepHolds n)
        (λ _. message_holds b.from b.message brings) (λ _. silently s own)

    -- ---- every row

    row_holds : (input : Input) (b : Option Brought) → ClaimsBrought b → MayRegister (table_of s.log).contracts → TicksRight → StepHolds n (input_row s input b)
    row_holds (Request op key what) b brings may right =
        record { node = record { log = own.log; acks = own.acks }; outs = request_claims n s.setup.hashes s.executions s.rows s.versions op key what }
    row_holds (GiveUp op) b brings may right = record { node = record { log = own.log; acks = own.acks }; outs = give_up_claims n s.executions op }
    row_holds (See other up) b brings may right = record { node = record { log = own.log; acks = own.acks }; outs = tt }
    row_holds Tick b brings may right = ticked may right
    row_holds (Deliver number) b brings may right = brought_holds b brings
    row_holds Crash b brings may right = record { node = record { log = own.log; acks = tt }; outs = tt }
    row_holds Restart b brings may right = record { node = record { log = own.log; acks = tt }; outs = tt }

    -- ---- acting and answering

    acts : (r : Stepped) (v : Option Viewed) → StepHolds n r → StepHolds n (act_on r v)
    acts r None h = h
    acts r (Some v) h = record { node = record { log = h.node.log; acks = h.node.acks }; outs = both_claim n r.outs (output.Viewed v.first v.results ∷ []) h.outs (tt, tt) }

    ends : (r : Stepped) → StepHolds n r → StepHolds n (end_step r)
    ends r h =
        let a = acts r (viewed r.node.log) h in
        record {
          node = record { log = a.node.log; acks = a.node.acks };
          outs = both_claim n (act r).outs (decide_all_outs (act r).node.executions) a.outs (decided_claims n (act r).node.executions);
        }

    pub step_holds : (input : Input) (b : Option Brought) → ClaimsBrought b → MayRegister (table_of s.log).contracts → TicksRight → StepHolds n (node_step s input b)
    step_holds input b brings may right = ends (input_row s input b) (row_holds input b brings may right)
