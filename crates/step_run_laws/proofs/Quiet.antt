-- Which outputs of a step speak of the log and of contracts: what the node says at a tick, and what it tells that it acted on.
use Rattle.std.proofs.Common.{◌≡◌, ◌⊎◌, ℕ, ◌+◌, Bool, true, false, ◌&&◌, List, [], ◌∷◌, ◌++◌, map, filter, Option, Some, None, refl, sym, ap, ◌∙◌, inl, inr}
use Rattle.std.proofs.lemmas.Bool.{cond_both, false≢true}
use Rattle.std.proofs.lemmas.List.Folds.{list_all-append}
use Rattle.std.specs.List.{list_all, flat_map}
use Rattle.list_laws.specs.Members.{IsIn}
use Rattle.list_laws.proofs.Members.{IsIn-append, passes_member}
use Rattle.path_runs.specs.runs.region_map.declared.id.Id.{Id}
use Rattle.path_runs.specs.runs.region_map.declared.id.NodeId.{NodeId}
use Rattle.path_runs.specs.runs.region_map.Maps.{Pieced}
use Rattle.path_runs.specs.runs.region_map.Nodes.{has}
use Rattle.path_runs.specs.runs.branch_history.declared.version.Version.{Version}
use Rattle.path_runs.specs.runs.register_laws.declared.operation.OpId.{OpId}
use Rattle.path_runs.specs.runs.register_laws.declared.operation.Op.{Op}
use Rattle.path_runs.specs.runs.raft_vote.declared.message.RaftMessage.{RaftMessage}
use Rattle.path_runs.specs.runs.contract_types.declared.ack.Ack.{Ack}
use Rattle.path_runs.specs.runs.contract_types.declared.change.Change.{Change}
use Rattle.path_runs.specs.runs.contract_types.declared.contract.Contract.{Contract}
use Rattle.path_runs.specs.runs.contract_types.declared.contract.Holder.{Holder}
use Rattle.path_runs.specs.runs.contract_types.declared.results.Viewed.{Viewed as Results}
use Rattle.path_runs.specs.runs.exec_types.declared.input.Input.{Input}
use Rattle.path_runs.specs.runs.exec_types.declared.input.Input.TheVariants.{Request, GiveUp, See, Tick, Deliver, Crash, Restart}
use Rattle.path_runs.specs.runs.exec_types.declared.message.Message.{Message}
use Rattle.path_runs.specs.runs.exec_types.declared.message.Message.TheVariants as message
use Rattle.path_runs.specs.runs.exec_types.declared.message.Part.{Part}
use Rattle.path_runs.specs.runs.exec_types.declared.message.Stream.{Stream}
use Rattle.path_runs.specs.runs.exec_types.declared.outcome.Outcome.TheVariants.{NoMajority}
use Rattle.path_runs.specs.runs.exec_types.declared.output.Output.{Output}
use Rattle.path_runs.specs.runs.exec_types.declared.output.Output.TheVariants as output
use Rattle.path_runs.specs.runs.store_api.Rows.{Rows, value_of}
use Rattle.path_runs.specs.runs.table_log.Logs.{LogState, table_of, log_step, viewed}
use Rattle.path_runs.specs.runs.raft_node.declared.input.RaftInput.TheVariants as raft
use Rattle.path_runs.specs.runs.write_dispatch.declared.decided.Decided.{Decided}
use Rattle.path_runs.specs.runs.write_dispatch.Dispatch.{Acks, is_decided, counts_of, pending_of}
use Rattle.path_runs.specs.runs.primary_exec.declared.session.Session.{Session}
use Rattle.path_runs.specs.runs.primary_exec.Execution.{Execution, sends, part_of, has_room, dispatch_row, answers, answers_under, decide_outs, given_up, give_up_outs}
use Rattle.path_runs.specs.runs.secondary_exec.declared.following.Following.{Following}
use Rattle.path_runs.specs.runs.secondary_exec.Stream.{FollowingStep, acknowledgement}
use Rattle.path_runs.proofs.step_runs.Outs.{stream_cases}
use Rattle.path_runs.specs.runs.secondary_exec.Stream.{stream_row, is_ours}
use Rattle.path_runs.specs.runs.node_core.declared.node.Brought.{Brought}
use Rattle.path_runs.specs.runs.node_core.Parts.{Requested, Streamed, is_for, request_all, dispatched, passed_on, stream_all, taken, left_alone, give_up_all_outs, decide_all_outs}
use Rattle.path_runs.specs.runs.node_core.Saying.{Roles, is_following_under, says_to, ack_under, acknowledgements_to, acknowledges, says_under}
use Rattle.path_runs.specs.runs.node_core.Starting.{current_of}
use Rattle.path_runs.specs.runs.node_core.Step.{NodeState, Stepped, silent, raft_outs, roles_of, says_now, with_proposals, tick_log, message_row, is_well_formed, brought_row, input_row, act_on, act, node_step}

-- outputs that neither say nor tell such
abbrev is_quiet_message : Message → Bool
is_quiet_message (message.Raft m) = true
is_quiet_message (message.Say contract ack) = false
is_quiet_message (message.Stream stream) = true
is_quiet_message (message.Got got) = true

abbrev pub is_quiet : Output → Bool
is_quiet (output.Message to m) = is_quiet_message m
is_quiet (output.Dispatched op key branch timestamp) = true
is_quiet (output.Viewed first results) = false
is_quiet (output.Answer op outcome) = true

abbrev AllQuiet : List Output → Type 0
AllQuiet outs = list_all is_quiet outs ≡ true

loud : (outs : List Output) (o : Output) → AllQuiet outs → IsIn outs o → is_quiet o ≡ false → ⊥
loud outs o h i e = false≢true (sym e ∙ passes_member is_quiet o outs h i)

quiet_both : (xs ys : List Output) → AllQuiet xs → AllQuiet ys → AllQuiet (xs ++ ys)
quiet_both xs ys a b = list_all-append is_quiet xs ys ∙ ap (λ v. v && list_all is_quiet ys) a ∙ b

quiet_flat : {X : Type 0} (f : X → List Output) → ((x : X) → AllQuiet (f x)) → (xs : List X) → AllQuiet (flat_map f xs)
quiet_flat f each [] = refl
quiet_flat f each (x ∷ xs) = quiet_both (f x) (flat_map f xs) (each x) (quiet_flat f each xs)

quiet_raft : (sent : List (NodeId × RaftMessage Change)) → AllQuiet (raft_outs sent)
quiet_raft [] = refl
quiet_raft (x ∷ xs) = quiet_raft xs

quiet_sends : (part : Part) (ss : List Session) → AllQuiet (map (sends part) ss)
quiet_sends part [] = refl
quiet_sends part (s ∷ ss) = quiet_sends part ss

quiet_request : (hashes : ℕ) (xs : List Execution) (rows : Rows) (versions : Pieced Version) (op : OpId) (key : List ℕ) (what : Op) → AllQuiet (request_all hashes xs rows versions op key what).outs
quiet_request hashes [] rows versions op key what = refl
quiet_request hashes (x ∷ xs) rows versions op key what =
    let part : Part = part_of (value_of rows key) (x.last + 1) key what in
    cond_both (is_for hashes key x) (dispatched (dispatch_row x rows versions op key what) xs) (passed_on x (request_all hashes xs rows versions op key what))
    (λ (r : Requested). AllQuiet r.outs)
    (λ _. quiet_both (map (sends part) (filter has_room x.sessions)) (output.Dispatched op key x.branch (x.last + 1) ∷ []) (quiet_sends part (filter has_room x.sessions)) refl)
    (λ _. quiet_request hashes xs rows versions op key what)

quiet_given_up : (acks : Acks) (c : Contract) (me : ℕ) (op : OpId) (d : Option Decided) → AllQuiet (given_up acks c me op d)
quiet_given_up acks c me op None = refl
quiet_given_up acks c me op (Some d) =
    cond_both (is_decided acks c me d.at) [] (output.Answer op (NoMajority (counts_of acks c me d.at)) ∷ []) AllQuiet (λ _. refl) (λ _. refl)

quiet_give_up : (xs : List Execution) (op : OpId) → AllQuiet (give_up_all_outs xs op)
quiet_give_up xs op =
    quiet_flat (λ (x : Execution). give_up_outs x op) (λ x. quiet_given_up x.dispatch.acks x.contract x.me.0 op (pending_of x.dispatch.waiting op)) xs

quiet_stream : (fs : List Following) (rows : Rows) (versions : Pieced Version) (from : NodeId) (stream : Stream) (view : ℕ) → AllQuiet (stream_all fs rows versions from stream view).outs
quiet_stream [] rows versions from stream view = refl
quiet_stream (f ∷ fs) rows versions from stream view =
    cond_both (is_ours f from stream) (taken (stream_row f rows versions from stream view) fs) (left_alone f (stream_all fs rows versions from stream view))
    (λ (r : Streamed). AllQuiet r.outs)
    (λ _. stream_cases (λ (step : FollowingStep). AllQuiet step.outs) f rows versions from stream view refl refl refl)
    (λ _. quiet_stream fs rows versions from stream view)

quiet_answer : (branch : Id) (d : Decided) (op : Option OpId) → AllQuiet (answers branch d op)
quiet_answer branch d None = refl
quiet_answer branch d (Some op) = refl

quiet_answers : (acks : Acks) (c : Contract) (me : ℕ) (branch : Id) (ds : List Decided) → AllQuiet (answers_under acks c me branch ds)
quiet_answers acks c me branch [] = refl
quiet_answers acks c me branch (d ∷ ds) =
    cond_both (is_decided acks c me d.at) (answers branch d d.op ++ answers_under acks c me branch ds) [] AllQuiet
    (λ _. quiet_both (answers branch d d.op) (answers_under acks c me branch ds) (quiet_answer branch d d.op) (quiet_answers acks c me branch ds)) (λ _. refl)

quiet_decided : (xs : List Execution) → AllQuiet (decide_all_outs xs)
quiet_decided xs = quiet_flat decide_outs (λ x. quiet_answers x.dispatch.acks x.contract x.me.0 x.branch x.dispatch.waiting) xs

quiet_message : (s : NodeState) (from : NodeId) (m : Message) → AllQuiet (message_row s from m).outs
quiet_message s from (message.Raft m) = quiet_raft (log_step s.log (raft.Deliver from m)).sent
quiet_message s from (message.Say contract ack) = refl
quiet_message s from (message.Stream stream) = quiet_stream s.followings s.rows s.versions from stream s.log.acted
quiet_message s from (message.Got got) = refl

quiet_brought : (s : NodeState) (b : Option Brought) → AllQuiet (brought_row s b).outs
quiet_brought s None = refl
quiet_brought s (Some b) = cond_both (is_well_formed s b) (message_row s b.from b.message) (silent s) (λ (step : Stepped). AllQuiet step.outs) (λ _. quiet_message s b.from b.message) (λ _. refl)

-- ---- where such an output comes from

-- the node as it speaks of its contracts at a tick
abbrev pub speaking : NodeState → NodeState
speaking s = (tick_log (with_proposals s)).node

of_row : (s : NodeState) (input : Input) (b : Option Brought) (o : Output) → is_quiet o ≡ false → IsIn (input_row s input b).outs o → IsIn (says_now (speaking s)) o
of_row s (Request op key what) b o e i = absurd (loud (request_all s.setup.hashes s.executions s.rows s.versions op key what).outs o (quiet_request s.setup.hashes s.executions s.rows s.versions op key what) i e)
of_row s (GiveUp op) b o e i = absurd (loud (give_up_all_outs s.executions op) o (quiet_give_up s.executions op) i e)
of_row s (See other up) b o e i = absurd i
of_row s Tick b o e i =
    elim (IsIn-append (tick_log (with_proposals s)).outs (says_now (speaking s)) o i) [
      | inl sent ↦ absurd (loud (tick_log (with_proposals s)).outs o (quiet_raft (log_step (with_proposals s).log (raft.Tick (with_proposals s).unseen)).sent) sent e)
      | inr said ↦ said
    ]
of_row s (Deliver number) b o e i = absurd (loud (brought_row s b).outs o (quiet_brought s b) i e)
of_row s Crash b o e i = absurd i
of_row s Restart b o e i = absurd i

-- an output tells what a log gives to act on
pub record Tells (log : LogState) (o : Output) : Type 0 where
  pub results : Results
  pub viewed_is : viewed log ≡ Some results
  pub is : output.Viewed results.first results.results ≡ o

pub of_step : (s : NodeState) (input : Input) (b : Option Brought) (o : Output) → is_quiet o ≡ false → IsIn (node_step s input b).outs o
    → IsIn (says_now (speaking s)) o ⊎ Tells (input_row s input b).node.log o
of_step s input b o e i =
    let row : Stepped = input_row s input b in
    elim (IsIn-append (act row).outs (decide_all_outs (act row).node.executions) o i) [
      | inl acted ↦ by_view (viewed row.node.log) refl acted
      | inr decided ↦ absurd (loud (decide_all_outs (act row).node.executions) o (quiet_decided (act row).node.executions) decided e)
    ]
  where
    by_view : (v : Option Results) → viewed (input_row s input b).node.log ≡ v → IsIn (act_on (input_row s input b) v).outs o → IsIn (says_now (speaking s)) o ⊎ Tells (input_row s input b).node.log o
    by_view None is j = inl (of_row s input b o e j)
    by_view (Some v) is j =
        elim (IsIn-append (input_row s input b).outs (output.Viewed v.first v.results ∷ []) o j) [
          | inl here ↦ inl (of_row s input b o e here)
          | inr there ↦ elim there [
            | inl same ↦ inr (record { results = v; viewed_is = is; is = same })
            | inr none ↦ absurd none
          ]
        ]

-- ---- what is said at a tick

flat_member : {X Y : Type 0} (f : X → List Y) (xs : List X) (y : Y) → IsIn (flat_map f xs) y → (x : X) × (IsIn xs x) × (IsIn (f x) y)
flat_member f [] y i = absurd i
flat_member f (x ∷ xs) y i =
    elim (IsIn-append (f x) (flat_map f xs) y i) [
      | inl here ↦ (x, inl refl, here)
      | inr there ↦ let r = flat_member f xs y there in (r.0, inr r.1, r.2)
    ]

-- an ack is said of a contract
pub record IsSaid (c : Contract) (ack : Option Ack) (o : Output) : Type 0 where
  pub to : NodeId
  pub said : Ack
  pub is : output.Message to (message.Say c.id said) ≡ o
  pub ack_is : ack ≡ Some said

to_said : (leader : Option NodeId) (c : Contract) (ack : Option Ack) (o : Output) → IsIn (says_to leader c ack) o → IsSaid c ack o
to_said None c ack o i = absurd i
to_said (Some leader) c None o i = absurd i
to_said (Some leader) c (Some ack) o i = elim i [ inl same ↦ record { to = leader; said = ack; is = same; ack_is = refl } | inr none ↦ absurd none ]

quiet_acknowledgements : (c : Contract) (primary : NodeId) (view : ℕ) (fs : List Following) → AllQuiet (acknowledgements_to c primary view fs)
quiet_acknowledgements c primary view [] = refl
quiet_acknowledgements c primary view (f ∷ fs) =
    cond_both (is_following_under c primary f) (acknowledgement f view ∷ acknowledgements_to c primary view fs) (acknowledgements_to c primary view fs) AllQuiet
    (λ _. quiet_acknowledgements c primary view fs) (λ _. quiet_acknowledgements c primary view fs)

quiet_acknowledges : (c : Contract) (view : ℕ) (fs : List Following) (h : Option Holder) → AllQuiet (acknowledges c view fs h)
quiet_acknowledges c view fs None = refl
quiet_acknowledges c view fs (Some h) = quiet_acknowledgements c h.server view fs

under_said : (me : NodeId) (leader : Option NodeId) (current : Pieced Id) (versions : Pieced Version) (view : ℕ) (r : Roles) (c : Contract) (o : Output) → is_quiet o ≡ false
    → IsIn (says_under me leader current versions view r c) o → IsSaid c (ack_under me current versions r c c.primary) o
under_said me leader current versions view r c o e i =
    let said : List Output = says_to leader c (ack_under me current versions r c c.primary) in
    let acks : List Output = acknowledges c view r.followings c.primary in
    cond_both (has c.replicas me.0) (said ++ acks) [] (λ (l : List Output). IsIn l o → IsSaid c (ack_under me current versions r c c.primary) o)
    (λ _ j. elim (IsIn-append said acks o j) [
      | inl here ↦ to_said leader c (ack_under me current versions r c c.primary) o here
      | inr there ↦ absurd (loud acks o (quiet_acknowledges c view r.followings c.primary) there e)
    ])
    (λ _ j. absurd j) i

-- the contract of which it is said, with the ack
pub record SaidOf (t : NodeState) (o : Output) : Type 0 where
  pub contract : Contract
  pub said : IsSaid contract (ack_under t.me (current_of (table_of t.log)) t.versions (roles_of t) contract contract.primary) o

pub now_said : (t : NodeState) (o : Output) → is_quiet o ≡ false → IsIn (says_now t) o → SaidOf t o
now_said t o e i =
    let f : Contract → List Output = says_under t.me t.log.raft.votes.leader (current_of (table_of t.log)) t.versions t.log.acted (roles_of t) in
    let m = flat_member f (table_of t.log).contracts o i in
    record { contract = m.0; said = under_said t.me t.log.raft.votes.leader (current_of (table_of t.log)) t.versions t.log.acted (roles_of t) m.0 o e m.2 }
