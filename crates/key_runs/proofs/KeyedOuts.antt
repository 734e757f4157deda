-- The answers of a step are known, over all operations on each key.
use Rattle.std.proofs.Common.{◌≡◌, ℕ, true, List, [], ◌∷◌, ◌++◌, map, Option, Some, None, refl, sym, ap, ◌∙◌, subst}
use Rattle.std.proofs.lemmas.Bool.{cond_both, false≢true}
use Rattle.std.specs.List.{AllByRecursion}
use Rattle.change_runs.specs.runs.region_map.declared.id.Id.{Id}
use Rattle.change_runs.specs.runs.region_map.declared.id.NodeId.{NodeId}
use Rattle.change_runs.specs.runs.region_map.Maps.{Pieced}
use Rattle.change_runs.specs.runs.branch_history.declared.version.Version.{Version}
use Rattle.change_runs.specs.runs.register_laws.declared.operation.OpId.{OpId}
use Rattle.change_runs.specs.runs.register_laws.declared.operation.Reply.{Reply}
use Rattle.change_runs.specs.runs.register_laws.Lists.{same_op}
use Rattle.change_runs.specs.runs.raft_node.declared.input.RaftInput.TheVariants as raft
use Rattle.change_runs.specs.runs.table_log.Logs.{LogStepped, table_of, log_step}
use Rattle.change_runs.specs.runs.exec_types.declared.message.Message.{Message as Sent}
use Rattle.change_runs.specs.runs.exec_types.declared.message.Message.TheVariants as message
use Rattle.change_runs.specs.runs.exec_types.declared.message.Part.{Part}
use Rattle.change_runs.specs.runs.exec_types.declared.message.Stream.{Stream}
use Rattle.change_runs.specs.runs.exec_types.declared.outcome.Outcome.{Outcome}
use Rattle.change_runs.specs.runs.exec_types.declared.outcome.Outcome.TheVariants.{Done}
use Rattle.change_runs.specs.runs.exec_types.declared.output.Output.{Output}
use Rattle.change_runs.specs.runs.store_api.Rows.{Rows}
use Rattle.change_runs.specs.runs.write_dispatch.declared.decided.Decided.{Decided}
use Rattle.change_runs.specs.runs.write_dispatch.Dispatch.{pending_of, is_of}
use Rattle.change_runs.specs.runs.primary_exec.declared.session.Session.{Session}
use Rattle.change_runs.specs.runs.primary_exec.Execution.{Execution, sends, answers, decides, decided_answers}
use Rattle.change_runs.specs.runs.secondary_exec.declared.following.Following.{Following}
use Rattle.change_runs.specs.runs.secondary_exec.Stream.{stream_row, is_ours, acknowledgement}
use Rattle.change_runs.specs.runs.node_core.declared.journal.Entry.{Entry}
use Rattle.std.specs.List.{flat_map}
use Rattle.change_runs.specs.runs.region_map.Nodes.{has}
use Rattle.change_runs.specs.runs.contract_types.declared.ack.Ack.{Ack}
use Rattle.change_runs.specs.runs.contract_types.declared.change.Change.{Change}
use Rattle.change_runs.specs.runs.contract_types.declared.contract.Contract.{Contract}
use Rattle.change_runs.specs.runs.contract_types.declared.contract.Holder.{Holder}
use Rattle.change_runs.specs.runs.node_core.Parts.{Streamed, taken, left_alone, stream_all}
use Rattle.change_runs.specs.runs.node_core.Saying.{Roles, is_following_under, says_to, ack_under, acknowledgements_to, acknowledges, says_under, says_all}
use Rattle.change_runs.specs.runs.node_core.declared.node.Brought.{Brought}
use Rattle.change_runs.specs.runs.node_core.Starting.{current_of}
use Rattle.change_runs.specs.runs.node_core.Step.{NodeState, Stepped, silent, raft_outs, with_proposals, with_log, says_now, tick_row, roles_of, message_row, is_well_formed, brought_row}
use Rattle.change_runs.specs.runs.Run.{is_requested}
use Rattle.change_runs.specs.runs.Story.{answer_in, or_else}
use Rattle.change_runs.specs.runs.raft_vote.declared.message.RaftMessage.{RaftMessage}
use Rattle.change_runs.proofs.step_runs.Facts.{same_op-true, IsRequested-test}
use Rattle.key_runs.proofs.KeyedFacts.{Waits, WaitsKeyed, SaysKeyed}
use Rattle.change_runs.proofs.step_runs.Outs.{answer_in-append, answer_in-sends, answer_in-stream}

-- what is known of an optional answer of a step
abbrev pub Answered : List Entry → Entry → OpId → Option Outcome → Type 0
Answered past e op None = Unit {0}
Answered past e op (Some outcome) = SaysKeyed past e op outcome

-- where the second answer is known, and the first is none or known, so is the first of them
pub Answered-or_else : (past : List Entry) (e : Entry) (op : OpId) (a b : Option Outcome) → Answered past e op a → Answered past e op b → Answered past e op (or_else a b)
Answered-or_else past e op None b h k = k
Answered-or_else past e op (Some outcome) b h k = h

pub Answered-append : (past : List Entry) (e : Entry) (op : OpId) (a b : List Output) → Answered past e op (answer_in a op) → Answered past e op (answer_in b op) → Answered past e op (answer_in (a ++ b) op)
Answered-append past e op a b h k =
    subst (λ (v : Option Outcome). Answered past e op v) (sym (answer_in-append a b op)) (Answered-or_else past e op (answer_in a op) (answer_in b op) h k)

Answered-one : (past : List Entry) (e : Entry) (branch : Id) (d : Decided) (q : Option OpId) (rest : List Output) (op : OpId) → Waits (e ∷ past) q d.reply → Answered past e op (answer_in rest op) → Answered past e op (answer_in (answers branch d q ++ rest) op)
Answered-one past e branch d None rest op w h = h
Answered-one past e branch d (Some q) rest op w h =
    cond_both (same_op q op) (Some (Done d.reply branch d.at)) (answer_in rest op) (λ (v : Option Outcome). Answered past e op v)
    (λ same. subst (λ (v : OpId). Waits (e ∷ past) (Some v) d.reply) (same_op-true q op same) w) (λ _. h)

pub Answered-decided : (past : List Entry) (e : Entry) (x : Execution) (ds : List Decided) (op : OpId) → AllByRecursion (WaitsKeyed (e ∷ past)) ds → Answered past e op (answer_in (decided_answers x ds) op)
Answered-decided past e x [] op h = tt
Answered-decided past e x (d ∷ ds) op h =
    cond_both (decides x d) (answers x.branch d d.op ++ decided_answers x ds) [] (λ (l : List Output). Answered past e op (answer_in l op))
    (λ _. Answered-one past e x.branch d d.op (decided_answers x ds) op h.0.waits (Answered-decided past e x ds op h.1)) (λ _. tt)

-- ---- what stays pending

waits_requested : (past : List Entry) (op : OpId) (q : Option OpId) (reply : Reply) → Waits past q reply → is_of op q ≡ true → is_requested past op ≡ true
waits_requested past op None reply w h = absurd (false≢true h)
waits_requested past op (Some q) reply w h =
    ap (is_requested past) (sym (same_op-true q op h)) ∙ IsRequested-test past w.0 q w.1 w.2

-- an operation that is pending was requested
abbrev pub KnownPending : List Entry → OpId → Option Decided → Type 0
KnownPending past op None = Unit {0}
KnownPending past op (Some d) = is_requested past op ≡ true

pub pending_requested : (past : List Entry) (op : OpId) (ds : List Decided) → AllByRecursion (WaitsKeyed past) ds → KnownPending past op (pending_of ds op)
pending_requested past op [] h = tt
pending_requested past op (d ∷ ds) h =
    cond_both (is_of op d.op) (Some d) (pending_of ds op) (KnownPending past op)
    (λ is. waits_requested past op d.op d.reply h.0.waits is) (λ _. pending_requested past op ds h.1)

-- ---- what answers nothing

abbrev pub AnswersNone : List Output → Type 0
AnswersNone outs = (q : OpId) → answer_in outs q ≡ None

pub none_both : (xs ys : List Output) → AnswersNone xs → AnswersNone ys → AnswersNone (xs ++ ys)
none_both xs ys a b q = answer_in-append xs ys q ∙ ap (λ (v : Option Outcome). or_else v (answer_in ys q)) (a q) ∙ b q

none_flat : {X : Type 0} (f : X → List Output) → ((x : X) → AnswersNone (f x)) → (xs : List X) → AnswersNone (flat_map f xs)
none_flat f each [] = λ q. refl
none_flat f each (x ∷ xs) = none_both (f x) (flat_map f xs) (each x) (none_flat f each xs)

pub none_raft : (sent : List (NodeId × RaftMessage Change)) → AnswersNone (raft_outs sent)
none_raft [] q = refl
none_raft (x ∷ xs) q = none_raft xs q

pub none_sends : (part : Part) (ss : List Session) → AnswersNone (map (sends part) ss)
none_sends part ss = λ q. answer_in-sends part ss q

none_says : (to : Option NodeId) (c : Contract) (ack : Option Ack) → AnswersNone (says_to to c ack)
none_says None c ack q = refl
none_says (Some leader) c None q = refl
none_says (Some leader) c (Some ack) q = refl

none_acknowledgements : (c : Contract) (primary : NodeId) (view : ℕ) (fs : List Following) → AnswersNone (acknowledgements_to c primary view fs)
none_acknowledgements c primary view [] = λ q. refl
none_acknowledgements c primary view (f ∷ fs) =
    cond_both (is_following_under c primary f) (acknowledgement f view ∷ acknowledgements_to c primary view fs) (acknowledgements_to c primary view fs) AnswersNone
    (λ _. none_acknowledgements c primary view fs) (λ _. none_acknowledgements c primary view fs)

none_acknowledges : (c : Contract) (view : ℕ) (fs : List Following) (h : Option Holder) → AnswersNone (acknowledges c view fs h)
none_acknowledges c view fs None = λ q. refl
none_acknowledges c view fs (Some h) = none_acknowledgements c h.server view fs

pub none_said : (me : NodeId) (leader : Option NodeId) (current : Pieced Id) (versions : Pieced Version) (view : ℕ) (r : Roles) (contracts : List Contract)
    → AnswersNone (says_all me leader current versions view r contracts)
none_said me leader current versions view r contracts =
    none_flat (says_under me leader current versions view r)
    (λ c.
    let said = says_to leader c (ack_under me current versions r c c.primary) in
    let acks = acknowledges c view r.followings c.primary in
    cond_both (has c.replicas me.0) (said ++ acks) [] AnswersNone
    (λ _. none_both said acks (none_says leader c (ack_under me current versions r c c.primary)) (none_acknowledges c view r.followings c.primary)) (λ _. λ q. refl))
    contracts

pub none_stream : (fs : List Following) (rows : Rows) (versions : Pieced Version) (from : NodeId) (stream : Stream) (view : ℕ) → AnswersNone (stream_all fs rows versions from stream view).outs
none_stream [] rows versions from stream view = λ q. refl
none_stream (f ∷ fs) rows versions from stream view =
    cond_both (is_ours f from stream) (taken (stream_row f rows versions from stream view) fs) (left_alone f (stream_all fs rows versions from stream view)) (λ (r : Streamed). AnswersNone r.outs)
    (λ _. answer_in-stream f rows versions from stream view) (λ _. none_stream fs rows versions from stream view)

-- ---- messages and ticks answer nothing

none_message : (s : NodeState) (from : NodeId) (m : Sent) → AnswersNone (message_row s from m).outs
none_message s from (message.Raft m) = none_raft (log_step s.log (raft.Deliver from m)).sent
none_message s from (message.Say contract ack) = λ q. refl
none_message s from (message.Stream stream) = none_stream s.followings s.rows s.versions from stream s.log.acted
none_message s from (message.Got got) = λ q. refl

pub none_brought : (s : NodeState) (b : Option Brought) → AnswersNone (brought_row s b).outs
none_brought s None = λ q. refl
none_brought s (Some b) =
    cond_both (is_well_formed s b) (message_row s b.from b.message) (silent s) (λ (step : Stepped). AnswersNone step.outs) (λ _. none_message s b.from b.message) (λ _. λ q. refl)

pub none_tick : (s : NodeState) → AnswersNone (tick_row s).outs
none_tick s =
    let t : NodeState = with_proposals s in
    let r : LogStepped = log_step t.log (raft.Tick t.unseen) in
    let u : NodeState = (with_log t r).node in
    none_both (raft_outs r.sent) (says_now u) (none_raft r.sent)
    (none_said u.me u.log.raft.votes.leader (current_of (table_of u.log)) u.versions u.log.acted (roles_of u) (table_of u.log).contracts)
