-- What the outputs of a step say of the log: the messages that nodes of the log send, and what became of changes.
use Rattle.std.proofs.Common.{◌≡◌, ◌∙◌, ◌&&◌, ℕ, Bool, true, false, cond, nat_le, List, [], ◌∷◌, ◌++◌, map, filter, ◌+◌, Option, Some, None, refl, sym, ap, append_assoc}
use Rattle.std.proofs.lemmas.Bool.{cond_both, false≢true}
use Rattle.std.proofs.lemmas.List.Folds.{list_all-append}
use Rattle.std.proofs.lemmas.List.Elements.{filter_map-append}
use Rattle.std.specs.List.{list_all, filter_map, flat_map}
use Rattle.step_runs.specs.runs.region_map.declared.id.Id.{Id}
use Rattle.step_runs.specs.runs.region_map.declared.id.NodeId.{NodeId}
use Rattle.step_runs.specs.runs.region_map.Maps.{Pieced}
use Rattle.step_runs.specs.runs.region_map.Nodes.{has}
use Rattle.step_runs.specs.runs.branch_history.declared.version.Version.{Version}
use Rattle.step_runs.specs.runs.register_laws.declared.operation.OpId.{OpId}
use Rattle.step_runs.specs.runs.register_laws.declared.operation.Op.{Op}
use Rattle.step_runs.specs.runs.raft_vote.declared.message.RaftMessage.{RaftMessage}
use Rattle.raft_laws.specs.declared.event.Sent.{Sent}
use Rattle.raft_laws.specs.World.{posted}
use Rattle.step_runs.specs.runs.contract_types.declared.ack.Ack.{Ack}
use Rattle.step_runs.specs.runs.contract_types.declared.change.Change.{Change}
use Rattle.step_runs.specs.runs.contract_types.declared.contract.Contract.{Contract}
use Rattle.step_runs.specs.runs.contract_types.declared.contract.Holder.{Holder}
use Rattle.step_runs.specs.runs.contract_types.declared.applied.Applied.{Applied}
use Rattle.step_runs.specs.runs.exec_types.declared.message.Message.{Message}
use Rattle.step_runs.specs.runs.exec_types.declared.message.Message.TheVariants as message
use Rattle.step_runs.specs.runs.exec_types.declared.message.Part.{Part}
use Rattle.step_runs.specs.runs.exec_types.declared.message.Stream.{Stream}
use Rattle.step_runs.specs.runs.exec_types.declared.outcome.Outcome.TheVariants.{NoMajority}
use Rattle.step_runs.specs.runs.exec_types.declared.output.Output.{Output}
use Rattle.step_runs.specs.runs.exec_types.declared.output.Output.TheVariants as output
use Rattle.step_runs.specs.runs.store_api.Rows.{Rows, value_of}
use Rattle.step_runs.specs.runs.write_dispatch.declared.decided.Decided.{Decided}
use Rattle.step_runs.specs.runs.write_dispatch.Dispatch.{Acks, is_decided, counts_of, pending_of}
use Rattle.step_runs.specs.runs.primary_exec.declared.session.Session.{Session}
use Rattle.step_runs.specs.runs.primary_exec.Execution.{Execution, sends, part_of, has_room, dispatch_row, answers, answers_under, decide_outs, given_up, give_up_outs}
use Rattle.step_runs.specs.runs.secondary_exec.declared.following.Following.{Following}
use Rattle.step_runs.specs.runs.secondary_exec.Stream.{FollowingStep, stream_row, is_ours, take_part, is_next, apply_part, acknowledgement, quiet}
use Rattle.step_runs.specs.runs.node_core.Parts.{Requested, Streamed, is_for, request_all, dispatched, passed_on, stream_all, taken, left_alone, give_up_all_outs, decide_all_outs}
use Rattle.step_runs.specs.runs.node_core.Saying.{Roles, is_following_under, says_to, ack_under, acknowledgements_to, acknowledges, says_under, says_all}
use Rattle.step_runs.specs.runs.node_core.Step.{raft_outs}
use Rattle.step_runs.specs.runs.declared.envelope.Envelope.{Envelope}
use Rattle.step_runs.specs.runs.Run.{sent_by}
use Rattle.step_runs.specs.runs.Committed.{viewed_in}

-- ---- the messages of the log

abbrev pub raft_in : NodeId → NodeId → Message → Option (Sent Change)
raft_in from to (message.Raft m) = Some (record { from = from; to = to; message = m })
raft_in from to (message.Say contract ack) = None
raft_in from to (message.Stream stream) = None
raft_in from to (message.Got got) = None

-- a message of the log, as the log sees it
abbrev pub raft_of : Envelope → Option (Sent Change)
raft_of e = raft_in e.from e.to e.message

-- those among the outputs of a node
abbrev pub raft_by : NodeId → List Output → List (Sent Change)
raft_by n outs = filter_map raft_of (sent_by n outs)

sent_by-append : (n : NodeId) (a b : List Output) → sent_by n (a ++ b) ≡ sent_by n a ++ sent_by n b
sent_by-append n [] b = refl
sent_by-append n (output.Message to m ∷ a) b = ap (λ (l : List Envelope). record { from = n; to = to; message = m } ∷ l) (sent_by-append n a b)
sent_by-append n (output.Dispatched op key branch timestamp ∷ a) b = sent_by-append n a b
sent_by-append n (output.Viewed first results ∷ a) b = sent_by-append n a b
sent_by-append n (output.Answer op outcome ∷ a) b = sent_by-append n a b

pub raft_by-append : (n : NodeId) (a b : List Output) → raft_by n (a ++ b) ≡ raft_by n a ++ raft_by n b
raft_by-append n a b = ap (filter_map raft_of) (sent_by-append n a b) ∙ filter_map-append raft_of (sent_by n a) (sent_by n b)

pub viewed_in-append : (a b : List Output) → viewed_in (a ++ b) ≡ viewed_in a ++ viewed_in b
viewed_in-append [] b = refl
viewed_in-append (output.Message to m ∷ a) b = viewed_in-append a b
viewed_in-append (output.Dispatched op key branch timestamp ∷ a) b = viewed_in-append a b
viewed_in-append (output.Viewed first results ∷ a) b =
    ap (λ (l : List (Change × Applied)). results ++ l) (viewed_in-append a b) ∙ sym (append_assoc results (viewed_in a) (viewed_in b))
viewed_in-append (output.Answer op outcome ∷ a) b = viewed_in-append a b

-- what the log sends
pub raft_by-outs : (n : NodeId) (sent : List (NodeId × RaftMessage Change)) → raft_by n (raft_outs sent) ≡ posted n.0 sent
raft_by-outs n [] = refl
raft_by-outs n (x ∷ xs) = ap (λ (l : List (Sent Change)). record { from = n; to = x.0; message = x.1 } ∷ l) (raft_by-outs n xs)

pub viewed_in-outs : (sent : List (NodeId × RaftMessage Change)) → viewed_in (raft_outs sent) ≡ []
viewed_in-outs [] = refl
viewed_in-outs (x ∷ xs) = viewed_in-outs xs

-- ---- outputs that say nothing of the log

abbrev pub is_beside_in : Message → Bool
is_beside_in (message.Raft m) = false
is_beside_in (message.Say contract ack) = true
is_beside_in (message.Stream stream) = true
is_beside_in (message.Got got) = true

abbrev pub is_beside : Output → Bool
is_beside (output.Message to m) = is_beside_in m
is_beside (output.Dispatched op key branch timestamp) = true
is_beside (output.Viewed first results) = false
is_beside (output.Answer op outcome) = true

abbrev pub AllBeside : List Output → Type 0
AllBeside outs = list_all is_beside outs ≡ true

pub raft_by-beside : (n : NodeId) (outs : List Output) → AllBeside outs → raft_by n outs ≡ []
raft_by-beside n [] h = refl
raft_by-beside n (output.Message to (message.Raft m) ∷ outs) h = absurd (false≢true h)
raft_by-beside n (output.Message to (message.Say contract ack) ∷ outs) h = raft_by-beside n outs h
raft_by-beside n (output.Message to (message.Stream stream) ∷ outs) h = raft_by-beside n outs h
raft_by-beside n (output.Message to (message.Got got) ∷ outs) h = raft_by-beside n outs h
raft_by-beside n (output.Dispatched op key branch timestamp ∷ outs) h = raft_by-beside n outs h
raft_by-beside n (output.Viewed first results ∷ outs) h = absurd (false≢true h)
raft_by-beside n (output.Answer op outcome ∷ outs) h = raft_by-beside n outs h

pub viewed_in-beside : (outs : List Output) → AllBeside outs → viewed_in outs ≡ []
viewed_in-beside [] h = refl
viewed_in-beside (output.Message to (message.Raft m) ∷ outs) h = absurd (false≢true h)
viewed_in-beside (output.Message to (message.Say contract ack) ∷ outs) h = viewed_in-beside outs h
viewed_in-beside (output.Message to (message.Stream stream) ∷ outs) h = viewed_in-beside outs h
viewed_in-beside (output.Message to (message.Got got) ∷ outs) h = viewed_in-beside outs h
viewed_in-beside (output.Dispatched op key branch timestamp ∷ outs) h = viewed_in-beside outs h
viewed_in-beside (output.Viewed first results ∷ outs) h = absurd (false≢true h)
viewed_in-beside (output.Answer op outcome ∷ outs) h = viewed_in-beside outs h

beside_both : (xs ys : List Output) → AllBeside xs → AllBeside ys → AllBeside (xs ++ ys)
beside_both xs ys a b = list_all-append is_beside xs ys ∙ ap (λ v. v && list_all is_beside ys) a ∙ b

beside_flat : {X : Type 0} (f : X → List Output) → ((x : X) → AllBeside (f x)) → (xs : List X) → AllBeside (flat_map f xs)
beside_flat f each [] = refl
beside_flat f each (x ∷ xs) = beside_both (f x) (flat_map f xs) (each x) (beside_flat f each xs)

-- ---- requests

beside_sends : (part : Part) (ss : List Session) → AllBeside (map (sends part) ss)
beside_sends part [] = refl
beside_sends part (s ∷ ss) = beside_sends part ss

pub beside_request : (hashes : ℕ) (xs : List Execution) (rows : Rows) (versions : Pieced Version) (op : OpId) (key : List ℕ) (what : Op) → AllBeside (request_all hashes xs rows versions op key what).outs
beside_request hashes [] rows versions op key what = refl
beside_request hashes (x ∷ xs) rows versions op key what =
    let part = part_of (value_of rows key) (x.last + 1) key what in
    cond_both (is_for hashes key x) (dispatched (dispatch_row x rows versions op key what) xs) (passed_on x (request_all hashes xs rows versions op key what))
    (λ (r : Requested). AllBeside r.outs)
    (λ _. beside_both (map (sends part) (filter has_room x.sessions)) (output.Dispatched op key x.branch (x.last + 1) ∷ []) (beside_sends part (filter has_room x.sessions)) refl)
    (λ _. beside_request hashes xs rows versions op key what)

-- ---- giving up

beside_given_up : (acks : Acks) (c : Contract) (me : ℕ) (op : OpId) (d : Option Decided) → AllBeside (given_up acks c me op d)
beside_given_up acks c me op None = refl
beside_given_up acks c me op (Some d) =
    cond_both (is_decided acks c me d.at) [] (output.Answer op (NoMajority (counts_of acks c me d.at)) ∷ []) AllBeside (λ _. refl) (λ _. refl)

pub beside_give_up : (xs : List Execution) (op : OpId) → AllBeside (give_up_all_outs xs op)
beside_give_up xs op =
    beside_flat (λ (x : Execution). give_up_outs x op) (λ x. beside_given_up x.dispatch.acks x.contract x.me.0 op (pending_of x.dispatch.waiting op)) xs

-- ---- parts of streams

beside_part : (f : Following) (rows : Rows) (versions : Pieced Version) (from : NodeId) (stream : Stream) (view : ℕ) → AllBeside (stream_row f rows versions from stream view).outs
beside_part f rows versions from stream view =
    let P : FollowingStep → Type 0 = λ step. AllBeside step.outs in
    cond_both (is_ours f from stream) (take_part f rows versions stream view) (quiet f rows versions) P
    (λ _. cond_both (nat_le stream.number f.got) (record { following = f; rows = rows; versions = versions; outs = acknowledgement f view ∷ [] })
    (cond (is_next f stream) (apply_part f rows versions stream view) (quiet f rows versions)) P (λ _. refl)
    (λ _. cond_both (is_next f stream) (apply_part f rows versions stream view) (quiet f rows versions) P (λ _. refl) (λ _. refl)))
    (λ _. refl)

pub beside_stream : (fs : List Following) (rows : Rows) (versions : Pieced Version) (from : NodeId) (stream : Stream) (view : ℕ) → AllBeside (stream_all fs rows versions from stream view).outs
beside_stream [] rows versions from stream view = refl
beside_stream (f ∷ fs) rows versions from stream view =
    cond_both (is_ours f from stream) (taken (stream_row f rows versions from stream view) fs) (left_alone f (stream_all fs rows versions from stream view))
    (λ (r : Streamed). AllBeside r.outs)
    (λ _. beside_part f rows versions from stream view)
    (λ _. beside_stream fs rows versions from stream view)

-- ---- what is said of contracts

beside_says : (to : Option NodeId) (c : Contract) (ack : Option Ack) → AllBeside (says_to to c ack)
beside_says None c ack = refl
beside_says (Some leader) c None = refl
beside_says (Some leader) c (Some ack) = refl

beside_acknowledgements : (c : Contract) (primary : NodeId) (view : ℕ) (fs : List Following) → AllBeside (acknowledgements_to c primary view fs)
beside_acknowledgements c primary view [] = refl
beside_acknowledgements c primary view (f ∷ fs) =
    cond_both (is_following_under c primary f) (acknowledgement f view ∷ acknowledgements_to c primary view fs) (acknowledgements_to c primary view fs) AllBeside
    (λ _. beside_acknowledgements c primary view fs) (λ _. beside_acknowledgements c primary view fs)

beside_acknowledges : (c : Contract) (view : ℕ) (fs : List Following) (h : Option Holder) → AllBeside (acknowledges c view fs h)
beside_acknowledges c view fs None = refl
beside_acknowledges c view fs (Some h) = beside_acknowledgements c h.server view fs

pub beside_said : (me : NodeId) (leader : Option NodeId) (current : Pieced Id) (versions : Pieced Version) (view : ℕ) (r : Roles) (contracts : List Contract) → AllBeside (says_all me leader current versions view r contracts)
beside_said me leader current versions view r contracts =
    beside_flat (says_under me leader current versions view r)
    (λ c.
    let said = says_to leader c (ack_under me current versions r c c.primary) in
    let acks = acknowledges c view r.followings c.primary in
    cond_both (has c.replicas me.0) (said ++ acks) [] AllBeside
    (λ _. beside_both said acks (beside_says leader c (ack_under me current versions r c c.primary)) (beside_acknowledges c view r.followings c.primary)) (λ _. refl))
    contracts

-- ---- answers to decided operations

beside_answer : (branch : Id) (d : Decided) (op : Option OpId) → AllBeside (answers branch d op)
beside_answer branch d None = refl
beside_answer branch d (Some op) = refl

beside_answers : (acks : Acks) (c : Contract) (me : ℕ) (branch : Id) (ds : List Decided) → AllBeside (answers_under acks c me branch ds)
beside_answers acks c me branch [] = refl
beside_answers acks c me branch (d ∷ ds) =
    cond_both (is_decided acks c me d.at) (answers branch d d.op ++ answers_under acks c me branch ds) [] AllBeside
    (λ _. beside_both (answers branch d d.op) (answers_under acks c me branch ds) (beside_answer branch d d.op) (beside_answers acks c me branch ds)) (λ _. refl)

pub beside_decided : (xs : List Execution) → AllBeside (decide_all_outs xs)
beside_decided xs = beside_flat decide_outs (λ x. beside_answers x.dispatch.acks x.contract x.me.0 x.branch x.dispatch.waiting) xs
