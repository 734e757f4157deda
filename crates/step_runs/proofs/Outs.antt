-- What the outputs of a step say: their points and their answers.
use Rattle.std.proofs.Common.{◌≡◌, ℕ, true, false, cond, List, [], ◌∷◌, ◌++◌, map, nat_le, Option, Some, None, refl, ap}
use Rattle.std.proofs.lemmas.Bool.{cond_both}
use Rattle.std.specs.List.{AllByRecursion}
use Rattle.runs.specs.region_map.declared.id.Id.{Id}
use Rattle.runs.specs.region_map.declared.id.NodeId.{NodeId}
use Rattle.runs.specs.region_map.Maps.{Pieced}
use Rattle.runs.specs.branch_history.declared.version.Version.{Version}
use Rattle.runs.specs.contract_types.Setup.{SetupState}
use Rattle.runs.specs.register_laws.declared.operation.OpId.{OpId}
use Rattle.runs.specs.register_laws.declared.operation.Op.{Op}
use Rattle.runs.specs.register_laws.Lists.{same_op}
use Rattle.runs.specs.exec_types.declared.message.Part.{Part}
use Rattle.runs.specs.exec_types.declared.message.Stream.{Stream}
use Rattle.runs.specs.exec_types.declared.outcome.Outcome.{Outcome}
use Rattle.runs.specs.exec_types.declared.output.Output.{Output}
use Rattle.runs.specs.exec_types.declared.output.Output.TheVariants.{Message, Dispatched, Viewed, Answer}
use Rattle.runs.specs.store_api.Rows.{Rows}
use Rattle.runs.specs.write_dispatch.declared.decided.Decided.{Decided}
use Rattle.runs.specs.write_dispatch.Dispatch.{without_op, is_of}
use Rattle.runs.specs.primary_exec.declared.session.Session.{Session}
use Rattle.runs.specs.primary_exec.Execution.{Execution, sends, answers, decides, decided_answers, undecided}
use Rattle.runs.specs.secondary_exec.declared.following.Following.{Following}
use Rattle.runs.specs.secondary_exec.Stream.{FollowingStep, stream_row, is_ours, take_part, is_next, apply_part, acknowledgement, quiet}
use Rattle.runs.specs.node_core.declared.journal.Entry.{Entry}
use Rattle.runs.specs.Story.{Point, answer_in, or_else, points_in}
use Rattle.step_runs.proofs.Facts.{SaysWell}

-- ---- lists of outputs

pub points_in-append : (what : Op) (a b : List Output) → points_in what (a ++ b) ≡ points_in what a ++ points_in what b
points_in-append what [] b = refl
points_in-append what (Message to message ∷ a) b = points_in-append what a b
points_in-append what (Dispatched op key branch timestamp ∷ a) b =
    ap (λ (l : List Point). record { op = op; what = what; key = key; branch = branch; timestamp = timestamp } ∷ l) (points_in-append what a b)
points_in-append what (Viewed first results ∷ a) b = points_in-append what a b
points_in-append what (Answer op outcome ∷ a) b = points_in-append what a b

pub answer_in-append : (a b : List Output) (op : OpId) → answer_in (a ++ b) op ≡ or_else (answer_in a op) (answer_in b op)
answer_in-append [] b op = refl
answer_in-append (Message to message ∷ a) b op = answer_in-append a b op
answer_in-append (Dispatched q key branch timestamp ∷ a) b op = answer_in-append a b op
answer_in-append (Viewed first results ∷ a) b op = answer_in-append a b op
answer_in-append (Answer q outcome ∷ a) b op =
    elim (same_op q op) as (λ c. cond c (Some outcome) (answer_in (a ++ b) op) ≡ or_else (cond c (Some outcome) (answer_in a op)) (answer_in b op)) [
      | true ↦ refl
      | false ↦ answer_in-append a b op
    ]

pub points_in-sends : (what : Op) (part : Part) (ss : List Session) → points_in what (map (sends part) ss) ≡ []
points_in-sends what part [] = refl
points_in-sends what part (s ∷ ss) = points_in-sends what part ss

pub answer_in-sends : (part : Part) (ss : List Session) (op : OpId) → answer_in (map (sends part) ss) op ≡ None
answer_in-sends part [] op = refl
answer_in-sends part (s ∷ ss) op = answer_in-sends part ss op

-- ---- answers to decided operations

points_in-answers : (what : Op) (branch : Id) (d : Decided) (op : Option OpId) (rest : List Output) → points_in what rest ≡ [] → points_in what (answers branch d op ++ rest) ≡ []
points_in-answers what branch d None rest h = h
points_in-answers what branch d (Some op) rest h = h

pub points_in-decided : (what : Op) (x : Execution) (ds : List Decided) → points_in what (decided_answers x ds) ≡ []
points_in-decided what x [] = refl
points_in-decided what x (d ∷ ds) =
    cond_both (decides x d) (answers x.branch d d.op ++ decided_answers x ds) [] (λ (l : List Output). points_in what l ≡ [])
    (λ _. points_in-answers what x.branch d d.op (decided_answers x ds) (points_in-decided what x ds)) (λ _. refl)

-- what is known of an optional answer of a step
abbrev pub Answered : SetupState → List Entry → Entry → OpId → Option Outcome → Type 0
Answered setup past e op None = Unit {0}
Answered setup past e op (Some outcome) = SaysWell setup past e op outcome

-- ---- what stays pending

pub undecided_keeps : (P : Decided → Type 0) (x : Execution) (ds : List Decided) → AllByRecursion P ds → AllByRecursion P (undecided x ds)
undecided_keeps P x [] h = tt
undecided_keeps P x (d ∷ ds) h = cond_both (decides x d) (undecided x ds) (d ∷ ds) (AllByRecursion P) (λ _. undecided_keeps P x ds h.1) (λ _. h)

pub without_op_keeps : (P : Decided → Type 0) (op : OpId) (ds : List Decided) → AllByRecursion P ds → AllByRecursion P (without_op ds op)
without_op_keeps P op [] h = tt
without_op_keeps P op (d ∷ ds) h = cond_both (is_of op d.op) ds (d ∷ without_op ds op) (AllByRecursion P) (λ _. h.1) (λ _. (h.0, without_op_keeps P op ds h.1))

pub all_push : (P : Decided → Type 0) (ds : List Decided) (d : Decided) → AllByRecursion P ds → P d → AllByRecursion P (ds ++ d ∷ [])
all_push P [] d h k = (k, tt)
all_push P (x ∷ ds) d h k = (h.0, all_push P ds d h.1 k)

-- ---- what a secondary does with a part

-- a part is passed over, acknowledged again, or applied
pub stream_cases : (P : FollowingStep → Type 0) (f : Following) (rows : Rows) (versions : Pieced Version) (from : NodeId) (stream : Stream) (view : ℕ)
    → P (quiet f rows versions) → P (record { following = f; rows = rows; versions = versions; outs = acknowledgement f view ∷ [] }) → P (apply_part f rows versions stream view)
    → P (stream_row f rows versions from stream view)
stream_cases P f rows versions from stream view passed again new =
    let old : FollowingStep = record { following = f; rows = rows; versions = versions; outs = acknowledgement f view ∷ [] } in
    cond_both (is_ours f from stream) (take_part f rows versions stream view) (quiet f rows versions) P
    (λ _. cond_both (nat_le stream.number f.got) old (cond (is_next f stream) (apply_part f rows versions stream view) (quiet f rows versions)) P (λ _. again)
    (λ _. cond_both (is_next f stream) (apply_part f rows versions stream view) (quiet f rows versions) P (λ _. new) (λ _. passed)))
    (λ _. passed)

-- it gives messages alone
pub answer_in-stream : (f : Following) (rows : Rows) (versions : Pieced Version) (from : NodeId) (stream : Stream) (view : ℕ) (op : OpId) → answer_in (stream_row f rows versions from stream view).outs op ≡ None
answer_in-stream f rows versions from stream view op = stream_cases (λ step. answer_in step.outs op ≡ None) f rows versions from stream view refl refl refl
