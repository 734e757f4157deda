-- What holds of the history of a run, and how one more entry keeps it.
use Rattle.std.proofs.Common.{◌≡◌, ℕ, ◌+◌, true, false, cond, not, List, [], ◌∷◌, ◌++◌, filter, Option, Some, None, refl, sym, ap, ◌∙◌, subst, ◌⊎◌, inl, inr, arith}
use Rattle.std.proofs.lemmas.Bool.{false≢true, eqb-true, eq-eqb, or_left, or_right, or_cases}
use Rattle.std.specs.List.{AllByRecursion}
use Rattle.runs.specs.contract_types.Setup.{SetupState}
use Rattle.runs.specs.register_laws.declared.operation.OpId.{OpId}
use Rattle.runs.specs.register_laws.declared.operation.Op.{Op}
use Rattle.runs.specs.register_laws.declared.operation.Reply.{Reply}
use Rattle.runs.specs.register_laws.Lists.{same_op}
use Rattle.runs.specs.exec_types.declared.input.Input.{Input}
use Rattle.runs.specs.exec_types.declared.input.Input.TheVariants.{Request, GiveUp, See, Tick, Deliver, Crash, Restart}
use Rattle.runs.specs.exec_types.declared.outcome.Outcome.{Outcome}
use Rattle.runs.specs.exec_types.declared.outcome.Outcome.TheVariants.{Done, NotServing, NoMajority}
use Rattle.runs.specs.node_core.declared.journal.Entry.{Entry}
use Rattle.runs.specs.write_dispatch.declared.decided.Decided.{Decided}
use Rattle.runs.specs.Run.{requests, is_requested, is_fresh}
use Rattle.runs.specs.Story.{Point, IsIn, points, points_of, Requests, IsRequested}
use Rattle.step_runs.proofs.Begun.{is_on_begun, begun_path}
use Rattle.step_runs.proofs.Told.{has_point, point_times, TookEffect, TookEffect-more, filter-append}

-- ---- operations and requests

pub same_op-true : (a b : OpId) → same_op a b ≡ true → a ≡ b
same_op-true a b e = λ i. record { 0 = eqb-true a.0 b.0 e i }

pub same_op-refl : (a : OpId) → same_op a a ≡ true
same_op-refl a = eq-eqb a.0 a.0 refl

pub Requests-test : (input : Input) (key : List ℕ) (op : OpId) (what : Op) → Requests input key op what → requests input op ≡ true
Requests-test (Request q k w) key op what h = ap (λ (o : OpId). same_op q o) (sym h.0) ∙ same_op-refl q
Requests-test (GiveUp q) key op what h = absurd h
Requests-test (See other up) key op what h = absurd h
Requests-test Tick key op what h = absurd h
Requests-test (Deliver number) key op what h = absurd h
Requests-test Crash key op what h = absurd h
Requests-test Restart key op what h = absurd h

pub IsRequested-test : (past : List Entry) (key : List ℕ) (op : OpId) (what : Op) → IsRequested past key op what → is_requested past op ≡ true
IsRequested-test [] key op what h = absurd h
IsRequested-test (e ∷ past) key op what h =
    elim h [
      | inl r ↦ or_left (requests e.input op) (is_requested past op) (Requests-test e.input key op what r)
      | inr r ↦ or_right (requests e.input op) (is_requested past op) (IsRequested-test past key op what r)
    ]

-- an operation that an input requests anew was not requested before
pub fresh_apart : (past : List Entry) (input : Input) (op : OpId) → is_fresh past input ≡ true → requests input op ≡ true → is_requested past op ≡ true → ⊥
fresh_apart past (Request q k w) op f r h =
    let same : q ≡ op = same_op-true q op r in
    let old : is_requested past q ≡ true = ap (is_requested past) same ∙ h in
    false≢true (sym (ap not old) ∙ f)
fresh_apart past (GiveUp q) op f r h = false≢true r
fresh_apart past (See other up) op f r h = false≢true r
fresh_apart past Tick op f r h = false≢true r
fresh_apart past (Deliver number) op f r h = false≢true r
fresh_apart past Crash op f r h = false≢true r
fresh_apart past Restart op f r h = false≢true r

-- ---- points

-- an operation has no point among some, or one of them is its
pub point_times_or : (ps : List Point) (op : OpId) → (point_times ps op ≡ 0) ⊎ ((p : Point) × IsIn ps p × (p.op ≡ op))
point_times_or [] op = inl refl
point_times_or (p ∷ ps) op =
    elim (same_op p.op op) as (λ c. same_op p.op op ≡ c → (cond c 1 0 + point_times ps op ≡ 0) ⊎ ((q : Point) × IsIn (p ∷ ps) q × (q.op ≡ op))) [
      | true ↦ λ e. inr (p, inl refl, same_op-true p.op op e)
      | false ↦ λ e. elim (point_times_or ps op) [ inl z ↦ inl (omega (arith, z)) | inr r ↦ inr (r.0, inr r.1, r.2) ]
    ] refl

pub has_point_of : (ps : List Point) (op : OpId) → has_point ps op ≡ true → (p : Point) × IsIn ps p × (p.op ≡ op)
has_point_of [] op h = absurd (false≢true h)
has_point_of (p ∷ ps) op h =
    elim (or_cases (same_op p.op op) (has_point ps op) h) [
      | inl e ↦ (p, inl refl, same_op-true p.op op e)
      | inr r ↦ let q = has_point_of ps op r in (q.0, inr q.1, q.2)
    ]

-- ---- what waits, and what was answered

-- an operation that was requested took effect with this reply
abbrev pub Waits : SetupState → List Entry → Option OpId → Reply → Type 0
Waits setup past None reply = Unit {0}
Waits setup past (Some op) reply = (key : List ℕ) × (what : Op) × IsRequested past key op what × TookEffect (begun_path setup past key) op what reply

pub record WaitsWell (setup : SetupState) (past : List Entry) (d : Decided) : Type 0 where
  pub waits : Waits setup past d.op d.reply

pub path-cons : (setup : SetupState) (past : List Entry) (e : Entry) (key : List ℕ) → begun_path setup (e ∷ past) key ≡ begun_path setup past key ++ filter (is_on_begun setup key) (points_of e.input e.outputs)
path-cons setup past e key = filter-append (is_on_begun setup key) (points past) (points_of e.input e.outputs)

pub Waits-more : (setup : SetupState) (past : List Entry) (e : Entry) (op : Option OpId) (reply : Reply) → Waits setup past op reply → Waits setup (e ∷ past) op reply
Waits-more setup past e None reply h = tt
Waits-more setup past e (Some op) reply h = (
  h.0,
  h.1,
  inr h.2,
  subst (λ (l : List Point). TookEffect l op h.1 reply) (sym (path-cons setup past e h.0))
      (TookEffect-more (begun_path setup past h.0) op h.1 reply (filter (is_on_begun setup h.0) (points_of e.input e.outputs)) h.3),
)

pub WaitsWell-more : (setup : SetupState) (past : List Entry) (e : Entry) (ds : List Decided) → AllByRecursion (WaitsWell setup past) ds → AllByRecursion (WaitsWell setup (e ∷ past)) ds
WaitsWell-more setup past e [] h = tt
WaitsWell-more setup past e (d ∷ ds) h = (record { waits = Waits-more setup past e d.op d.reply h.0.waits }, WaitsWell-more setup past e ds h.1)

-- what a step may answer to an operation
abbrev pub SaysWell : SetupState → List Entry → Entry → OpId → Outcome → Type 0
SaysWell setup past e op (Done reply branch timestamp) = Waits setup (e ∷ past) (Some op) reply
SaysWell setup past e op NotServing = (requests e.input op ≡ true) × (points_of e.input e.outputs ≡ [])
SaysWell setup past e op (NoMajority counts) = is_requested (e ∷ past) op ≡ true
