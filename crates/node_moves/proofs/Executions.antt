-- Which execution takes a request, and what waits at each of them through a step.
use Rattle.std.proofs.Common.{◌≡◌, ◌⊎◌, ℕ, ◌+◌, true, false, cond, ◌||◌, nat_lt, List, [], ◌∷◌, ◌++◌, map, Option, Some, None, inl, inr, refl, sym, ap, ◌∙◌, subst}
use Rattle.std.proofs.lemmas.Bool.{cond_both, false≢true}
use Rattle.std.specs.List.{AllByRecursion, list_any}
use Rattle.node_moves.specs.list_laws.Members.{IsIn}
use Rattle.node_moves.specs.region_map.declared.id.Id.{Id}
use Rattle.node_moves.specs.region_map.declared.id.NodeId.{NodeId}
use Rattle.node_moves.specs.region_map.Maps.{Pieced}
use Rattle.node_moves.specs.branch_history.declared.version.Version.{Version}
use Rattle.node_moves.specs.register_laws.declared.operation.OpId.{OpId}
use Rattle.node_moves.specs.register_laws.declared.operation.Op.{Op}
use Rattle.node_moves.specs.register_laws.declared.operation.Reply.{Reply}
use Rattle.node_moves.specs.register_laws.Register.{reply_of}
use Rattle.node_moves.specs.contract_types.declared.contract.Contract.{Contract}
use Rattle.node_moves.specs.contract_types.Tables.{Table}
use Rattle.node_moves.specs.exec_types.declared.input.Input.{Input}
use Rattle.node_moves.specs.exec_types.declared.input.Input.TheVariants.{Request}
use Rattle.node_moves.specs.exec_types.declared.message.Got.{Got}
use Rattle.node_moves.specs.exec_types.declared.outcome.Outcome.TheVariants.{NotServing}
use Rattle.node_moves.specs.exec_types.declared.output.Output.TheVariants.{Answer}
use Rattle.node_moves.specs.store_api.Rows.{Rows, value_of}
use Rattle.node_moves.specs.write_dispatch.declared.decided.Decided.{Decided}
use Rattle.node_moves.specs.write_dispatch.Dispatch.{DispatchState, is_decided, is_of, pending_of, without_op}
use Rattle.node_moves.specs.primary_exec.declared.asking.Asking.{Asking}
use Rattle.node_moves.specs.primary_exec.Execution.{Execution, PrimaryStep, dispatch_row, got_row, give_up_row, is_live, started, with_acked, with_stands, without_given_up}
use Rattle.node_moves.specs.node_core.Parts.{Requested, is_for, request_all, dispatched, passed_on}
use Rattle.node_moves.specs.node_core.Starting.{Starting, due, place_of, placed, start_one, start_each}
use Rattle.node_moves.specs.node_core.Step.{NodeState}
use Rattle.node_moves.specs.Says.{IsServing, Awaits, Pending, Requested as Asked}
use Rattle.list_laws.proofs.All.{all_append, all_map, all_push, all_split}
use Rattle.list_laws.proofs.Members.{all_from_members, all_member}

-- ---- which execution takes a request

abbrev pub among : List Execution → PrimaryStep → List Execution → Requested
among before step after = record { executions = before ++ step.execution ∷ after; rows = step.rows; versions = step.versions; outs = step.outs }

-- one of the executions is for the key, and dispatches
pub record Dispatches (hashes : ℕ) (xs : List Execution) (rows : Rows) (versions : Pieced Version) (op : OpId) (key : List ℕ) (what : Op) (r : Requested) : Type 0 where
  pub x : Execution
  pub serving : IsServing hashes key xs x
  pub result : r ≡ among serving.before (dispatch_row x rows versions op key what) serving.after

-- or none is
pub record Refuses (hashes : ℕ) (xs : List Execution) (rows : Rows) (versions : Pieced Version) (op : OpId) (key : List ℕ) (r : Requested) : Type 0 where
  pub none : list_any (is_for hashes key) xs ≡ false
  pub result : r ≡ record { executions = xs; rows = rows; versions = versions; outs = Answer op NotServing ∷ [] }

pub request_cases : (hashes : ℕ) (xs : List Execution) (rows : Rows) (versions : Pieced Version) (op : OpId) (key : List ℕ) (what : Op)
    → Refuses hashes xs rows versions op key (request_all hashes xs rows versions op key what) ⊎ Dispatches hashes xs rows versions op key what (request_all hashes xs rows versions op key what)
request_cases hashes [] rows versions op key what = inl (record { none = refl; result = refl })
request_cases hashes (x ∷ xs) rows versions op key what =
    let rest : Requested = request_all hashes xs rows versions op key what in
    let row : PrimaryStep = dispatch_row x rows versions op key what in
    cond_both (is_for hashes key x) (dispatched row xs) (passed_on x rest)
    (λ (r : Requested). Refuses hashes (x ∷ xs) rows versions op key r ⊎ Dispatches hashes (x ∷ xs) rows versions op key what r)
    (λ has. inr (record { x = x; serving = record { before = []; after = xs; these = refl; none_before = refl; has = has }; result = refl }))
    (λ has_not. elim (request_cases hashes xs rows versions op key what) [
      | inl r ↦ inl (record { none = ap (λ b. b || list_any (is_for hashes key) xs) has_not ∙ r.none; result = ap (passed_on x) r.result })
      | inr d ↦ inr (record {
        x = d.x;
        serving = record {
          before = x ∷ d.serving.before;
          after = d.serving.after;
          these = ap (λ (l : List Execution). x ∷ l) d.serving.these;
          none_before = ap (λ b. b || list_any (is_for hashes key) d.serving.before) has_not ∙ d.serving.none_before;
          has = d.serving.has;
        };
        result = ap (passed_on x) d.result;
      })
    ])

-- ---- one execution takes a request

abbrev first_for : ℕ → List ℕ → List Execution → Option Execution
first_for hashes key [] = None
first_for hashes key (x ∷ xs) = cond (is_for hashes key x) (Some x) (first_for hashes key xs)

first_serves : (hashes : ℕ) (key : List ℕ) (before : List Execution) (x : Execution) (after : List Execution) → list_any (is_for hashes key) before ≡ false → is_for hashes key x ≡ true
    → first_for hashes key (before ++ x ∷ after) ≡ Some x
first_serves hashes key [] x after none has = ap (λ b. cond b (Some x) (first_for hashes key after)) has
first_serves hashes key (y ∷ before) x after none has =
    elim (is_for hashes key y) as (λ c. (c || list_any (is_for hashes key) before) ≡ false → cond c (Some y) (first_for hashes key (before ++ x ∷ after)) ≡ Some x) [
      | true ↦ λ e. absurd (false≢true (sym e))
      | false ↦ λ e. first_serves hashes key before x after e has
    ] none

none_first : (hashes : ℕ) (key : List ℕ) (xs : List Execution) → list_any (is_for hashes key) xs ≡ false → first_for hashes key xs ≡ None
none_first hashes key [] none = refl
none_first hashes key (x ∷ xs) none =
    elim (is_for hashes key x) as (λ c. (c || list_any (is_for hashes key) xs) ≡ false → cond c (Some x) (first_for hashes key xs) ≡ None) [
      | true ↦ λ e. absurd (false≢true (sym e))
      | false ↦ λ e. none_first hashes key xs e
    ] none

serves_first : (hashes : ℕ) (key : List ℕ) (xs : List Execution) (x : Execution) → IsServing hashes key xs x → first_for hashes key xs ≡ Some x
serves_first hashes key xs x s = ap (first_for hashes key) s.these ∙ first_serves hashes key s.before x s.after s.none_before s.has

pub serves_once : (hashes : ℕ) (key : List ℕ) (xs : List Execution) (x y : Execution) → IsServing hashes key xs x → IsServing hashes key xs y → x ≡ y
serves_once hashes key xs x y s t = let same : Some x ≡ Some y = sym (serves_first hashes key xs x s) ∙ serves_first hashes key xs y t in cc

pub none_serves : (hashes : ℕ) (key : List ℕ) (xs : List Execution) (x : Execution) → list_any (is_for hashes key) xs ≡ false → IsServing hashes key xs x → ⊥
none_serves hashes key xs x none s = let same : None ≡ Some x = sym (none_first hashes key xs none) ∙ serves_first hashes key xs x s in absurd (cc same)

-- ---- what waits at an execution

-- of what waits, each operation that awaits its answer under a branch
abbrev pub AwaitsOp : NodeState → Input → Id → Decided → Option OpId → Type 0
AwaitsOp s input branch d None = Unit {0}
AwaitsOp s input branch d (Some op) = Awaits s input branch op d.at d.reply

pub record Waits (s : NodeState) (input : Input) (branch : Id) (d : Decided) : Type 0 where
  pub waits : AwaitsOp s input branch d d.op

pub record AllAwait (s : NodeState) (input : Input) (x : Execution) : Type 0 where
  pub all : AllByRecursion (Waits s input x.branch) x.dispatch.waiting

pub awaits_at : (s : NodeState) (input : Input) (x : Execution) → AllAwait s input x → (op : OpId) (at : ℕ) (reply : Reply)
    → IsIn x.dispatch.waiting (record { op = Some op; at = at; reply = reply }) → Awaits s input x.branch op at reply
awaits_at s input x h op at reply i = (all_member (Waits s input x.branch) x.dispatch.waiting h.all (record { op = Some op; at = at; reply = reply }) i).waits

-- ---- before the step

pending_one : (s : NodeState) (input : Input) (x : Execution) → IsIn s.executions x → (d : Decided) → IsIn x.dispatch.waiting d → (o : Option OpId) → d.op ≡ o → AwaitsOp s input x.branch d o
pending_one s input x i d j None e = tt
pending_one s input x i d j (Some op) e =
    Pending x i refl (subst (IsIn x.dispatch.waiting) (λ k. record { op = e k; at = d.at; reply = d.reply }) j)

pub all_pending : (s : NodeState) (input : Input) → AllByRecursion (AllAwait s input) s.executions
all_pending s input =
    all_from_members (AllAwait s input) s.executions
    (λ x i. record { all = all_from_members (Waits s input x.branch) x.dispatch.waiting (λ d j. record { waits = pending_one s input x i d j d.op refl }) })

-- ---- rows

dispatch_awaits : (s : NodeState) (op : OpId) (key : List ℕ) (what : Op) (x : Execution) → IsServing s.setup.hashes key s.executions x → AllAwait s (Request op key what) x
    → AllAwait s (Request op key what) (dispatch_row x s.rows s.versions op key what).execution
dispatch_awaits s op key what x serving h =
    record {
      all =
          all_push (Waits s (Request op key what) x.branch) x.dispatch.waiting (record { op = Some op; at = x.last + 1; reply = reply_of (value_of s.rows key) what }) h.all
          (record { waits = Asked key what x refl serving refl refl refl });
    }

pub request_awaits : (s : NodeState) (op : OpId) (key : List ℕ) (what : Op)
    → AllByRecursion (AllAwait s (Request op key what)) (request_all s.setup.hashes s.executions s.rows s.versions op key what).executions
request_awaits s op key what =
    let P : Execution → Type 0 = AllAwait s (Request op key what) in
    let old : AllByRecursion P s.executions = all_pending s (Request op key what) in
    elim (request_cases s.setup.hashes s.executions s.rows s.versions op key what) [
      | inl r ↦ subst (λ (q : Requested). AllByRecursion P q.executions) (sym r.result) old
      | inr d ↦
          let row : PrimaryStep = dispatch_row d.x s.rows s.versions op key what in
          let parts = all_split P d.serving.before (d.x ∷ d.serving.after) (subst (AllByRecursion P) d.serving.these old) in
          subst (λ (q : Requested). AllByRecursion P q.executions) (sym d.result)
          (all_append P d.serving.before (row.execution ∷ d.serving.after) parts.0 (dispatch_awaits s op key what d.x d.serving parts.1.0, parts.1.1))
    ]

without_awaits : (P : Decided → Type 0) (op : OpId) (ds : List Decided) → AllByRecursion P ds → AllByRecursion P (without_op ds op)
without_awaits P op [] h = tt
without_awaits P op (d ∷ ds) h = cond_both (is_of op d.op) ds (d ∷ without_op ds op) (AllByRecursion P) (λ _. h.1) (λ _. (h.0, without_awaits P op ds h.1))

given_awaits : (P : Decided → Type 0) (p : DispatchState) (c : Contract) (me : ℕ) (op : OpId) (o : Option Decided) → AllByRecursion P p.waiting → AllByRecursion P (without_given_up p c me op o).waiting
given_awaits P p c me op None h = h
given_awaits P p c me op (Some d) h =
    cond_both (is_decided p.acks c me d.at) p (record p { waiting = without_op p.waiting op }) (λ (q : DispatchState). AllByRecursion P q.waiting) (λ _. h) (λ _. without_awaits P op p.waiting h)

pub give_up_awaits : (s : NodeState) (input : Input) (op : OpId) (xs : List Execution) → AllByRecursion (AllAwait s input) xs → AllByRecursion (AllAwait s input) (map (λ x. give_up_row x op) xs)
give_up_awaits s input op xs h =
    all_map (AllAwait s input) (AllAwait s input) (λ x. give_up_row x op) xs
    (λ x k. record { all = given_awaits (Waits s input x.branch) x.dispatch x.contract x.me.0 op (pending_of x.dispatch.waiting op) k.all }) h

stands_waiting : (d : DispatchState) (from : NodeId) (got : Got) (stands : Option ℕ) → (with_stands d from got stands).waiting ≡ d.waiting
stands_waiting d from got None = refl
stands_waiting d from got (Some at) = refl

got_awaits_one : (s : NodeState) (input : Input) (from : NodeId) (got : Got) (x : Execution) → AllAwait s input x → AllAwait s input (got_row x from got)
got_awaits_one s input from got x h =
    cond_both (is_live x from got.session) (record x { sessions = map (with_acked from got.session got.upto) x.sessions; dispatch = with_stands x.dispatch from got got.stands }) x (AllAwait s input)
    (λ _. record { all = subst (AllByRecursion (Waits s input x.branch)) (sym (stands_waiting x.dispatch from got got.stands)) h.all }) (λ _. h)

pub got_awaits : (s : NodeState) (input : Input) (from : NodeId) (got : Got) (xs : List Execution) → AllByRecursion (AllAwait s input) xs → AllByRecursion (AllAwait s input) (map (λ x. got_row x from got) xs)
got_awaits s input from got xs h = all_map (AllAwait s input) (AllAwait s input) (λ x. got_row x from got) xs (λ x k. got_awaits_one s input from got x k) h

-- ---- what starts

placed_awaits : (P : Execution → Type 0) (cs : List Contract) (x : Execution) (ys : List Execution) → P x → AllByRecursion P ys → AllByRecursion P (placed cs x ys)
placed_awaits P cs x [] p h = (p, tt)
placed_awaits P cs x (y ∷ ys) p h =
    cond_both (nat_lt (place_of cs x.contract.id) (place_of cs y.contract.id)) (x ∷ y ∷ ys) (y ∷ placed cs x ys) (AllByRecursion P)
    (λ _. (p, h)) (λ _. (h.0, placed_awaits P cs x ys p h.1))

-- a first sync is of no operation
start_awaits : (s : NodeState) (input : Input) (me : NodeId) (cs : List Contract) (a : Asking) (o : Option ℕ) (r : Starting)
    → AllByRecursion (AllAwait s input) r.executions → AllByRecursion (AllAwait s input) (start_one me cs a o r).executions
start_awaits s input me cs a None r h = h
start_awaits s input me cs a (Some initial) r h = placed_awaits (AllAwait s input) cs (started a me initial) r.executions (record { all = (record { waits = tt }, tt) }) h

pub starts_await : (s : NodeState) (input : Input) (me : NodeId) (t : Table) (rest : List Asking) (r : Starting)
    → AllByRecursion (AllAwait s input) r.executions → AllByRecursion (AllAwait s input) (start_each me t rest r).executions
starts_await s input me t [] r h = h
starts_await s input me t (a ∷ rest) r h = starts_await s input me t rest (start_one me t.contracts a (due t a) r) (start_awaits s input me t.contracts a (due t a) r h)
