-- What a step leaves of a node's executions: each is one that was there, or starts a branch for which the node asked.
use Rattle.std.proofs.Common.{◌≡◌, ◌⊎◌, ℕ, ◌+◌, ◌≤◌, List, [], ◌∷◌, map, filter, nat_lt, max, min, Option, Some, None, inl, inr, refl, sym, ap, ◌∙◌, subst, arith}
use Rattle.std.proofs.lemmas.Bool.{cond_both}
use Rattle.path_runs.specs.runs.region_map.declared.id.NodeId.{NodeId}
use Rattle.path_runs.specs.runs.region_map.Maps.{Pieced}
use Rattle.path_runs.specs.runs.branch_history.declared.version.Version.{Version}
use Rattle.path_runs.specs.runs.register_laws.declared.operation.OpId.{OpId}
use Rattle.path_runs.specs.runs.register_laws.declared.operation.Op.{Op}
use Rattle.path_runs.specs.runs.contract_types.declared.contract.Contract.{Contract}
use Rattle.path_runs.specs.runs.contract_types.declared.results.Viewed.{Viewed}
use Rattle.path_runs.specs.runs.contract_types.Tables.{Table}
use Rattle.path_runs.specs.runs.table_apply.Conditions.{is_held_by}
use Rattle.path_runs.specs.runs.table_log.Logs.{LogState, table_of, caught_up, viewed}
use Rattle.path_runs.specs.runs.coordinator.Acks.{with_ack}
use Rattle.path_runs.specs.runs.coordinator.Proposals.{proposals_of, after_proposals}
use Rattle.path_runs.specs.runs.exec_types.declared.message.Got.{Got}
use Rattle.path_runs.specs.runs.exec_types.declared.message.Message.{Message as Sent}
use Rattle.path_runs.specs.runs.exec_types.declared.message.Message.TheVariants as message
use Rattle.path_runs.specs.runs.exec_types.declared.message.SessionName.{SessionName}
use Rattle.path_runs.specs.runs.exec_types.declared.input.Input.{Input}
use Rattle.path_runs.specs.runs.exec_types.declared.input.Input.TheVariants.{Request, GiveUp, See, Tick, Deliver, Crash, Restart}
use Rattle.path_runs.specs.runs.store_api.Rows.{Rows}
use Rattle.path_runs.specs.runs.primary_exec.declared.asking.Asking.{Asking}
use Rattle.path_runs.specs.runs.primary_exec.declared.session.Session.{Session}
use Rattle.path_runs.specs.runs.primary_exec.Execution.{Execution, PrimaryStep, has_room, with_sent, dispatch_row, is_session, with_acked, with_stands, is_live, got_row, give_up_row, decided, started}
use Rattle.path_runs.specs.runs.node_core.declared.node.Brought.{Brought}
use Rattle.path_runs.specs.runs.node_core.Parts.{Requested, is_for, dispatched, passed_on, request_all}
use Rattle.path_runs.specs.runs.node_core.Starting.{Starting, place_of, placed, due, start_one, start_each}
use Rattle.path_runs.specs.runs.node_core.Step.{NodeState, Stepped, silent, leads, coordinates, propose_all, id_in, askings_from, tick_row, message_row, is_well_formed, brought_row, input_row, act_on, act, node_step}
use Rattle.path_runs.specs.runs.Story.{Point, IsIn, points_of}
use Rattle.path_runs.proofs.lead_runs.LedRows.{Kept, kept, Done, Still, Dispatches, Streams, GoesDown, ComesUp, row_done}
use Rattle.path_runs.proofs.runs.list_laws.Members.{IsIn-append, IsIn-filter, IsIn-map}

-- ---- an execution that goes on

pub record HasName (sessions : List Session) (name : SessionName) : Type 0 where
  pub session : Session
  pub is_in : IsIn sessions session
  pub name_is : session.name ≡ name

-- it writes the same branch, with the same sync, at no lesser timestamp, and has no new session
pub record GoesOn (x y : Execution) : Type 0 where
  pub branch_is : x.branch ≡ y.branch
  pub sync_is : x.sync ≡ y.sync
  pub grows : x.last ≤ y.last
  pub names : (t : Session) → IsIn y.sessions t → HasName x.sessions t.name

pub record WasThere (xs : List Execution) (y : Execution) : Type 0 where
  pub x : Execution
  pub is_in : IsIn xs x
  pub goes : GoesOn x y

same : (x : Execution) → GoesOn x x
same x = record { branch_is = refl; sync_is = refl; grows = omega arith; names = λ t i. record { session = t; is_in = i; name_is = refl } }

there : (xs : List Execution) (y : Execution) → IsIn xs y → WasThere xs y
there xs y i = record { x = y; is_in = i; goes = same y }

there_map : (f : Execution → Execution) → ((x : Execution) → GoesOn x (f x)) → (xs : List Execution) (y : Execution) → IsIn (map f xs) y → WasThere xs y
there_map f each xs y i =
    let m = IsIn-map f xs y i in
    record { x = m.0; is_in = m.1; goes = subst (GoesOn m.0) m.2 (each m.0) }

there_more : (z : Execution) (xs : List Execution) (y : Execution) → WasThere xs y → WasThere (z ∷ xs) y
there_more z xs y w = record { x = w.x; is_in = inr w.is_in; goes = w.goes }

-- ---- the rows of executions

acked_name : (from : NodeId) (name : SessionName) (upto : ℕ) (s : Session) → (with_acked from name upto s).name ≡ s.name
acked_name from name upto s =
    cond_both (is_session from name s) (record s { acked = max s.acked (min upto s.sent) }) s (λ (t : Session). t.name ≡ s.name) (λ _. refl) (λ _. refl)

got_goes : (from : NodeId) (got : Got) (x : Execution) → GoesOn x (got_row x from got)
got_goes from got x =
    cond_both (is_live x from got.session) (record x { sessions = map (with_acked from got.session got.upto) x.sessions; dispatch = with_stands x.dispatch from got got.stands }) x (GoesOn x)
    (λ _. record {
      branch_is = refl;
      sync_is = refl;
      grows = omega arith;
      names = λ t i.
          let m = IsIn-map (with_acked from got.session got.upto) x.sessions t i in
          record { session = m.0; is_in = m.1; name_is = sym (acked_name from got.session got.upto m.0) ∙ ap (λ (s : Session). s.name) m.2 };
    })
    (λ _. same x)

give_up_goes : (op : OpId) (x : Execution) → GoesOn x (give_up_row x op)
give_up_goes op x = record { branch_is = refl; sync_is = refl; grows = omega arith; names = λ t i. record { session = t; is_in = i; name_is = refl } }

decided_goes : (x : Execution) → GoesOn x (decided x)
decided_goes x = record { branch_is = refl; sync_is = refl; grows = omega arith; names = λ t i. record { session = t; is_in = i; name_is = refl } }

dispatch_goes : (x : Execution) (rows : Rows) (versions : Pieced Version) (op : OpId) (key : List ℕ) (what : Op) → GoesOn x (dispatch_row x rows versions op key what).execution
dispatch_goes x rows versions op key what =
    record {
      branch_is = refl;
      sync_is = refl;
      grows = omega arith;
      names = λ t i.
          let m = IsIn-map with_sent (filter has_room x.sessions) t i in
          record { session = m.0; is_in = (IsIn-filter has_room x.sessions m.0 m.1).0; name_is = ap (λ (s : Session). s.name) m.2 };
    }

request_there : (hashes : ℕ) (xs : List Execution) (rows : Rows) (versions : Pieced Version) (op : OpId) (key : List ℕ) (what : Op) (y : Execution)
    → IsIn (request_all hashes xs rows versions op key what).executions y → WasThere xs y
request_there hashes [] rows versions op key what y i = absurd i
request_there hashes (x ∷ xs) rows versions op key what y i =
    let step : PrimaryStep = dispatch_row x rows versions op key what in
    let rest : Requested = request_all hashes xs rows versions op key what in
    cond_both (is_for hashes key x) (dispatched step xs) (passed_on x rest) (λ (r : Requested). IsIn r.executions y → WasThere (x ∷ xs) y)
    (λ _ j. elim j [
      | inl e ↦ record { x = x; is_in = inl refl; goes = subst (GoesOn x) e (dispatch_goes x rows versions op key what) }
      | inr k ↦ there_more x xs y (there xs y k)
    ])
    (λ _ j. elim j [
      | inl e ↦ there (x ∷ xs) y (inl e)
      | inr k ↦ there_more x xs y (request_there hashes xs rows versions op key what y k)
    ]) i

-- ---- the rows of a node

message_there : (s : NodeState) (from : NodeId) (m : Sent) (y : Execution) → IsIn (message_row s from m).node.executions y → WasThere s.executions y
message_there s from (message.Raft m) y i = there s.executions y i
message_there s from (message.Say contract ack) y i =
    cond_both (leads s.log) (record s { acks = with_ack contract from ack s.acks }) s (λ (t : NodeState). IsIn t.executions y → WasThere s.executions y)
    (λ _ j. there s.executions y j) (λ _ j. there s.executions y j) i
message_there s from (message.Stream stream) y i = there s.executions y i
message_there s from (message.Got got) y i = there_map (λ x. got_row x from got) (got_goes from got) s.executions y i

brought_there : (s : NodeState) (b : Option Brought) (y : Execution) → IsIn (brought_row s b).node.executions y → WasThere s.executions y
brought_there s None y i = there s.executions y i
brought_there s (Some b) y i =
    cond_both (is_well_formed s b) (message_row s b.from b.message) (silent s) (λ (step : Stepped). IsIn step.node.executions y → WasThere s.executions y)
    (λ _ j. message_there s b.from b.message y j) (λ _ j. there s.executions y j) i

tick_there : (s : NodeState) (y : Execution) → IsIn (tick_row s).node.executions y → WasThere s.executions y
tick_there s y i =
    cond_both (coordinates s.log)
    (record s { log = propose_all s.log (proposals_of s.acks (table_of s.log)); acks = after_proposals s.acks (table_of s.log) }) s
    (λ (t : NodeState). IsIn t.executions y → WasThere s.executions y) (λ _ j. there s.executions y j) (λ _ j. there s.executions y j) i

pub row_there : (s : NodeState) (input : Input) (b : Option Brought) (y : Execution) → IsIn (input_row s input b).node.executions y → WasThere s.executions y
row_there s (Request op key what) b y i = request_there s.setup.hashes s.executions s.rows s.versions op key what y i
row_there s (GiveUp op) b y i = there_map (λ x. give_up_row x op) (give_up_goes op) s.executions y i
row_there s (See other up) b y i = there s.executions y i
row_there s Tick b y i = tick_there s y i
row_there s (Deliver number) b y i = brought_there s b y i
row_there s Crash b y i = absurd i
row_there s Restart b y i = absurd i

-- ---- what a node asks for after a row

asked_life : (me : NodeId) (life next : ℕ) (cs : List Contract) (a : Asking) → IsIn (askings_from me life next cs) a → a.branch.life ≡ life
asked_life me life next [] a i = absurd i
asked_life me life next (c ∷ cs) a i =
    cond_both (is_held_by c.primary me) (record { contract = c; branch = id_in me life next } ∷ askings_from me life (next + 1) cs) (askings_from me life next cs)
    (λ (l : List Asking). IsIn l a → a.branch.life ≡ life)
    (λ _ j. elim j [ inl e ↦ ap (λ (x : Asking). x.branch.life) (sym e) | inr k ↦ asked_life me life (next + 1) cs a k ])
    (λ _ j. asked_life me life next cs a j) i

-- it asked for it before, or the branch is of the life that begins
module _ (me : NodeId) (hashes : ℕ) (contracts : List Contract) where
  asks_after : (k next : Kept) (qs : List Point) → Done me hashes contracts k next qs → (a : Asking) → IsIn next.asking a → IsIn k.asking a ⊎ (a.branch.life ≡ k.life + 1)
  asks_after k next qs (Still e _) a i = inl (subst (λ (x : Kept). IsIn x.asking a) e i)
  asks_after k next qs (Dispatches before after x q these has branch time e _) a i = inl (subst (λ (y : Kept). IsIn y.asking a) e i)
  asks_after k next qs (Streams region branch at j e _) a i = inl (subst (λ (x : Kept). IsIn x.asking a) e i)
  asks_after k next qs (GoesDown e _) a i = absurd (subst (λ (x : Kept). IsIn x.asking a) e i)
  asks_after k next qs (ComesUp e _) a i = inr (asked_life me (k.life + 1) 0 contracts a (subst (λ (x : Kept). IsIn x.asking a) e i))

pub row_asks : (s : NodeState) (input : Input) (b : Option Brought) (a : Asking) → IsIn (input_row s input b).node.asking a → IsIn s.asking a ⊎ (a.branch.life ≡ s.life + 1)
row_asks s input b =
    asks_after s.me s.setup.hashes (table_of s.log).contracts (kept s) (kept (input_row s input b).node) (points_of input (input_row s input b).outs) (row_done s input b)

-- ---- starting

-- an execution that starts a branch for which the node asked
pub record Starts (asking : List Asking) (log : LogState) (y : Execution) : Type 0 where
  pub a : Asking
  pub is_in : IsIn asking a
  pub initial : ℕ
  pub due_is : due (table_of log) a ≡ Some initial
  pub branch_is : a.branch ≡ y.branch
  pub last_is : y.last ≡ initial + 1
  pub sync_is : y.sync ≡ Some (initial + 1)
  pub sessions_are : y.sessions ≡ []

placed_in : (cs : List Contract) (x : Execution) (ys : List Execution) (l : Execution) → IsIn (placed cs x ys) l → (x ≡ l) ⊎ IsIn ys l
placed_in cs x [] l i = i
placed_in cs x (y ∷ ys) l i =
    cond_both (nat_lt (place_of cs x.contract.id) (place_of cs y.contract.id)) (x ∷ y ∷ ys) (y ∷ placed cs x ys) (λ (m : List Execution). IsIn m l → (x ≡ l) ⊎ IsIn (y ∷ ys) l)
    (λ _ j. j)
    (λ _ j. elim j [
      | inl e ↦ inr (inl e)
      | inr k ↦ elim (placed_in cs x ys l k) [ inl e ↦ inl e | inr t ↦ inr (inr t) ]
    ]) i

in_placed : (cs : List Contract) (x : Execution) (ys : List Execution) (l : Execution) → (x ≡ l) ⊎ IsIn ys l → IsIn (placed cs x ys) l
in_placed cs x [] l i = i
in_placed cs x (y ∷ ys) l i =
    cond_both (nat_lt (place_of cs x.contract.id) (place_of cs y.contract.id)) (x ∷ y ∷ ys) (y ∷ placed cs x ys) (λ (m : List Execution). IsIn m l)
    (λ _. i)
    (λ _. elim i [
      | inl e ↦ inr (in_placed cs x ys l (inl e))
      | inr k ↦ elim k [ inl e ↦ inl e | inr t ↦ inr (in_placed cs x ys l (inr t)) ]
    ])

one_in : (me : NodeId) (log : LogState) (a : Asking) (rest : List Asking) (s : Starting) (l : Execution) (o : Option ℕ) → due (table_of log) a ≡ o
    → IsIn (start_one me (table_of log).contracts a o s).executions l → IsIn s.executions l ⊎ Starts (a ∷ rest) log l
one_in me log a rest s l None e i = inl i
one_in me log a rest s l (Some initial) e i =
    elim (placed_in (table_of log).contracts (started a me initial) s.executions l i) [
      | inl is ↦ inr (record {
        a = a;
        is_in = inl refl;
        initial = initial;
        due_is = e;
        branch_is = ap (λ (x : Execution). x.branch) is;
        last_is = ap (λ (x : Execution). x.last) (sym is);
        sync_is = ap (λ (x : Execution). x.sync) (sym is);
        sessions_are = ap (λ (x : Execution). x.sessions) (sym is);
      })
      | inr j ↦ inl j
    ]

each_in : (me : NodeId) (log : LogState) (rest : List Asking) (s : Starting) (l : Execution) → IsIn (start_each me (table_of log) rest s).executions l → IsIn s.executions l ⊎ Starts rest log l
each_in me log [] s l i = inl i
each_in me log (a ∷ rest) s l i =
    elim (each_in me log rest (start_one me (table_of log).contracts a (due (table_of log) a) s) l i) [
      | inl j ↦ one_in me log a rest s l (due (table_of log) a) refl j
      | inr r ↦ inr (record {
        a = r.a;
        is_in = inr r.is_in;
        initial = r.initial;
        due_is = r.due_is;
        branch_is = r.branch_is;
        last_is = r.last_is;
        sync_is = r.sync_is;
        sessions_are = r.sessions_are;
      })
    ]

one_stays : (me : NodeId) (cs : List Contract) (a : Asking) (o : Option ℕ) (s : Starting) (l : Execution) → IsIn s.executions l → IsIn (start_one me cs a o s).executions l
one_stays me cs a None s l i = i
one_stays me cs a (Some initial) s l i = in_placed cs (started a me initial) s.executions l (inr i)

each_stays : (me : NodeId) (t : Table) (rest : List Asking) (s : Starting) (l : Execution) → IsIn s.executions l → IsIn (start_each me t rest s).executions l
each_stays me t [] s l i = i
each_stays me t (a ∷ rest) s l i = each_stays me t rest (start_one me t.contracts a (due t a) s) l (one_stays me t.contracts a (due t a) s l i)

pub each_starts : (me : NodeId) (t : Table) (rest : List Asking) (s : Starting) (a : Asking) (initial : ℕ) → IsIn rest a → due t a ≡ Some initial → IsIn (start_each me t rest s).executions (started a me initial)
each_starts me t [] s a initial i e = absurd i
each_starts me t (b ∷ rest) s a initial i e =
    let next : Starting = start_one me t.contracts b (due t b) s in
    elim i [
      | inl is ↦
          let due_b : due t b ≡ Some initial = subst (λ (x : Asking). due t x ≡ Some initial) (sym is) e in
          each_stays me t rest next (started a me initial)
          (subst (λ (o : Option ℕ). IsIn (start_one me t.contracts b o s).executions (started a me initial)) (sym due_b)
          (in_placed t.contracts (started b me initial) s.executions (started a me initial) (inl (ap (λ (x : Asking). started x me initial) is))))
      | inr j ↦ each_starts me t rest next a initial j e
    ]

asks_one : (me : NodeId) (cs : List Contract) (a : Asking) (rest : List Asking) (o : Option ℕ) (s : Starting) (l : Asking) → IsIn (start_one me cs a o s).asking l → IsIn s.asking l ⊎ IsIn (a ∷ rest) l
asks_one me cs a rest None s l i = elim (IsIn-append s.asking (a ∷ []) l i) [ inl j ↦ inl j | inr j ↦ inr (elim j [ inl e ↦ inl e | inr no' ↦ absurd no' ]) ]
asks_one me cs a rest (Some initial) s l i = inl i

asks_each : (me : NodeId) (t : Table) (rest : List Asking) (s : Starting) (l : Asking) → IsIn (start_each me t rest s).asking l → IsIn s.asking l ⊎ IsIn rest l
asks_each me t [] s l i = inl i
asks_each me t (a ∷ rest) s l i =
    elim (asks_each me t rest (start_one me t.contracts a (due t a) s) l i) [
      | inl j ↦ asks_one me t.contracts a rest (due t a) s l j
      | inr j ↦ inr (inr j)
    ]

-- ---- a step

module _ (step : Stepped) where
  act_there : (v : Option Viewed) (y : Execution) → IsIn (act_on step v).node.executions y → IsIn step.node.executions y ⊎ Starts step.node.asking (act_on step v).node.log y
  act_there None y i = inl i
  act_there (Some v) y i =
      each_in step.node.me (caught_up step.node.log) step.node.asking (record { asking = []; executions = step.node.executions; versions = step.node.versions }) y i

  act_asks : (v : Option Viewed) (a : Asking) → IsIn (act_on step v).node.asking a → IsIn step.node.asking a
  act_asks None a i = i
  act_asks (Some v) a i =
      elim (asks_each step.node.me (table_of (caught_up step.node.log)) step.node.asking (record { asking = []; executions = step.node.executions; versions = step.node.versions }) a i) [
        | inl no' ↦ absurd no'
        | inr j ↦ j
      ]

pub step_asks : (s : NodeState) (input : Input) (b : Option Brought) (a : Asking) → IsIn (node_step s input b).node.asking a → IsIn s.asking a ⊎ (a.branch.life ≡ s.life + 1)
step_asks s input b a i = row_asks s input b a (act_asks (input_row s input b) (viewed (input_row s input b).node.log) a i)

pub step_there : (s : NodeState) (input : Input) (b : Option Brought) (y : Execution) → IsIn (node_step s input b).node.executions y
    → WasThere s.executions y ⊎ Starts (input_row s input b).node.asking (node_step s input b).node.log y
step_there s input b y i =
    let step : Stepped = input_row s input b in
    let m = IsIn-map decided (act step).node.executions y i in
    let z : Execution = m.0 in
    elim (act_there step (viewed step.node.log) z m.1) [
      | inl j ↦
          let w = row_there s input b z j in
          let g = subst (GoesOn z) m.2 (decided_goes z) in
          inl (record { x = w.x; is_in = w.is_in; goes = after w.x z y w.goes g })
      | inr r ↦ inr (record {
        a = r.a;
        is_in = r.is_in;
        initial = r.initial;
        due_is = r.due_is;
        branch_is = r.branch_is ∙ ap (λ (x : Execution). x.branch) m.2;
        last_is = ap (λ (x : Execution). x.last) (sym m.2) ∙ r.last_is;
        sync_is = ap (λ (x : Execution). x.sync) (sym m.2) ∙ r.sync_is;
        sessions_are = ap (λ (x : Execution). x.sessions) (sym m.2) ∙ r.sessions_are;
      })
    ]
  where
    after : (x z y : Execution) → GoesOn x z → GoesOn z y → GoesOn x y
    after x z y f g =
        let a = f.grows in
        let b = g.grows in
        record {
          branch_is = f.branch_is ∙ g.branch_is;
          sync_is = f.sync_is ∙ g.sync_is;
          grows = omega (arith, a, b);
          names = λ t i.
              let n = g.names t i in
              let m = f.names n.session n.is_in in
              record { session = m.session; is_in = m.is_in; name_is = m.name_is ∙ n.name_is };
        }
