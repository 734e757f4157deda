-- What holds in every run in which contracts stay: of each node over all operations on the keys that it leads, of the story
-- of a key, and of what is answered.
use Rattle.std.proofs.Common.{◌≡◌, ◌==◌, ℕ, zero, suc, ◌+◌, ◌≤◌, ◌<◌, Bool, true, false, cond, not, ◌&&◌, ◌||◌, nat_lt, nat_le, List, [], ◌∷◌, Option, Some, None, refl, sym, ap, ◌∙◌, subst, inl, inr, arith}
use Rattle.std.proofs.lemmas.Bool.{false≢true, cond_both, and_parts, or_parts, eqb-true}
use Rattle.std.specs.List.{list_any}
use Rattle.change_runs.specs.runs.region_map.Keys.{hash_of}
use Rattle.change_runs.specs.runs.region_map.Maps.{Pieced}
use Rattle.change_runs.specs.runs.branch_history.declared.version.Version.{Version}
use Rattle.change_runs.specs.runs.register_laws.declared.operation.OpId.{OpId}
use Rattle.change_runs.specs.runs.register_laws.declared.operation.Op.{Op}
use Rattle.change_runs.specs.runs.register_laws.Lists.{same_op}
use Rattle.change_runs.specs.runs.contract_types.declared.config.ShardConfig.{ShardConfig}
use Rattle.change_runs.specs.runs.contract_types.declared.results.Viewed.{Viewed as Results}
use Rattle.change_runs.specs.runs.contract_types.Setup.{SetupState, IsSetup, is_hashes}
use Rattle.change_runs.specs.runs.contract_types.Tables.{first_contracts}
use Rattle.change_runs.specs.runs.table_log.Logs.{table_of, viewed}
use Rattle.change_runs.specs.runs.exec_types.declared.input.Input.{Input}
use Rattle.change_runs.specs.runs.exec_types.declared.input.Input.TheVariants.{Request, GiveUp, See, Tick, Deliver, Crash, Restart}
use Rattle.change_runs.specs.runs.exec_types.declared.outcome.Outcome.{Outcome}
use Rattle.change_runs.specs.runs.exec_types.declared.outcome.Outcome.TheVariants.{NotServing}
use Rattle.change_runs.specs.runs.exec_types.declared.output.Output.{Output}
use Rattle.change_runs.specs.runs.exec_types.declared.output.Output.TheVariants.{Viewed, Answer}
use Rattle.change_runs.specs.runs.store_api.Rows.{Rows, has_key}
use Rattle.change_runs.specs.runs.primary_exec.Execution.{Execution, dispatch_row}
use Rattle.change_runs.specs.runs.node_core.declared.node.Brought.{Brought}
use Rattle.change_runs.specs.runs.node_core.declared.journal.Entry.{Entry}
use Rattle.change_runs.specs.runs.node_core.Parts.{is_for, dispatched, passed_on, request_all, decide_all_outs}
use Rattle.change_runs.specs.runs.node_core.Step.{NodeState, Stepped, request_row, is_led, serves, act_on, act, end_step, node_step, ends_numbers}
use Rattle.change_runs.specs.runs.Run.{requests, is_requested, names_node, arrives, suits, is_fresh, brought, state, IsStep, IsRun}
use Rattle.key_runs.proofs.Refused.{IsRefusedBy, IsRefused}
use Rattle.change_runs.specs.runs.Story.{Point, answer_in, or_else, answer, is_answered, is_answered_outcome, points_in, points_of}
use Rattle.change_runs.proofs.step_runs.Facts.{same_op-true, same_op-refl, fresh_apart}
use Rattle.change_runs.proofs.step_runs.Outs.{answer_in-append}
use Rattle.change_runs.proofs.step_runs.Nodes.{some_holds}
use Rattle.key_runs.proofs.Requesting.{point_at, RequestPoints, request_points}
use Rattle.key_runs.proofs.KeyedFacts.{SaysKeyed, AddsAlong, History-along}
use Rattle.key_runs.proofs.KeyedRoles.{led, one_role}
use Rattle.key_runs.proofs.KeyedNodes.{KeyedNode, holding, other, begin_facts}
use Rattle.change_runs.proofs.step_runs.EndPoints.{end_points}
use Rattle.key_runs.proofs.KeyedSteps.{StepFacts, step_facts}

-- ---- every run

hashes_some : (h : ℕ) → is_hashes h ≡ true → 0 < h
hashes_some zero e = absurd (false≢true e)
hashes_some (suc h) e = omega arith

pub some_hash : (setup : SetupState) → IsSetup setup → 0 < setup.hashes
some_hash setup ok = hashes_some setup.hashes (and_parts (nat_lt 0 setup.nodes && nat_le setup.nodes 7) (is_hashes setup.hashes) ok.fits).1

step_fresh : (setup : SetupState) (past : List Entry) (e : Entry) → IsStep setup past e → is_fresh past e.input ≡ true
step_fresh setup past e h =
    let s : NodeState = state setup e.node.0 past in
    let fits : Bool = nat_lt e.node.0 setup.nodes && names_node setup e.input && arrives past e.node e.input && suits s.up e.input in
    (and_parts fits (is_fresh past e.input) (and_parts (fits && is_fresh past e.input) (not (ends_numbers s e.input (brought past e.input))) h.allowed).0).1

-- each node's table has the contracts with which it began
abbrev pub ContractsStay : SetupState → List Entry → Type 0
ContractsStay setup past = (n : ℕ) → (table_of (state setup n past).log).contracts ≡ first_contracts 0 setup.shards

-- at every moment of a run
abbrev pub ContractsStayIn : SetupState → Type 0
ContractsStayIn setup = (past : List Entry) → IsRun setup past → ContractsStay setup past

entry_facts : (setup : SetupState) → IsSetup setup → (past : List Entry) (e : Entry) → IsStep setup past e → ContractsStay setup past → KeyedNode setup past e.node.0 (holding (state setup e.node.0 past))
    → StepFacts setup past e.node.0 (node_step (state setup e.node.0 past) e.input (brought past e.input)).node e
entry_facts setup ok past e h contracts f =
    let s : NodeState = state setup e.node.0 past in
    let b : Option Brought = brought past e.input in
    subst (λ (outs : List Output). StepFacts setup past e.node.0 (node_step s e.input b).node (record { node = e.node; input = e.input; outputs = outs })) (sym h.outputs)
    (step_facts setup past e.node e.node.0 s e.input b (one_role setup ok e.node.0) (some_hash setup ok) (step_fresh setup past e h) (contracts e.node.0) f)

pub keyed_nodes : (setup : SetupState) → IsSetup setup → ContractsStayIn setup → (past : List Entry) → IsRun setup past
    → AddsAlong past × ((n : ℕ) → KeyedNode setup past n (holding (state setup n past)))
keyed_nodes setup ok contracts [] h = (tt, begin_facts setup ok)
keyed_nodes setup ok contracts (e ∷ past) h =
    let r = keyed_nodes setup ok contracts past h.1 in
    let s = entry_facts setup ok past e h.0 (contracts past h.1) (r.1 e.node.0) in (
      (s.adds, r.0),
      λ n.
          cond_both (e.node.0 == n) (node_step (state setup n past) e.input (brought past e.input)).node (state setup n past) (λ (t : NodeState). KeyedNode setup (e ∷ past) n (holding t))
          (λ same. subst (λ (k : ℕ). KeyedNode setup (e ∷ past) k (holding (node_step (state setup k past) e.input (brought past e.input)).node)) (eqb-true e.node.0 n same) s.own)
          (λ apart. other setup ok past e e.node.0 n (holding (state setup n past)) apart s.points_led (r.1 n)),
    )

-- ---- "not serving"

-- an input that requests an operation, in a step without a point, finds a node that does not serve
not_served_now : (s : NodeState) (input : Input) (b : Option Brought) (op : OpId) → requests input op ≡ true → points_of input (node_step s input b).outs ≡ [] → IsRefusedBy s input op
not_served_now s (Request q key what) b op r none =
    let these : RequestPoints s.setup.hashes s.executions q key what (points_in what (end_step (request_row s q key what)).outs) =
    subst (RequestPoints s.setup.hashes s.executions q key what) (sym (end_points what (request_row s q key what))) (request_points s.setup.hashes s.executions s.rows s.versions q key what) in (
      same_op-true q op r,
      elim these [
        | inl p ↦ p.0
        | inr p ↦ absurd (not_both (point_at q key what p.1.0 p.1.1) (points_in what (end_step (request_row s q key what)).outs) p.1.2 none)
      ],
    )
  where
    not_both : (p : Point) (ps : List Point) → ps ≡ p ∷ [] → ps ≡ [] → ⊥
    not_both p ps one none = cc
not_served_now s (GiveUp q) b op r none = absurd (false≢true r)
not_served_now s (See other up) b op r none = absurd (false≢true r)
not_served_now s Tick b op r none = absurd (false≢true r)
not_served_now s (Deliver number) b op r none = absurd (false≢true r)
not_served_now s Crash b op r none = absurd (false≢true r)
not_served_now s Restart b op r none = absurd (false≢true r)

-- a request that no execution is for does nothing but to answer so
request_none : (hashes : ℕ) (xs : List Execution) (rows : Rows) (versions : Pieced Version) (op : OpId) (key : List ℕ) (what : Op) → list_any (is_for hashes key) xs ≡ false
    → (request_all hashes xs rows versions op key what).outs ≡ Answer op NotServing ∷ []
request_none hashes [] rows versions op key what e = refl
request_none hashes (x ∷ xs) rows versions op key what e =
    let both = or_parts (is_for hashes key x) (list_any (is_for hashes key) xs) e in
    ap (λ c. (cond c (dispatched (dispatch_row x rows versions op key what) xs) (passed_on x (request_all hashes xs rows versions op key what))).outs) both.0
    ∙ request_none hashes xs rows versions op key what both.1

-- what is answered before the end of a step stays answered
act_answers : (step : Stepped) (v : Option Results) (op : OpId) (outcome : Outcome) → answer_in step.outs op ≡ Some outcome → answer_in (act_on step v).outs op ≡ Some outcome
act_answers step None op outcome is = is
act_answers step (Some v) op outcome is = answer_in-append step.outs (Viewed v.first v.results ∷ []) op ∙ ap (λ (o : Option Outcome). or_else o None) is

end_answers : (step : Stepped) (op : OpId) (outcome : Outcome) → answer_in step.outs op ≡ Some outcome → answer_in (end_step step).outs op ≡ Some outcome
end_answers step op outcome is =
    answer_in-append (act step).outs (decide_all_outs (act step).node.executions) op
    ∙ ap (λ (o : Option Outcome). or_else o (answer_in (decide_all_outs (act step).node.executions) op)) (act_answers step (viewed step.node.log) op outcome is)

-- a node that does not serve answers so
not_served_answer : (s : NodeState) (input : Input) (b : Option Brought) (op : OpId) → IsRefusedBy s input op → answer_in (node_step s input b).outs op ≡ Some NotServing
not_served_answer s (Request q key what) b op h =
    end_answers (request_row s q key what) op NotServing
    (ap (λ (l : List Output). answer_in l op) (request_none s.setup.hashes s.executions s.rows s.versions q key what h.1)
    ∙ ap (λ c. cond c (Some NotServing) None) (ap (λ (o : OpId). same_op o op) h.0 ∙ same_op-refl op))
not_served_answer s (GiveUp q) b op h = absurd h
not_served_answer s (See other up) b op h = absurd h
not_served_answer s Tick b op h = absurd h
not_served_answer s (Deliver number) b op h = absurd h
not_served_answer s Crash b op h = absurd h
not_served_answer s Restart b op h = absurd h

not_served_requests : (s : NodeState) (input : Input) (op : OpId) → IsRefusedBy s input op → requests input op ≡ true
not_served_requests s (Request q key what) op h = ap (λ (o : OpId). same_op o op) h.0 ∙ same_op-refl op
not_served_requests s (GiveUp q) op h = absurd h
not_served_requests s (See other up) op h = absurd h
not_served_requests s Tick op h = absurd h
not_served_requests s (Deliver number) op h = absurd h
not_served_requests s Crash op h = absurd h
not_served_requests s Restart op h = absurd h

-- a shard that counts is one of them
any_led : (n hashes : ℕ) (key : List ℕ) (ss : List ShardConfig) → 1 ≤ led n ss (hash_of key hashes) key → list_any (λ s. is_led n s && has_key s.region hashes key) ss ≡ true
any_led n hashes key [] l = absurd (omega (arith, l))
any_led n hashes key (s ∷ ss) l =
    elim (is_led n s && has_key s.region hashes key) as (λ c. 1 ≤ cond c 1 0 + led n ss (hash_of key hashes) key → (c || list_any (λ s. is_led n s && has_key s.region hashes key) ss) ≡ true) [
      | true ↦ λ _. refl
      | false ↦ λ m. any_led n hashes key ss (omega (arith, m))
    ] l

module _ (setup : SetupState) (ok : IsSetup setup) (contracts : ContractsStayIn setup) where
  pub requested : (past : List Entry) → IsRun setup past → (op : OpId) → is_answered past op ≡ true → is_requested past op ≡ true
  requested past h op = (History-along past (keyed_nodes setup ok contracts past h).0).answered op

  pub refused_only : (past : List Entry) → IsRun setup past → (op : OpId) → answer past op ≡ Some NotServing → IsRefused setup past op
  refused_only [] h op a = cc
  refused_only (e ∷ past) h op a =
      elim (answer past op) as (λ v. answer past op ≡ v → or_else v (answer_in e.outputs op) ≡ Some NotServing → IsRefused setup (e ∷ past) op) [
        | Some outcome ↦ λ is k. inr (refused_only past h.1 op (is ∙ k))
        | None ↦ λ _ k.
            let adds = (keyed_nodes setup ok contracts (e ∷ past) h).0.0 in
            let s : SaysKeyed past e op NotServing = (adds.says op NotServing k).says in
            let none : points_of e.input (node_step (state setup e.node.0 past) e.input (brought past e.input)).outs ≡ [] = ap (points_of e.input) (sym h.0.outputs) ∙ s.1 in
            inl (not_served_now (state setup e.node.0 past) e.input (brought past e.input) op s.0 none)
      ] refl a

  pub refused_always : (past : List Entry) → IsRun setup past → (op : OpId) → IsRefused setup past op → answer past op ≡ Some NotServing
  refused_always [] h op n = absurd n
  refused_always (e ∷ past) h op n =
      elim n [
        | inr old ↦ ap (λ (v : Option Outcome). or_else v (answer_in e.outputs op)) (refused_always past h.1 op old)
        | inl now ↦
            let said : answer_in e.outputs op ≡ Some NotServing =
            ap (λ (l : List Output). answer_in l op) h.0.outputs ∙ not_served_answer (state setup e.node.0 past) e.input (brought past e.input) op now in
            let known = History-along past (keyed_nodes setup ok contracts past h.1).0 in
            elim (answer past op) as (λ v. answer past op ≡ v → or_else v (answer_in e.outputs op) ≡ Some NotServing) [
              | None ↦ λ _. said
              | Some outcome ↦ λ is. absurd (fresh_apart past e.input op (step_fresh setup past e h.0) (not_served_requests (state setup e.node.0 past) e.input op now) (known.answered op (ap is_answered_outcome is)))
            ] refl
      ]

  -- ---- which keys a node serves

  -- only those of shards that have it as their primary
  pub serves_led : (past : List Entry) → IsRun setup past → (n : ℕ) (key : List ℕ) → serves (state setup n past) key ≡ true → list_any (λ s. is_led n s && has_key s.region setup.hashes key) setup.shards ≡ true
  serves_led past h n key is =
      let f = (keyed_nodes setup ok contracts past h).1 n in
      let s : NodeState = state setup n past in
      let some : list_any (is_for setup.hashes key) s.executions ≡ true = ap (λ (v : SetupState). list_any (is_for v.hashes key) s.executions) (sym f.begun) ∙ is in
      let held = some_holds setup.hashes key s.executions some in
      let leads = f.leads (hash_of key setup.hashes) key in
      any_led n setup.hashes key setup.shards (omega (arith, held, leads))
