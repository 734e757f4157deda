-- What the kept acks and the pending operations of executions rest on, and how the rows of a node keep it.
use Rattle.std.proofs.Common.{◌≡◌, ◌⊎◌, ℕ, zero, suc, ◌+◌, ◌≤◌, true, false, nat_lt, List, [], ◌∷◌, length, map, Option, Some, None, slice_set, slice_index_or, inl, inr, refl, sym, ap, ◌∙◌, subst, arith}
use Rattle.std.proofs.Math.ListN.{length-set}
use Rattle.std.proofs.lemmas.Bool.{cond_both, cases_eq, ltb-true, ltb-false}
use Rattle.std.proofs.lemmas.List.{get_or-set_same}
use Rattle.std.specs.List.{AllByRecursion}
use Rattle.row_runs.specs.runs.region_map.declared.id.Id.{Id}
use Rattle.row_runs.specs.runs.region_map.declared.id.NodeId.{NodeId}
use Rattle.row_runs.specs.runs.region_map.declared.region.Region.{Region}
use Rattle.row_runs.specs.runs.region_map.Maps.{Pieced}
use Rattle.row_runs.specs.runs.branch_history.declared.version.Version.{Version}
use Rattle.row_runs.specs.runs.register_laws.declared.operation.OpId.{OpId}
use Rattle.row_runs.specs.runs.register_laws.declared.operation.Op.{Op}
use Rattle.row_runs.specs.runs.register_laws.Register.{reply_of}
use Rattle.row_runs.specs.runs.contract_types.declared.contract.Contract.{Contract}
use Rattle.row_runs.specs.runs.contract_types.declared.results.Viewed.{Viewed}
use Rattle.row_runs.specs.runs.contract_types.Tables.{Table}
use Rattle.row_runs.specs.runs.table_log.Logs.{table_of, caught_up}
use Rattle.row_runs.specs.runs.coordinator.Acks.{with_ack as with_said}
use Rattle.row_runs.specs.runs.coordinator.Proposals.{proposals_of, after_proposals}
use Rattle.row_runs.specs.runs.exec_types.declared.input.Input.{Input}
use Rattle.row_runs.specs.runs.exec_types.declared.input.Input.TheVariants.{Request, GiveUp, See, Tick, Deliver, Crash, Restart}
use Rattle.row_runs.specs.runs.exec_types.declared.message.Got.{Got}
use Rattle.row_runs.specs.runs.exec_types.declared.message.Message.{Message as Sent}
use Rattle.row_runs.specs.runs.exec_types.declared.message.Message.TheVariants as message
use Rattle.row_runs.specs.runs.store_api.Rows.{Rows, has_key, value_of}
use Rattle.row_runs.specs.runs.write_dispatch.declared.decided.Decided.{Decided}
use Rattle.row_runs.specs.runs.write_dispatch.declared.decided.KeptAck.{KeptAck}
use Rattle.row_runs.specs.runs.write_dispatch.Dispatch.{DispatchState, Acks, ack_of, exceeds, with_ack, is_decided, pending_of, without_op}
use Rattle.row_runs.proofs.runs.write_dispatch.Later.{no_acks-none, with_ack-other}
use Rattle.row_runs.specs.runs.primary_exec.declared.asking.Asking.{Asking}
use Rattle.row_runs.specs.runs.primary_exec.declared.session.Session.{Session}
use Rattle.row_runs.specs.runs.primary_exec.Execution.{Execution, dispatch_row, started, is_live, with_acked, with_stands, got_row, decided, without_given_up, give_up_row}
use Rattle.row_runs.specs.runs.node_core.declared.node.Brought.{Brought}
use Rattle.row_runs.specs.runs.node_core.Parts.{Requested, is_for, dispatched, passed_on, request_all}
use Rattle.row_runs.specs.runs.node_core.Starting.{Starting, due, start_one, start_each}
use Rattle.row_runs.specs.runs.node_core.Step.{NodeState, Stepped, silent, leads, coordinates, propose_all, message_row, is_well_formed, brought_row, input_row, act_on}
use Rattle.row_runs.specs.runs.Story.{Point, IsIn, points_in, points_of}
use Rattle.row_runs.proofs.key_runs.KeyedStarts.{placed_all}
use Rattle.row_runs.proofs.change_runs.LedHistories.{some_inner}
use Rattle.row_runs.proofs.step_runs.Outs.{undecided_keeps, without_op_keeps, all_push}
use Rattle.row_runs.proofs.step_runs.PointBranches.{all_at, all_from}
use Rattle.row_runs.proofs.key_runs.Requesting.{point_at, dispatch_points}
use Rattle.row_runs.proofs.StoredSteps.{all_step}

-- ---- one more ack

get_or-past : (xs : Acks) (n : ℕ) → length xs ≤ n → slice_index_or xs n None ≡ None
get_or-past [] n h = refl
get_or-past (x ∷ xs) zero h = absurd (omega arith)
get_or-past (x ∷ xs) (suc n) h = get_or-past xs n (omega arith)

set_own : (acks : Acks) (i : ℕ) (y : Option KeptAck) → (ack_of (slice_set acks i y) i ≡ y) ⊎ (ack_of (slice_set acks i y) i ≡ None)
set_own acks i y =
    elim (nat_lt i (length acks)) as (λ c. nat_lt i (length acks) ≡ c → (ack_of (slice_set acks i y) i ≡ y) ⊎ (ack_of (slice_set acks i y) i ≡ None)) [
      | true ↦ λ e. inl (get_or-set_same acks i y None (ltb-true i (length acks) e))
      | false ↦ λ e.
          let low = ltb-false i (length acks) e in
          let same = length-set acks i y in
          inr (get_or-past (slice_set acks i y) i (omega (arith, low, same)))
    ] refl

-- an ack that is kept was kept before, or is the new one
pub kept_cases : (acks : Acks) (server view at v : ℕ) (kept : KeptAck) → ack_of (with_ack acks server view at) v ≡ Some kept → (ack_of acks v ≡ Some kept) ⊎ ((v ≡ server) × (kept.at ≡ at))
kept_cases acks server view at v kept e =
    let new : KeptAck = record { view = view; at = at } in
    elim (cases_eq v server) [
      | inr other ↦ inl (sym (with_ack-other acks server view at v other) ∙ e)
      | inl same ↦
          cond_both (exceeds view at (ack_of acks server)) (slice_set acks server (Some new)) acks (λ (a : Acks). ack_of a v ≡ Some kept → (ack_of acks v ≡ Some kept) ⊎ ((v ≡ server) × (kept.at ≡ at)))
          (λ _ f.
          let own : ack_of (slice_set acks server (Some new)) server ≡ Some kept = subst (λ k. ack_of (slice_set acks server (Some new)) k ≡ Some kept) same f in
          elim (set_own acks server (Some new)) [
            | inl is ↦ inr (same, ap (λ (k : KeptAck). k.at) (some_inner kept new (sym own ∙ is)))
            | inr none ↦ absurd (let x : None ≡ Some kept = sym none ∙ own in cc)
          ])
          (λ _ f. inl f) e
    ]

-- ---- what is kept of an execution

-- what is known of a pending operation
pub record WaitsIn (W : Region → OpId → ℕ → Type 0) (region : Region) (d : Decided) : Type 0 where
  pub of : (op : OpId) → d.op ≡ Some op → W region op d.at

-- of each timestamp above 0 that a server acknowledged something is known at each key of the region, and of what is pending
pub record Backed (hashes n : ℕ) (R : ℕ → List ℕ → Id → ℕ → Type 0) (W : Region → OpId → ℕ → Type 0) (x : Execution) : Type 0 where
  pub me_is : x.me.0 ≡ n
  pub acks : (v : ℕ) (kept : KeptAck) → ack_of x.dispatch.acks v ≡ Some kept → 1 ≤ kept.at → (key : List ℕ) → is_for hashes key x ≡ true → R v key x.branch kept.at
  pub waits : AllByRecursion (WaitsIn W x.contract.region) x.dispatch.waiting

pub backed_more : (hashes n : ℕ) (R S : ℕ → List ℕ → Id → ℕ → Type 0) (W V : Region → OpId → ℕ → Type 0)
    → ((v : ℕ) (key : List ℕ) (b : Id) (at : ℕ) → R v key b at → S v key b at) → ((r : Region) (op : OpId) (at : ℕ) → W r op at → V r op at)
    → (xs : List Execution) → AllByRecursion (Backed hashes n R W) xs → AllByRecursion (Backed hashes n S V) xs
backed_more hashes n R S W V more later [] h = tt
backed_more hashes n R S W V more later (x ∷ xs) h = (
  record {
    me_is = h.0.me_is;
    acks = λ v kept is up key has. more v key x.branch kept.at (h.0.acks v kept is up key has);
    waits = each x.dispatch.waiting h.0.waits;
  },
  backed_more hashes n R S W V more later xs h.1,
)
  where
    each : (ds : List Decided) → AllByRecursion (WaitsIn W x.contract.region) ds → AllByRecursion (WaitsIn V x.contract.region) ds
    each [] w = tt
    each (d ∷ ds) w = (record { of = λ op e. later x.contract.region op d.at (w.0.of op e) }, each ds w.1)

module _ (hashes n : ℕ) (R : ℕ → List ℕ → Id → ℕ → Type 0) (W : Region → OpId → ℕ → Type 0) where
  abbrev B : Execution → Type 0
  B = Backed hashes n R W

  -- ---- acknowledgements

  -- what a server's message says of where it stands, to an execution
  abbrev pub OursAt : NodeId → Got → Execution → Type 0
  OursAt from got x = is_live x from got.session ≡ true → (at : ℕ) → got.stands ≡ Some at → (key : List ℕ) → is_for hashes key x ≡ true → R from.0 key x.branch at

  abbrev pub Ours : List Execution → NodeId → Sent → Type 0
  Ours xs from (message.Raft m) = Unit {0}
  Ours xs from (message.Say contract ack) = Unit {0}
  Ours xs from (message.Stream s) = Unit {0}
  Ours xs from (message.Got got) = (x : Execution) → IsIn xs x → OursAt from got x

  abbrev pub Brings : List Execution → Option Brought → Type 0
  Brings xs None = Unit {0}
  Brings xs (Some b) = Ours xs b.from b.message

  stands_backed : (x : Execution) (from : NodeId) (got : Got) (o : Option ℕ) (ss : List Session) → ((at : ℕ) → o ≡ Some at → (key : List ℕ) → is_for hashes key x ≡ true → R from.0 key x.branch at)
      → B x → B (record x { sessions = ss; dispatch = with_stands x.dispatch from got o })
  stands_backed x from got None ss new h = record { me_is = h.me_is; acks = h.acks; waits = h.waits }
  stands_backed x from got (Some at) ss new h = record {
    me_is = h.me_is;
    acks = λ v kept is up key has.
        elim (kept_cases x.dispatch.acks from.0 got.view at v kept is) [
          | inl old ↦ h.acks v kept old up key has
          | inr e ↦ subst (λ k. R k key x.branch kept.at) (sym e.0) (subst (R from.0 key x.branch) (sym e.1) (new at refl key has))
        ];
    waits = h.waits;
  }

  got_backed : (from : NodeId) (got : Got) (x : Execution) → B x × OursAt from got x → B (got_row x from got)
  got_backed from got x h =
      let ss : List Session = map (with_acked from got.session got.upto) x.sessions in
      cond_both (is_live x from got.session) (record x { sessions = ss; dispatch = with_stands x.dispatch from got got.stands }) x B
      (λ live. stands_backed x from got got.stands ss (h.1 live) h.0) (λ _. h.0)

  -- ---- requests

  -- what is known of the operation of a new point
  abbrev pub News : List Point → Type 0
  News ps = (q : Point) → IsIn ps q → (region : Region) → has_key region hashes q.key ≡ true → (at : ℕ) → 1 ≤ at → W region q.op at

  request_backed : (xs : List Execution) (rows : Rows) (versions : Pieced Version) (op : OpId) (key : List ℕ) (what : Op) → AllByRecursion B xs
      → News (points_in what (request_all hashes xs rows versions op key what).outs) → AllByRecursion B (request_all hashes xs rows versions op key what).executions
  request_backed [] rows versions op key what h new = tt
  request_backed (x ∷ xs) rows versions op key what h new =
      cond_both (is_for hashes key x) (dispatched (dispatch_row x rows versions op key what) xs) (passed_on x (request_all hashes xs rows versions op key what))
      (λ (r : Requested). News (points_in what r.outs) → AllByRecursion B r.executions)
      (λ has new. (
        let q : Point = point_at op key what x.branch (x.last + 1) in
            let d : Decided = record { op = Some op; at = x.last + 1; reply = reply_of (value_of rows key) what } in
            let here : W x.contract.region op (x.last + 1) =
            new q (subst (λ (l : List Point). IsIn l q) (sym (dispatch_points x rows versions op key what)) (inl refl)) x.contract.region has (x.last + 1) (omega arith) in
            record {
              me_is = h.0.me_is;
              acks = h.0.acks;
              waits = all_push (WaitsIn W x.contract.region) x.dispatch.waiting d h.0.waits (record { of = λ p e. subst (λ o. W x.contract.region o (x.last + 1)) (some_inner op p e) here });
            },
        h.1,
      ))
      (λ _ new. (h.0, request_backed xs rows versions op key what h.1 new)) new

  -- ---- giving up

  without_waits : (x : Execution) (op : OpId) (o : Option Decided) → B x → B (record x { dispatch = without_given_up x.dispatch x.contract x.me.0 op o })
  without_waits x op None h = record { me_is = h.me_is; acks = h.acks; waits = h.waits }
  without_waits x op (Some d) h =
      cond_both (is_decided x.dispatch.acks x.contract x.me.0 d.at) x.dispatch (record x.dispatch { waiting = without_op x.dispatch.waiting op }) (λ (p : DispatchState). B (record x { dispatch = p }))
      (λ _. record { me_is = h.me_is; acks = h.acks; waits = h.waits })
      (λ _. record { me_is = h.me_is; acks = h.acks; waits = without_op_keeps (WaitsIn W x.contract.region) op x.dispatch.waiting h.waits })

  -- ---- the row of an input

  message_backed : (s : NodeState) (from : NodeId) (m : Sent) → Ours s.executions from m → AllByRecursion B s.executions → AllByRecursion B (message_row s from m).node.executions
  message_backed s from (message.Raft m) ours h = h
  message_backed s from (message.Say contract ack) ours h =
      cond_both (leads s.log) (record s { acks = with_said contract from ack s.acks }) s (λ (t : NodeState). AllByRecursion B t.executions) (λ _. h) (λ _. h)
  message_backed s from (message.Stream stream) ours h = h
  message_backed s from (message.Got got) ours h =
      all_step (λ x. B x × OursAt from got x) B (λ x. got_row x from got) (got_backed from got) s.executions
      (all_from (λ x. B x × OursAt from got x) s.executions (λ x i. (all_at B s.executions h x i, ours x i)))

  brought_backed : (s : NodeState) (b : Option Brought) → Brings s.executions b → AllByRecursion B s.executions → AllByRecursion B (brought_row s b).node.executions
  brought_backed s None ours h = h
  brought_backed s (Some b) ours h =
      cond_both (is_well_formed s b) (message_row s b.from b.message) (silent s) (λ (step : Stepped). AllByRecursion B step.node.executions) (λ _. message_backed s b.from b.message ours h) (λ _. h)

  pub row_backed : (s : NodeState) (input : Input) (b : Option Brought) → s.setup.hashes ≡ hashes → Brings s.executions b → News (points_of input (input_row s input b).outs)
      → AllByRecursion B s.executions → AllByRecursion B (input_row s input b).node.executions
  row_backed s (Request op key what) b same ours new h =
      subst (λ hs. News (points_in what (request_all hs s.executions s.rows s.versions op key what).outs) → AllByRecursion B (request_all hs s.executions s.rows s.versions op key what).executions) (sym same)
      (request_backed s.executions s.rows s.versions op key what h) new
  row_backed s (GiveUp op) b same ours new h = all_step B B (λ x. give_up_row x op) (λ x k. without_waits x op (pending_of x.dispatch.waiting op) k) s.executions h
  row_backed s (See other up) b same ours new h = h
  row_backed s Tick b same ours new h =
      cond_both (coordinates s.log) (record s { log = propose_all s.log (proposals_of s.acks (table_of s.log)); acks = after_proposals s.acks (table_of s.log) }) s (λ (t : NodeState). AllByRecursion B t.executions) (λ _. h) (λ _. h)
  row_backed s (Deliver number) b same ours new h = brought_backed s b ours h
  row_backed s Crash b same ours new h = tt
  row_backed s Restart b same ours new h = tt

  -- ---- the end of a step

  one_backed : (me : NodeId) (cs : List Contract) (a : Asking) (initial : Option ℕ) (s : Starting) → me.0 ≡ n → AllByRecursion B s.executions → AllByRecursion B (start_one me cs a initial s).executions
  one_backed me cs a None s is h = h
  one_backed me cs a (Some initial) s is h =
      placed_all B cs (started a me initial) s.executions
      (record {
        me_is = is;
        acks = λ v kept e. absurd (let x : None ≡ Some kept = sym (no_acks-none v) ∙ e in cc);
        waits = (record { of = λ op e. absurd (cc e) }, tt);
      }) h

  each_backed : (me : NodeId) (t : Table) (waits : List Asking) (s : Starting) → me.0 ≡ n → AllByRecursion B s.executions → AllByRecursion B (start_each me t waits s).executions
  each_backed me t [] s is h = h
  each_backed me t (a ∷ waits) s is h = each_backed me t waits (start_one me t.contracts a (due t a) s) is (one_backed me t.contracts a (due t a) s is h)

  pub act_backed : (step : Stepped) (v : Option Viewed) → step.node.me.0 ≡ n → AllByRecursion B step.node.executions → AllByRecursion B (act_on step v).node.executions
  act_backed step None is h = h
  act_backed step (Some v) is h =
      let s : NodeState = step.node in
      each_backed s.me (table_of (caught_up s.log)) s.asking (record { asking = []; executions = s.executions; versions = s.versions }) is h

  pub decide_backed : (xs : List Execution) → AllByRecursion B xs → AllByRecursion B (map decided xs)
  decide_backed xs h =
      all_step B B decided (λ x k. record { me_is = k.me_is; acks = k.acks; waits = undecided_keeps (WaitsIn W x.contract.region) x x.dispatch.waiting k.waits }) xs h
