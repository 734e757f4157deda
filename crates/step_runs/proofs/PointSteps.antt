-- What a step of a node does to its branches and their points.
use Rattle.std.proofs.Common.{◌≡◌, ℕ, ◌+◌, ◌≤◌, cond, List, [], ◌∷◌, ◌++◌, map, filter, nat_lt, Option, Some, None, refl, sym, ap, ◌∙◌, subst, arith, append-nil}
use Rattle.std.proofs.lemmas.Bool.{cond_both}
use Rattle.std.specs.List.{AllByRecursion}
use Rattle.runs.specs.region_map.declared.id.Id.{Id}
use Rattle.runs.specs.region_map.declared.id.NodeId.{NodeId}
use Rattle.runs.specs.region_map.Equal.{same_id}
use Rattle.runs.specs.region_map.Maps.{Pieced}
use Rattle.runs.specs.branch_history.declared.version.Version.{Version}
use Rattle.runs.specs.register_laws.declared.operation.OpId.{OpId}
use Rattle.runs.specs.register_laws.declared.operation.Op.{Op}
use Rattle.runs.specs.contract_types.declared.contract.Contract.{Contract}
use Rattle.runs.specs.contract_types.declared.results.Viewed.{Viewed}
use Rattle.runs.specs.contract_types.Tables.{Table}
use Rattle.runs.specs.table_log.Logs.{table_of, caught_up, viewed}
use Rattle.runs.specs.coordinator.Acks.{with_ack}
use Rattle.runs.specs.coordinator.Proposals.{proposals_of, after_proposals}
use Rattle.runs.specs.exec_types.declared.message.Got.{Got}
use Rattle.runs.specs.exec_types.declared.message.Message.{Message as Sent}
use Rattle.runs.specs.exec_types.declared.message.Message.TheVariants as message
use Rattle.runs.specs.exec_types.declared.message.Part.{Part}
use Rattle.runs.specs.exec_types.declared.input.Input.{Input}
use Rattle.runs.specs.exec_types.declared.input.Input.TheVariants.{Request, GiveUp, See, Tick, Deliver, Crash, Restart}
use Rattle.runs.specs.exec_types.declared.output.Output.{Output}
use Rattle.runs.specs.exec_types.declared.output.Output.TheVariants as output
use Rattle.runs.specs.store_api.Rows.{Rows, value_of}
use Rattle.runs.specs.primary_exec.declared.asking.Asking.{Asking}
use Rattle.runs.specs.primary_exec.declared.session.Session.{Session}
use Rattle.runs.specs.primary_exec.Execution.{Execution, has_room, sends, part_of, dispatch_row, started, with_acked, with_stands, is_live, got_row, decided, give_up_row}
use Rattle.runs.specs.node_core.declared.node.Brought.{Brought}
use Rattle.runs.specs.node_core.Parts.{Requested, is_for, dispatched, passed_on, request_all}
use Rattle.runs.specs.node_core.Starting.{Starting, place_of, placed, due, start_one, start_each}
use Rattle.runs.specs.node_core.Step.{NodeState, Stepped, silent, request_row, message_row, is_well_formed, brought_row, leads, coordinates, propose_all, with_proposals, tick_row, crash_row, restart_row, input_row, act_on, act, end_step, node_step}
use Rattle.runs.specs.Story.{Point, points_in, points_of}
use Rattle.runs.specs.Rising.{AreRising}
use Rattle.step_runs.proofs.EndPoints.{end_points}
use Rattle.step_runs.proofs.Outs.{points_in-append, points_in-sends}
use Rattle.step_runs.proofs.PointBranches.{times, Head, head_of, heads_of, branches, asked_of, Held, held, IsHeadOf, IsUnused, IsHeld, IsNext, Takes, takes_none, takes_here, takes_later, held_next}
use Rattle.step_runs.proofs.PointBegins.{restart_held}

-- ---- what leaves the branches as they were

heads_map : (f : Execution → Execution) → ((x : Execution) → head_of (f x) ≡ head_of x) → (xs : List Execution) → heads_of (map f xs) ≡ heads_of xs
heads_map f same [] = refl
heads_map f same (x ∷ xs) = λ i. same x i ∷ heads_map f same xs i

got_head : (from : NodeId) (got : Got) (x : Execution) → head_of (got_row x from got) ≡ head_of x
got_head from got x =
    cond_both (is_live x from got.session)
    (record x { sessions = map (with_acked from got.session got.upto) x.sessions; dispatch = with_stands x.dispatch from got got.stands }) x
    (λ (y : Execution). head_of y ≡ head_of x) (λ _. refl) (λ _. refl)

with_heads : (s : NodeState) (xs : List Execution) → heads_of xs ≡ heads_of s.executions → held (record s { executions = xs }) ≡ held s
with_heads s xs same = λ i. record { me = s.me; life = s.life; heads = same i; asked = asked_of s.asking }

message_held : (s : NodeState) (from : NodeId) (m : Sent) → held (message_row s from m).node ≡ held s
message_held s from (message.Raft m) = refl
message_held s from (message.Say contract ack) =
    cond_both (leads s.log) (record s { acks = with_ack contract from ack s.acks }) s (λ (t : NodeState). held t ≡ held s) (λ _. refl) (λ _. refl)
message_held s from (message.Stream stream) = refl
message_held s from (message.Got got) = with_heads s (map (λ x. got_row x from got) s.executions) (heads_map (λ x. got_row x from got) (got_head from got) s.executions)

brought_held : (s : NodeState) (b : Option Brought) → held (brought_row s b).node ≡ held s
brought_held s None = refl
brought_held s (Some b) =
    cond_both (is_well_formed s b) (message_row s b.from b.message) (silent s) (λ (step : Stepped). held step.node ≡ held s) (λ _. message_held s b.from b.message) (λ _. refl)

-- ---- a request

module _ (n life : ℕ) (ps : List Point) where
  dispatch_takes : (x : Execution) (xs : List Execution) (rows : Rows) (versions : Pieced Version) (op : OpId) (key : List ℕ) (what : Op)
      → IsHeadOf n life ps (head_of x) → AllByRecursion (IsHeadOf n life ps) (heads_of xs) → ((b : Id) → times (branches (heads_of (x ∷ xs))) b ≤ 1)
      → Takes n life ps (points_in what (dispatch_row x rows versions op key what).outs) (heads_of (x ∷ xs)) (heads_of ((dispatch_row x rows versions op key what).execution ∷ xs))
  dispatch_takes x xs rows versions op key what k ks once =
      let part : Part = part_of (value_of rows key) (x.last + 1) key what in
      let sessions : List Session = filter has_room x.sessions in
      let now : List Output = output.Dispatched op key x.branch (x.last + 1) ∷ [] in
      let q : Point = record { op = op; what = what; key = key; branch = x.branch; timestamp = x.last + 1 } in
      let one : points_in what (dispatch_row x rows versions op key what).outs ≡ q ∷ [] =
      points_in-append what (map (sends part) sessions) now ∙ ap (λ (l : List Point). l ++ q ∷ []) (points_in-sends what part sessions) in
      subst (λ (qs : List Point). Takes n life ps qs (heads_of (x ∷ xs)) (record { branch = x.branch; last = x.last + 1 } ∷ heads_of xs)) (sym one)
      (takes_here n life ps (head_of x) (heads_of xs) q k ks once refl refl)

  request_takes : (hashes : ℕ) (xs : List Execution) (rows : Rows) (versions : Pieced Version) (op : OpId) (key : List ℕ) (what : Op)
      → AllByRecursion (IsHeadOf n life ps) (heads_of xs) → ((b : Id) → times (branches (heads_of xs)) b ≤ 1)
      → Takes n life ps (points_in what (request_all hashes xs rows versions op key what).outs) (heads_of xs) (heads_of (request_all hashes xs rows versions op key what).executions)
  request_takes hashes [] rows versions op key what k once = takes_none n life ps [] tt
  request_takes hashes (x ∷ xs) rows versions op key what k once =
      let rest : Requested = request_all hashes xs rows versions op key what in
      cond_both (is_for hashes key x) (dispatched (dispatch_row x rows versions op key what) xs) (passed_on x rest)
      (λ (r : Requested). Takes n life ps (points_in what r.outs) (heads_of (x ∷ xs)) (heads_of r.executions))
      (λ _. dispatch_takes x xs rows versions op key what k.0 k.1 once)
      (λ _. takes_later n life ps (points_in what rest.outs) (head_of x) (heads_of xs) (heads_of rest.executions) k.0 once
      (request_takes hashes xs rows versions op key what k.1 (λ b. let few = once b in omega (arith, few))))

  -- ---- starting

  -- executions, what still asks, and what is yet to be looked at
  record IsStarting (heads : List Head) (asked rest : List Id) : Type 0 where
    heads_are : AllByRecursion (IsHeadOf n life ps) heads
    asked_are : AllByRecursion (IsUnused n life ps) asked
    rest_are : AllByRecursion (IsUnused n life ps) rest
    once : (b : Id) → times (branches heads) b + times asked b + times rest b ≤ 1

  placed_all : (P : Head → Type 0) (cs : List Contract) (x : Execution) (ys : List Execution) → P (head_of x) → AllByRecursion P (heads_of ys) → AllByRecursion P (heads_of (placed cs x ys))
  placed_all P cs x [] h k = (h, tt)
  placed_all P cs x (y ∷ ys) h k =
      cond_both (nat_lt (place_of cs x.contract.id) (place_of cs y.contract.id)) (x ∷ y ∷ ys) (y ∷ placed cs x ys) (λ (l : List Execution). AllByRecursion P (heads_of l))
      (λ _. (h, k)) (λ _. (k.0, placed_all P cs x ys h k.1))

  placed_times : (cs : List Contract) (x : Execution) (ys : List Execution) (b : Id) → times (branches (heads_of (placed cs x ys))) b ≡ cond (same_id x.branch b) 1 0 + times (branches (heads_of ys)) b
  placed_times cs x [] b = refl
  placed_times cs x (y ∷ ys) b =
      let e = placed_times cs x ys b in
      cond_both (nat_lt (place_of cs x.contract.id) (place_of cs y.contract.id)) (x ∷ y ∷ ys) (y ∷ placed cs x ys)
      (λ (l : List Execution). times (branches (heads_of l)) b ≡ cond (same_id x.branch b) 1 0 + (cond (same_id y.branch b) 1 0 + times (branches (heads_of ys)) b))
      (λ _. refl) (λ _. omega (arith, e))

  pushed_all : (P : Id → Type 0) (waits : List Asking) (a : Asking) → AllByRecursion P (asked_of waits) → P a.branch → AllByRecursion P (asked_of (waits ++ a ∷ []))
  pushed_all P [] a h k = (k, tt)
  pushed_all P (x ∷ waits) a h k = (h.0, pushed_all P waits a h.1 k)

  pushed_times : (waits : List Asking) (a : Asking) (b : Id) → times (asked_of (waits ++ a ∷ [])) b ≡ times (asked_of waits) b + cond (same_id a.branch b) 1 0
  pushed_times [] a b = omega arith
  pushed_times (x ∷ waits) a b = let e = pushed_times waits a b in omega (arith, e)

  -- an execution that starts has its branch from what asked for it
  one_starting : (me : NodeId) (cs : List Contract) (a : Asking) (rest : List Asking) (initial : Option ℕ) (s : Starting) → IsStarting (heads_of s.executions) (asked_of s.asking) (asked_of (a ∷ rest))
      → IsStarting (heads_of (start_one me cs a initial s).executions) (asked_of (start_one me cs a initial s).asking) (asked_of rest)
  one_starting me cs a rest None s h =
      record {
        heads_are = h.heads_are;
        asked_are = pushed_all (IsUnused n life ps) s.asking a h.asked_are h.rest_are.0;
        rest_are = h.rest_are.1;
        once = λ b. let few = h.once b in let e = pushed_times s.asking a b in omega (arith, few, e);
      }
  one_starting me cs a rest (Some initial) s h =
      let new = h.rest_are.0 in
      record {
        heads_are = placed_all (IsHeadOf n life ps) cs (started a me initial) s.executions
            (record { node_is = new.node_is; life_is = new.life_is; above = λ p i e. absurd (new.unused p i e) }) h.heads_are;
        asked_are = h.asked_are;
        rest_are = h.rest_are.1;
        once = λ b. let few = h.once b in let e = placed_times cs (started a me initial) s.executions b in omega (arith, few, e);
      }

  all_starting : (me : NodeId) (t : Table) (rest : List Asking) (s : Starting) → IsStarting (heads_of s.executions) (asked_of s.asking) (asked_of rest)
      → IsStarting (heads_of (start_each me t rest s).executions) (asked_of (start_each me t rest s).asking) []
  all_starting me t [] s h = h
  all_starting me t (a ∷ rest) s h = all_starting me t rest (start_one me t.contracts a (due t a) s) (one_starting me t.contracts a rest (due t a) s h)

-- ---- the end of a step

act_held : (n : ℕ) (ps : List Point) (step : Stepped) (v : Option Viewed) → IsHeld n ps (held step.node) → IsHeld n ps (held (act_on step v).node)
act_held n ps step None h = h
act_held n ps step (Some v) h =
    let s : NodeState = step.node in
    let st : Starting = record { asking = []; executions = s.executions; versions = s.versions } in
    let r = all_starting n s.life ps s.me (table_of (caught_up s.log)) s.asking st
    (record { heads_are = h.heads_are; asked_are = tt; rest_are = h.asked_are; once = λ b. let few = h.once b in omega (arith, few) }) in
    record { me_is = h.me_is; heads_are = r.heads_are; asked_are = r.asked_are; once = λ b. let few = r.once b in omega (arith, few); lives = h.lives }

end_held : (n : ℕ) (ps : List Point) (step : Stepped) → IsHeld n ps (held step.node) → IsHeld n ps (held (end_step step).node)
end_held n ps step h =
    let s : NodeState = (act step).node in
    subst (IsHeld n ps) (sym (with_heads s (map decided s.executions) (heads_map decided (λ x. refl) s.executions))) (act_held n ps step (viewed step.node.log) h)

-- ---- a step

-- the points that a step takes, and what the node then keeps
pub record StepTakes (n life : ℕ) (ps qs : List Point) (hs : List Head) (h : Held) : Type 0 where
  pub now : IsHeld n (ps ++ qs) h
  pub next : AllByRecursion (IsNext n life ps hs) qs
  pub rising : AreRising qs

still : (n : ℕ) (ps : List Point) (s : NodeState) (step : Stepped) → IsHeld n ps (held step.node) → StepTakes n s.life ps [] (heads_of s.executions) (held (end_step step).node)
still n ps s step h =
    record {
      now = subst (λ (l : List Point). IsHeld n l (held (end_step step).node)) (sym (append-nil ps)) (end_held n ps step h);
      next = tt;
      rising = tt;
    }

same_still : (n : ℕ) (ps : List Point) (s : NodeState) (step : Stepped) → held step.node ≡ held s → IsHeld n ps (held s) → StepTakes n s.life ps [] (heads_of s.executions) (held (end_step step).node)
same_still n ps s step same h = still n ps s step (subst (IsHeld n ps) (sym same) h)

request_step : (n : ℕ) (ps : List Point) (s : NodeState) (op : OpId) (key : List ℕ) (what : Op) → IsHeld n ps (held s)
    → StepTakes n s.life ps (points_in what (end_step (request_row s op key what)).outs) (heads_of s.executions) (held (end_step (request_row s op key what)).node)
request_step n ps s op key what h =
    let r : Requested = request_all s.setup.hashes s.executions s.rows s.versions op key what in
    let step : Stepped = request_row s op key what in
    let t = request_takes n s.life ps s.setup.hashes s.executions s.rows s.versions op key what h.heads_are (λ b. let few = h.once b in omega (arith, few)) in
    subst (λ (qs : List Point). StepTakes n s.life ps qs (heads_of s.executions) (held (end_step step).node)) (sym (end_points what step))
    (record {
      now = end_held n (ps ++ points_in what r.outs) step (held_next n ps (points_in what r.outs) (held s) (heads_of r.executions) h t);
      next = t.next;
      rising = t.rising;
    })

proposals_held : (s : NodeState) → held (with_proposals s) ≡ held s
proposals_held s =
    cond_both (coordinates s.log)
    (record s { log = propose_all s.log (proposals_of s.acks (table_of s.log)); acks = after_proposals s.acks (table_of s.log) }) s
    (λ (t : NodeState). held t ≡ held s) (λ _. refl) (λ _. refl)

crash_held : (n : ℕ) (ps : List Point) (s : NodeState) → IsHeld n ps (held s) → IsHeld n ps (held (crash_row s).node)
crash_held n ps s h = record { me_is = h.me_is; heads_are = tt; asked_are = tt; once = λ b. omega arith; lives = h.lives }

pub step_takes : (n : ℕ) (ps : List Point) (s : NodeState) (input : Input) (b : Option Brought) → IsHeld n ps (held s)
    → StepTakes n s.life ps (points_of input (node_step s input b).outs) (heads_of s.executions) (held (node_step s input b).node)
step_takes n ps s (Request op key what) b h = request_step n ps s op key what h
step_takes n ps s (GiveUp op) b h = same_still n ps s (input_row s (GiveUp op) b) (with_heads s (map (λ x. give_up_row x op) s.executions) (heads_map (λ x. give_up_row x op) (λ x. refl) s.executions)) h
step_takes n ps s (See other up) b h = same_still n ps s (input_row s (See other up) b) refl h
step_takes n ps s Tick b h = same_still n ps s (tick_row s) (proposals_held s) h
step_takes n ps s (Deliver number) b h = same_still n ps s (brought_row s b) (brought_held s b) h
step_takes n ps s Crash b h = still n ps s (crash_row s) (crash_held n ps s h)
step_takes n ps s Restart b h = still n ps s (restart_row s) (restart_held n ps s h)
