-- What waits at executions: what has a majority is answered, and nothing else leaves.
use Rattle.std.proofs.Common.{◌≡◌, ◌<◌, ℕ, ◌+◌, ◌*◌, ◌==◌, Bool, true, false, cond, ◌&&◌, ◌||◌, nat_lt, List, [], ◌∷◌, ◌++◌, map, filter, length, count_by, Option, Some, None, option_map, refl, sym, ap, ap₂, ◌∙◌, subst, inl, inr, ◌⊎◌, arith}
use Rattle.std.proofs.lemmas.Bool.{cond_both, and_parts, and_from, both_ways, ltb-true, lt-ltb, ne_eqb}
use Rattle.std.proofs.lemmas.List.Sums.{length-filter}
use Rattle.std.specs.List.{slice_index_or}
use Rattle.list_laws.specs.Members.{IsIn}
use Rattle.list_laws.proofs.Counts.{more_pass}
use Rattle.list_laws.proofs.Members.{IsIn-left, IsIn-right, IsIn-append, IsIn-map, all_member}
use Rattle.runs.specs.region_map.declared.id.Id.{Id}
use Rattle.runs.specs.region_map.declared.id.NodeId.{NodeId}
use Rattle.runs.specs.region_map.Maps.{Pieced}
use Rattle.runs.specs.branch_history.declared.version.Version.{Version}
use Rattle.runs.specs.register_laws.declared.operation.OpId.{OpId}
use Rattle.runs.specs.register_laws.declared.operation.Op.{Op}
use Rattle.runs.specs.register_laws.declared.operation.Reply.{Reply}
use Rattle.runs.specs.register_laws.Register.{reply_of}
use Rattle.runs.specs.contract_types.declared.contract.Contract.{Contract}
use Rattle.runs.specs.contract_types.declared.results.Viewed.{Viewed as Results}
use Rattle.runs.specs.contract_types.Tables.{Table}
use Rattle.runs.specs.coordinator.Acks.{with_ack}
use Rattle.runs.specs.coordinator.Proposals.{proposals_of, after_proposals}
use Rattle.runs.specs.exec_types.declared.input.Input.{Input}
use Rattle.runs.specs.exec_types.declared.input.Input.TheVariants.{Request, GiveUp, See, Tick, Deliver, Crash, Restart}
use Rattle.runs.specs.exec_types.declared.message.Message.{Message as Sent}
use Rattle.runs.specs.exec_types.declared.message.Message.TheVariants as message
use Rattle.runs.specs.exec_types.declared.message.Got.{Got}
use Rattle.runs.specs.exec_types.declared.message.Part.{Part}
use Rattle.runs.specs.primary_exec.declared.session.Session.{Session}
use Rattle.runs.specs.exec_types.declared.outcome.Outcome.TheVariants.{Done}
use Rattle.runs.specs.exec_types.declared.output.Output.{Output}
use Rattle.runs.specs.exec_types.declared.output.Output.TheVariants.{Dispatched, Viewed, Answer}
use Rattle.runs.specs.store_api.Rows.{Rows, value_of}
use Rattle.runs.specs.table_log.Logs.{table_of, caught_up, viewed}
use Rattle.runs.specs.write_dispatch.declared.decided.Decided.{Decided}
use Rattle.runs.specs.write_dispatch.declared.decided.KeptAck.{KeptAck}
use Rattle.runs.specs.write_dispatch.Dispatch.{DispatchState, Acks, reaches, is_counted, is_temp_majority, is_decided, is_of, pending_of, without_op, all_below, all_above, is_rising}
use Rattle.runs.proofs.write_dispatch.Later.{decided-earlier}
use Rattle.runs.proofs.write_dispatch.Queue.{is_rising-push, is_rising-without_op}
use Rattle.primary_exec.proofs.Sound.{below-push, below-without_op}
use Rattle.runs.specs.primary_exec.declared.asking.Asking.{Asking}
use Rattle.runs.specs.primary_exec.Execution.{Execution, started, has_room, sends, part_of, dispatch_row, is_live, with_stands, with_acked, got_row, answers, decided, decide_outs, undecided_under, answers_under, without_given_up, give_up_row}
use Rattle.runs.specs.node_core.declared.node.Brought.{Brought}
use Rattle.runs.specs.node_core.Parts.{Requested, is_for, dispatched, passed_on, request_all, got_all, decide_all, decide_all_outs}
use Rattle.runs.specs.node_core.Starting.{Starting, place_of, placed, due, start_one, start_each}
use Rattle.runs.specs.node_core.Step.{NodeState, Stepped, silent, leads, coordinates, propose_all, tick_row, message_row, is_well_formed, brought_row, input_row, act_on, act, node_step}
use Rattle.step_laws.specs.Counting.{tells_of, stands_at, more_than_half, more_than_half_of, has_majorities, WaitsInOrder, AllWaitInOrder, StillWaits}
use Rattle.step_laws.specs.Outs.{GoesOn}
use Rattle.step_laws.proofs.Executions.{IsKeptBy, all_acted, all_step}

-- ---- majorities

tells_is : (o : Option KeptAck) (since at : ℕ) → tells_of o since at ≡ reaches o since at
tells_is None since at = refl
tells_is (Some kept) since at = refl

count_same : (p q : ℕ → Bool) → ((n : ℕ) → p n ≡ q n) → (xs : List ℕ) → count_by p xs ≡ count_by q xs
count_same p q same xs =
    let a = more_pass p q xs (λ n e. sym (same n) ∙ e) in
    let b = more_pass q p xs (λ n e. same n ∙ e) in
    omega (arith, a, b)

half_is : (p q : ℕ → Bool) → ((n : ℕ) → p n ≡ q n) → (set : List ℕ) → more_than_half p set ≡ nat_lt (length set) (2 * count_by q set)
half_is p q same set =
    let n : length (filter p set) ≡ count_by q set = length-filter p set ∙ count_same p q same set in
    let twice : length (filter p set) + length (filter p set) ≡ 2 * count_by q set = omega (arith, n) in
    ap (nat_lt (length set)) twice

half_of_is : (p q : ℕ → Bool) → ((n : ℕ) → p n ≡ q n) → (set : Option (List ℕ)) → more_than_half_of p set ≡ is_temp_majority (option_map (λ s. (count_by q s, length s)) set)
half_of_is p q same None = refl
half_of_is p q same (Some set) = half_is p q same set

pub majorities_are : (x : Execution) (at : ℕ) → has_majorities x at ≡ is_decided x.dispatch.acks x.contract x.me.0 at
majorities_are x at =
    let q : ℕ → Bool = is_counted x.dispatch.acks x.contract.since x.me.0 at in
    let same : (n : ℕ) → stands_at x at n ≡ q n = λ n. ap (λ b. (n == x.me.0) || b) (tells_is (slice_index_or x.dispatch.acks n None) x.contract.since at) in
    ap₂ (λ (a b : Bool). a && b) (half_is (stands_at x at) q same x.contract.voters) (half_of_is (stands_at x at) q same x.contract.temp_voters)

-- ---- the order of what waits

above_member : (at : ℕ) (ds : List Decided) (d : Decided) → all_above at ds ≡ true → IsIn ds d → at < d.at
above_member at [] d h i = absurd i
above_member at (e ∷ es) d h i =
    let parts = and_parts (nat_lt at e.at) (all_above at es) h in
    elim i [
      | inl same ↦ subst (λ (v : Decided). at < v.at) same (ltb-true at e.at parts.0)
      | inr there ↦ above_member at es d parts.1 there
    ]

module _ (acks : Acks) (c : Contract) (me : ℕ) where
  left_undecided : (ds : List Decided) (d : Decided) → is_rising ds ≡ true → IsIn (undecided_under acks c me ds) d → is_decided acks c me d.at ≡ false
  left_undecided [] d h i = absurd i
  left_undecided (e ∷ es) d h i =
      let parts = and_parts (all_above e.at es) (is_rising es) h in
      cond_both (is_decided acks c me e.at) (undecided_under acks c me es) (e ∷ es) (λ (l : List Decided). IsIn l d → is_decided acks c me d.at ≡ false)
      (λ _ j. left_undecided es d parts.1 j)
      (λ not_it j. elim j [
        | inl same ↦ subst (λ (v : Decided). is_decided acks c me v.at ≡ false) same not_it
        | inr there ↦
            let later : e.at < d.at = above_member e.at es d parts.0 there in
            elim (is_decided acks c me d.at) as (λ b. is_decided acks c me d.at ≡ b → b ≡ false) [
              | true ↦ λ is. absurd (both_ways (is_decided acks c me e.at) not_it (decided-earlier acks me e.at d.at c (omega (arith, later)) is))
              | false ↦ λ _. refl
            ] refl
      ]) i

  undecided_above : (at : ℕ) (ds : List Decided) → all_above at ds ≡ true → all_above at (undecided_under acks c me ds) ≡ true
  undecided_above at [] h = refl
  undecided_above at (e ∷ es) h =
      cond_both (is_decided acks c me e.at) (undecided_under acks c me es) (e ∷ es) (λ (l : List Decided). all_above at l ≡ true)
      (λ _. undecided_above at es (and_parts (nat_lt at e.at) (all_above at es) h).1) (λ _. h)

  undecided_below : (at : ℕ) (ds : List Decided) → all_below at ds ≡ true → all_below at (undecided_under acks c me ds) ≡ true
  undecided_below at [] h = refl
  undecided_below at (e ∷ es) h =
      cond_both (is_decided acks c me e.at) (undecided_under acks c me es) (e ∷ es) (λ (l : List Decided). all_below at l ≡ true)
      (λ _. undecided_below at es (and_parts (nat_lt e.at at) (all_below at es) h).1) (λ _. h)

  undecided_rising : (ds : List Decided) → is_rising ds ≡ true → is_rising (undecided_under acks c me ds) ≡ true
  undecided_rising [] h = refl
  undecided_rising (e ∷ es) h =
      cond_both (is_decided acks c me e.at) (undecided_under acks c me es) (e ∷ es) (λ (l : List Decided). is_rising l ≡ true)
      (λ _. undecided_rising es (and_parts (all_above e.at es) (is_rising es) h).1) (λ _. h)

with_stands-waiting : (d : DispatchState) (from : NodeId) (got : Got) (stands : Option ℕ) → (with_stands d from got stands).waiting ≡ d.waiting
with_stands-waiting d from got None = refl
with_stands-waiting d from got (Some at) = refl

-- an acknowledgement changes neither what waits nor the branch and the timestamp
record IsSame (x y : Execution) : Type 0 where
  waiting : y.dispatch.waiting ≡ x.dispatch.waiting
  branch : y.branch ≡ x.branch
  last : y.last ≡ x.last

got_same : (from : NodeId) (got : Got) (x : Execution) → IsSame x (got_row x from got)
got_same from got x =
    cond_both (is_live x from got.session) (record x { sessions = map (with_acked from got.session got.upto) x.sessions; dispatch = with_stands x.dispatch from got got.stands }) x (IsSame x)
    (λ _. record { waiting = with_stands-waiting x.dispatch from got got.stands; branch = refl; last = refl }) (λ _. record { waiting = refl; branch = refl; last = refl })

given_up_below : (at : ℕ) (p : DispatchState) (c : Contract) (me : ℕ) (op : OpId) (d : Option Decided) → all_below at p.waiting ≡ true → all_below at (without_given_up p c me op d).waiting ≡ true
given_up_below at p c me op None h = h
given_up_below at p c me op (Some d) h =
    cond_both (is_decided p.acks c me d.at) p (record p { waiting = without_op p.waiting op }) (λ (y : DispatchState). all_below at y.waiting ≡ true) (λ _. h) (λ _. below-without_op at p.waiting op h)

given_up_rising : (p : DispatchState) (c : Contract) (me : ℕ) (op : OpId) (d : Option Decided) → is_rising p.waiting ≡ true → is_rising (without_given_up p c me op d).waiting ≡ true
given_up_rising p c me op None h = h
given_up_rising p c me op (Some d) h =
    cond_both (is_decided p.acks c me d.at) p (record p { waiting = without_op p.waiting op }) (λ (y : DispatchState). is_rising y.waiting ≡ true) (λ _. h) (λ _. is_rising-without_op p.waiting op h)

order_kept : IsKeptBy WaitsInOrder
order_kept =
    record {
      request = λ x rows versions op key what h.
          let d : Decided = record { op = Some op; at = x.last + 1; reply = reply_of (value_of rows key) what } in
          record { taken = below-push (x.last + 1) x.dispatch.waiting d h.taken refl; rising = is_rising-push x.dispatch.waiting d h.rising h.taken };
      give_up = λ x op h.
          record {
            taken = given_up_below (x.last + 1) x.dispatch x.contract x.me.0 op (pending_of x.dispatch.waiting op) h.taken;
            rising = given_up_rising x.dispatch x.contract x.me.0 op (pending_of x.dispatch.waiting op) h.rising;
          };
      got = λ x from got h.
          let same = got_same from got x in
          record {
            taken = ap₂ (λ (n : ℕ) (l : List Decided). all_below (n + 1) l) same.last same.waiting ∙ h.taken;
            rising = ap is_rising same.waiting ∙ h.rising;
          };
      start = λ a me initial. record { taken = and_from (nat_lt (initial + 1) (initial + 1 + 1)) true (lt-ltb (initial + 1) (initial + 1 + 1) (omega arith)) refl; rising = refl };
    }

order_decided : (x : Execution) → WaitsInOrder x → WaitsInOrder (decided x)
order_decided x h =
    record {
      taken = undecided_below x.dispatch.acks x.contract x.me.0 (x.last + 1) x.dispatch.waiting h.taken;
      rising = undecided_rising x.dispatch.acks x.contract x.me.0 x.dispatch.waiting h.rising;
    }

pub order_stays : (s : NodeState) (input : Input) (brought : Option Brought) → AllWaitInOrder s.executions → AllWaitInOrder (node_step s input brought).node.executions
order_stays s input brought h = all_step WaitsInOrder order_kept order_decided s input brought h

pub none_left : (s : NodeState) (input : Input) (brought : Option Brought) → AllWaitInOrder s.executions → (x : Execution) (d : Decided) → IsIn (node_step s input brought).node.executions x → IsIn x.dispatch.waiting d
    → has_majorities x d.at ≡ false
none_left s input brought h x d there waits =
    let xs : List Execution = (act (input_row s input brought)).node.executions in
    let r = IsIn-map decided xs x there in
    let y : Execution = r.0 in
    let order : WaitsInOrder y = all_member WaitsInOrder xs (all_acted WaitsInOrder order_kept s input brought h) y r.1 in
    subst (λ (v : Execution). IsIn v.dispatch.waiting d → has_majorities v d.at ≡ false) r.2
    (λ j. majorities_are (decided y) d.at ∙ left_undecided y.dispatch.acks y.contract y.me.0 y.dispatch.waiting d order.rising j) waits

-- ---- what waits stays, until it is answered

-- a change of each execution keeps the branch and a member of what waits
still_map : (f : Execution → Execution) (branch : Id) (d : Decided) → ((x : Execution) → (f x).branch ≡ x.branch) → ((x : Execution) → IsIn x.dispatch.waiting d → IsIn (f x).dispatch.waiting d)
    → (xs : List Execution) → StillWaits xs branch d → StillWaits (map f xs) branch d
still_map f branch d same keeps xs h = record { execution = f h.execution; there = there_map xs h.execution h.there; writes = same h.execution ∙ h.writes; waits = keeps h.execution h.waits }
  where
    there_map : (ys : List Execution) (x : Execution) → IsIn ys x → IsIn (map f ys) (f x)
    there_map [] x i = absurd i
    there_map (y ∷ ys) x i = elim i [ inl e ↦ inl (ap f e) | inr t ↦ inr (there_map ys x t) ]

still_more : (xs ys : List Execution) (branch : Id) (d : Decided) → ((x : Execution) → IsIn xs x → IsIn ys x) → StillWaits xs branch d → StillWaits ys branch d
still_more xs ys branch d more h = record { execution = h.execution; there = more h.execution h.there; writes = h.writes; waits = h.waits }

still_behind : (x : Execution) (xs : List Execution) (branch : Id) (d : Decided) → StillWaits xs branch d → StillWaits (x ∷ xs) branch d
still_behind x xs branch d h = still_more xs (x ∷ xs) branch d (λ y i. inr i) h

-- it waits at the first of them, or at another one
still_cases : (x : Execution) (xs : List Execution) (branch : Id) (d : Decided) → StillWaits (x ∷ xs) branch d → ((x.branch ≡ branch) × IsIn x.dispatch.waiting d) ⊎ StillWaits xs branch d
still_cases x xs branch d h =
    elim h.there [
      | inl same ↦ inl (ap (λ (v : Execution). v.branch) same ∙ h.writes, subst (λ (v : Execution). IsIn v.dispatch.waiting d) (sym same) h.waits)
      | inr there ↦ inr (record { execution = h.execution; there = there; writes = h.writes; waits = h.waits })
    ]

still_request : (hashes : ℕ) (xs : List Execution) (rows : Rows) (versions : Pieced Version) (op : OpId) (key : List ℕ) (what : Op) (branch : Id) (d : Decided) → StillWaits xs branch d
    → StillWaits (request_all hashes xs rows versions op key what).executions branch d
still_request hashes [] rows versions op key what branch d h = h
still_request hashes (x ∷ xs) rows versions op key what branch d h =
    let y : Execution = (dispatch_row x rows versions op key what).execution in
    let e : Decided = record { op = Some op; at = x.last + 1; reply = reply_of (value_of rows key) what } in
    let rest : Requested = request_all hashes xs rows versions op key what in
    cond_both (is_for hashes key x) (dispatched (dispatch_row x rows versions op key what) xs) (passed_on x rest)
    (λ (r : Requested). StillWaits r.executions branch d)
    (λ _. elim (still_cases x xs branch d h) [
      | inl here ↦ record { execution = y; there = inl refl; writes = here.0; waits = IsIn-left x.dispatch.waiting (e ∷ []) d here.1 }
      | inr there ↦ still_behind y xs branch d there
    ])
    (λ _. elim (still_cases x xs branch d h) [
      | inl here ↦ record { execution = x; there = inl refl; writes = here.0; waits = here.1 }
      | inr there ↦ still_behind x rest.executions branch d (still_request hashes xs rows versions op key what branch d there)
    ])

without_keeps : (ds : List Decided) (q : OpId) (d : Decided) → is_of q d.op ≡ false → IsIn ds d → IsIn (without_op ds q) d
without_keeps [] q d apart i = absurd i
without_keeps (e ∷ es) q d apart i =
    cond_both (is_of q e.op) es (e ∷ without_op es q) (λ (l : List Decided). IsIn l d)
    (λ here. elim i [
      | inl same ↦ absurd (both_ways (is_of q e.op) (ap (λ (v : Decided). is_of q v.op) same ∙ apart) here)
      | inr there ↦ there
    ])
    (λ _. elim i [ inl same ↦ inl same | inr there ↦ inr (without_keeps es q d apart there) ])

given_up_keeps : (p : DispatchState) (c : Contract) (me : ℕ) (q : OpId) (o : Option Decided) (d : Decided) → is_of q d.op ≡ false → IsIn p.waiting d → IsIn (without_given_up p c me q o).waiting d
given_up_keeps p c me q None d apart i = i
given_up_keeps p c me q (Some e) d apart i =
    cond_both (is_decided p.acks c me e.at) p (record p { waiting = without_op p.waiting q }) (λ (y : DispatchState). IsIn y.waiting d) (λ _. i) (λ _. without_keeps p.waiting q d apart i)

module _ (branch : Id) (d : Decided) where
  still_got : (from : NodeId) (got : Got) (xs : List Execution) → StillWaits xs branch d → StillWaits (got_all xs from got) branch d
  still_got from got xs h =
      still_map (λ x. got_row x from got) branch d (λ x. (got_same from got x).branch) (λ x i. subst (λ (l : List Decided). IsIn l d) (sym (got_same from got x).waiting) i) xs h

  still_message : (s : NodeState) (from : NodeId) (m : Sent) → StillWaits s.executions branch d → StillWaits (message_row s from m).node.executions branch d
  still_message s from (message.Raft m) h = h
  still_message s from (message.Say contract ack) h =
      cond_both (leads s.log) (record s { acks = with_ack contract from ack s.acks }) s (λ (t : NodeState). StillWaits t.executions branch d) (λ _. h) (λ _. h)
  still_message s from (message.Stream stream) h = h
  still_message s from (message.Got got) h = still_got from got s.executions h

  still_brought : (s : NodeState) (b : Option Brought) → StillWaits s.executions branch d → StillWaits (brought_row s b).node.executions branch d
  still_brought s None h = h
  still_brought s (Some b) h =
      cond_both (is_well_formed s b) (message_row s b.from b.message) (silent s) (λ (step : Stepped). StillWaits step.node.executions branch d) (λ _. still_message s b.from b.message h) (λ _. h)

  still_tick : (s : NodeState) → StillWaits s.executions branch d → StillWaits (tick_row s).node.executions branch d
  still_tick s h =
      cond_both (coordinates s.log) (record s { log = propose_all s.log (proposals_of s.acks (table_of s.log)); acks = after_proposals s.acks (table_of s.log) }) s
      (λ (t : NodeState). StillWaits t.executions branch d) (λ _. h) (λ _. h)

  still_row : (s : NodeState) (input : Input) (b : Option Brought) (op : OpId) → d.op ≡ Some op → GoesOn input op → StillWaits s.executions branch d → StillWaits (input_row s input b).node.executions branch d
  still_row s (Request q key what) b op of goes h = still_request s.setup.hashes s.executions s.rows s.versions q key what branch d h
  still_row s (GiveUp q) b op of goes h =
      let apart : is_of q d.op ≡ false = ap (is_of q) of ∙ ne_eqb op.0 q.0 (λ e. goes (sym e)) in
      still_map (λ x. give_up_row x q) branch d (λ x. refl) (λ x i. given_up_keeps x.dispatch x.contract x.me.0 q (pending_of x.dispatch.waiting q) d apart i) s.executions h
  still_row s (See other up) b op of goes h = h
  still_row s Tick b op of goes h = still_tick s h
  still_row s (Deliver number) b op of goes h = still_brought s b h
  still_row s Crash b op of goes h = absurd goes
  still_row s Restart b op of goes h = absurd goes

  placed_there : (cs : List Contract) (x : Execution) (ys : List Execution) (y : Execution) → IsIn ys y → IsIn (placed cs x ys) y
  placed_there cs x [] y i = absurd i
  placed_there cs x (z ∷ zs) y i =
      cond_both (nat_lt (place_of cs x.contract.id) (place_of cs z.contract.id)) (x ∷ z ∷ zs) (z ∷ placed cs x zs) (λ (l : List Execution). IsIn l y) (λ _. inr i)
      (λ _. elim i [ inl e ↦ inl e | inr t ↦ inr (placed_there cs x zs y t) ])

  still_start_one : (me : NodeId) (cs : List Contract) (a : Asking) (initial : Option ℕ) (s : Starting) → StillWaits s.executions branch d → StillWaits (start_one me cs a initial s).executions branch d
  still_start_one me cs a None s h = h
  still_start_one me cs a (Some initial) s h = still_more s.executions (placed cs (started a me initial) s.executions) branch d (placed_there cs (started a me initial) s.executions) h

  still_start_each : (me : NodeId) (t : Table) (rest : List Asking) (s : Starting) → StillWaits s.executions branch d → StillWaits (start_each me t rest s).executions branch d
  still_start_each me t [] s h = h
  still_start_each me t (a ∷ rest) s h = still_start_each me t rest (start_one me t.contracts a (due t a) s) (still_start_one me t.contracts a (due t a) s h)

  still_act : (step : Stepped) (v : Option Results) → StillWaits step.node.executions branch d → StillWaits (act_on step v).node.executions branch d
  still_act step None h = h
  still_act step (Some v) h =
      let s : NodeState = step.node in
      still_start_each s.me (table_of (caught_up s.log)) s.asking (record { asking = []; executions = s.executions; versions = s.versions }) h

-- ---- what is decided is answered

answer_there : (branch : Id) (d : Decided) (op : OpId) → (o : Option OpId) → o ≡ Some op → IsIn (answers branch d o) (Answer op (Done d.reply branch d.at))
answer_there branch d op None e = absurd (cc)
answer_there branch d op (Some q) e = let same : q ≡ op = cc in inl (ap (λ (v : OpId). Answer v (Done d.reply branch d.at)) same)

answered_or_left : (acks : Acks) (c : Contract) (me : ℕ) (branch : Id) (ds : List Decided) (d : Decided) (op : OpId) → d.op ≡ Some op → IsIn ds d
    → IsIn (answers_under acks c me branch ds) (Answer op (Done d.reply branch d.at)) ⊎ IsIn (undecided_under acks c me ds) d
answered_or_left acks c me branch [] d op of i = absurd i
answered_or_left acks c me branch (e ∷ es) d op of i =
    let answer : Output = Answer op (Done d.reply branch d.at) in
    elim (is_decided acks c me e.at) as (λ b. IsIn (cond b (answers branch e e.op ++ answers_under acks c me branch es) []) answer ⊎ IsIn (cond b (undecided_under acks c me es) (e ∷ es)) d) [
      | true ↦ elim i [
        | inl same ↦ inl (IsIn-left (answers branch e e.op) (answers_under acks c me branch es) answer (subst (λ (v : Decided). IsIn (answers branch v v.op) answer) (sym same) (answer_there branch d op d.op of)))
        | inr there ↦ elim (answered_or_left acks c me branch es d op of there) [
          | inl a ↦ inl (IsIn-right (answers branch e e.op) (answers_under acks c me branch es) answer a)
          | inr l ↦ inr l
        ]
      ]
      | false ↦ inr i
    ]

all_answered_or_left : (xs : List Execution) (branch : Id) (d : Decided) (op : OpId) → d.op ≡ Some op → StillWaits xs branch d
    → IsIn (decide_all_outs xs) (Answer op (Done d.reply branch d.at)) ⊎ StillWaits (decide_all xs) branch d
all_answered_or_left [] branch d op of h = absurd h.there
all_answered_or_left (x ∷ xs) branch d op of h =
    let answer : Output = Answer op (Done d.reply branch d.at) in
    elim (still_cases x xs branch d h) [
      | inl here ↦ elim (answered_or_left x.dispatch.acks x.contract x.me.0 x.branch x.dispatch.waiting d op of here.1) [
        | inl a ↦ inl (IsIn-left (decide_outs x) (decide_all_outs xs) answer (subst (λ (b : Id). IsIn (decide_outs x) (Answer op (Done d.reply b d.at))) here.0 a))
        | inr l ↦ inr (record { execution = decided x; there = inl refl; writes = here.0; waits = l })
      ]
      | inr there ↦ elim (all_answered_or_left xs branch d op of there) [
        | inl a ↦ inl (IsIn-right (decide_outs x) (decide_all_outs xs) answer a)
        | inr l ↦ inr (still_behind (decided x) (decide_all xs) branch d l)
      ]
    ]

-- at the end of a step, what waited after its row is answered or waits on
end_answers : (row : Stepped) (v : Option Results) (branch : Id) (d : Decided) (op : OpId) → d.op ≡ Some op → StillWaits row.node.executions branch d
    → IsIn ((act_on row v).outs ++ decide_all_outs (act_on row v).node.executions) (Answer op (Done d.reply branch d.at)) ⊎ StillWaits (decide_all (act_on row v).node.executions) branch d
end_answers row v branch d op of h =
    elim (all_answered_or_left (act_on row v).node.executions branch d op of (still_act branch d row v h)) [
      | inl a ↦ inl (IsIn-right (act_on row v).outs (decide_all_outs (act_on row v).node.executions) (Answer op (Done d.reply branch d.at)) a)
      | inr l ↦ inr l
    ]

pub answered_at_once : (s : NodeState) (input : Input) (brought : Option Brought) (x : Execution) (d : Decided) (op : OpId) → IsIn s.executions x → IsIn x.dispatch.waiting d → d.op ≡ Some op → GoesOn input op
    → IsIn (node_step s input brought).outs (Answer op (Done d.reply x.branch d.at)) ⊎ StillWaits (node_step s input brought).node.executions x.branch d
answered_at_once s input brought x d op there waits of goes =
    let row : Stepped = input_row s input brought in
    end_answers row (viewed row.node.log) x.branch d op of (still_row x.branch d s input brought op of goes (record { execution = x; there = there; writes = refl; waits = waits }))

-- ---- what is dispatched waits from then on

-- of these outputs none dispatches
no_dispatch : (branch : Id) (d : Decided) (o : Option OpId) (op : OpId) (key : List ℕ) (b : Id) (at : ℕ) → IsIn (answers branch d o) (Dispatched op key b at) → ⊥
no_dispatch branch d None op key b at i = i
no_dispatch branch d (Some q) op key b at i = elim i [ inl e ↦ cc | inr none ↦ none ]

none_dispatched : (acks : Acks) (c : Contract) (me : ℕ) (branch : Id) (ds : List Decided) (op : OpId) (key : List ℕ) (b : Id) (at : ℕ) → IsIn (answers_under acks c me branch ds) (Dispatched op key b at) → ⊥
none_dispatched acks c me branch [] op key b at i = i
none_dispatched acks c me branch (d ∷ ds) op key b at i =
    cond_both (is_decided acks c me d.at) (answers branch d d.op ++ answers_under acks c me branch ds) [] (λ (l : List Output). IsIn l (Dispatched op key b at) → ⊥)
    (λ _ j. elim (IsIn-append (answers branch d d.op) (answers_under acks c me branch ds) (Dispatched op key b at) j) [
      | inl here ↦ no_dispatch branch d d.op op key b at here
      | inr there ↦ none_dispatched acks c me branch ds op key b at there
    ])
    (λ _ j. j) i

none_in_decided : (xs : List Execution) (op : OpId) (key : List ℕ) (b : Id) (at : ℕ) → IsIn (decide_all_outs xs) (Dispatched op key b at) → ⊥
none_in_decided [] op key b at i = i
none_in_decided (x ∷ xs) op key b at i =
    elim (IsIn-append (decide_outs x) (decide_all_outs xs) (Dispatched op key b at) i) [
      | inl here ↦ none_dispatched x.dispatch.acks x.contract x.me.0 x.branch x.dispatch.waiting op key b at here
      | inr there ↦ none_in_decided xs op key b at there
    ]

abbrev WaitsFrom : List Execution → OpId → Id → ℕ → Type 0
WaitsFrom xs op branch at = (reply : Reply) × StillWaits xs branch (record { op = Some op; at = at; reply = reply })

dispatch_waits : (x : Execution) (xs : List Execution) (rows : Rows) (versions : Pieced Version) (q op : OpId) (key k : List ℕ) (what : Op) (branch : Id) (at : ℕ)
    → IsIn (dispatch_row x rows versions q key what).outs (Dispatched op k branch at) → WaitsFrom ((dispatch_row x rows versions q key what).execution ∷ xs) op branch at
dispatch_waits x xs rows versions q op key k what branch at i =
    let part : Part = part_of (value_of rows key) (x.last + 1) key what in
    let reply : Reply = reply_of (value_of rows key) what in
    elim (IsIn-append (map (sends part) (filter has_room x.sessions)) (Dispatched q key x.branch (x.last + 1) ∷ []) (Dispatched op k branch at) i) [
      | inl sent ↦ let m = IsIn-map (sends part) (filter has_room x.sessions) (Dispatched op k branch at) sent in absurd (no_send m.0 m.2)
      | inr own ↦ elim own [
        | inl e ↦
            let same_op : q ≡ op = cc in
            let same_branch : x.branch ≡ branch = cc in
            let same_at : x.last + 1 ≡ at = cc in (
              reply,
              record {
                execution = (dispatch_row x rows versions q key what).execution;
                there = inl refl;
                writes = same_branch;
                waits = IsIn-right x.dispatch.waiting (record { op = Some q; at = x.last + 1; reply = reply } ∷ []) (record { op = Some op; at = at; reply = reply })
                    (inl (ap₂ (λ (o : OpId) (n : ℕ). record { op = Some o; at = n; reply = reply }) same_op same_at));
              },
            )
        | inr none ↦ absurd none
      ]
    ]
  where
    no_send : (s : Session) → sends (part_of (value_of rows key) (x.last + 1) key what) s ≡ Dispatched op k branch at → ⊥
    no_send s e = cc

request_waits : (hashes : ℕ) (xs : List Execution) (rows : Rows) (versions : Pieced Version) (q op : OpId) (key k : List ℕ) (what : Op) (branch : Id) (at : ℕ)
    → IsIn (request_all hashes xs rows versions q key what).outs (Dispatched op k branch at) → WaitsFrom (request_all hashes xs rows versions q key what).executions op branch at
request_waits hashes [] rows versions q op key k what branch at i = elim i [ inl e ↦ absurd (cc) | inr none ↦ absurd none ]
request_waits hashes (x ∷ xs) rows versions q op key k what branch at i =
    let rest : Requested = request_all hashes xs rows versions q key what in
    cond_both (is_for hashes key x) (dispatched (dispatch_row x rows versions q key what) xs) (passed_on x rest)
    (λ (r : Requested). IsIn r.outs (Dispatched op k branch at) → WaitsFrom r.executions op branch at)
    (λ _ j. dispatch_waits x xs rows versions q op key k what branch at j)
    (λ _ j. let w = request_waits hashes xs rows versions q op key k what branch at j in (w.0, still_behind x rest.executions branch (record { op = Some op; at = at; reply = w.0 }) w.1))
    i

-- an output of a request's step that dispatches is of its row
of_its_row : (row : Stepped) (v : Option Results) (op : OpId) (key : List ℕ) (branch : Id) (at : ℕ)
    → IsIn ((act_on row v).outs ++ decide_all_outs (act_on row v).node.executions) (Dispatched op key branch at) → IsIn row.outs (Dispatched op key branch at)
of_its_row row v op key branch at i =
    elim (IsIn-append (act_on row v).outs (decide_all_outs (act_on row v).node.executions) (Dispatched op key branch at) i) [
      | inl acted ↦ of_row v acted
      | inr decided ↦ absurd (none_in_decided (act_on row v).node.executions op key branch at decided)
    ]
  where
    of_row : (v : Option Results) → IsIn (act_on row v).outs (Dispatched op key branch at) → IsIn row.outs (Dispatched op key branch at)
    of_row None j = j
    of_row (Some r) j = elim (IsIn-append row.outs (Viewed r.first r.results ∷ []) (Dispatched op key branch at) j) [
      | inl here ↦ here
      | inr there ↦ elim there [ inl e ↦ absurd (cc) | inr none ↦ absurd none ]
    ]

pub dispatched_waits : (s : NodeState) (q op : OpId) (key k : List ℕ) (what : Op) (brought : Option Brought) (branch : Id) (at : ℕ)
    → IsIn (node_step s (Request q key what) brought).outs (Dispatched op k branch at)
    → (reply : Reply) × (IsIn (node_step s (Request q key what) brought).outs (Answer op (Done reply branch at))
    ⊎ StillWaits (node_step s (Request q key what) brought).node.executions branch (record { op = Some op; at = at; reply = reply }))
dispatched_waits s q op key k what brought branch at i =
    let row : Stepped = input_row s (Request q key what) brought in
    let w = request_waits s.setup.hashes s.executions s.rows s.versions q op key k what branch at (of_its_row row (viewed row.node.log) op k branch at i) in
    (w.0, end_answers row (viewed row.node.log) branch (record { op = Some op; at = at; reply = w.0 }) op refl w.1)
