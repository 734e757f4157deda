-- An acknowledgement is counted in the step that brings it.
use Rattle.std.proofs.Common.{◌≡◌, ◌≤◌, ◌<◌, ◌==◌, ◌||◌, ℕ, Bool, true, false, cond, nat_lt, nat_le, List, [], ◌∷◌, map, length, Option, Some, None, slice_set, refl, sym, ap, ◌∙◌, subst, inl, inr, arith, eq-eqb}
use Rattle.std.proofs.lemmas.Bool.{cond_both, and_from, lt-ltb, le-leb, or_right}
use Rattle.std.proofs.lemmas.Bool.Decides.{nat_tests}
use Rattle.std.proofs.lemmas.List.{get_or-set_same}
use Rattle.std.specs.List.{slice_index_or}
use Rattle.list_laws.specs.Members.{IsIn}
use Rattle.runs.specs.region_map.declared.id.NodeId.{NodeId}
use Rattle.runs.specs.region_map.Equal.{same_id}
use Rattle.runs.proofs.branch_history.PathLaws.{id_self}
use Rattle.runs.specs.contract_types.declared.contract.Contract.{Contract}
use Rattle.runs.specs.contract_types.declared.results.Viewed.{Viewed as Results}
use Rattle.runs.specs.contract_types.Tables.{Table}
use Rattle.runs.specs.table_log.Logs.{table_of, caught_up, viewed}
use Rattle.runs.specs.exec_types.Sessions.{same_session}
use Rattle.runs.specs.exec_types.declared.input.Input.TheVariants.{Deliver}
use Rattle.runs.specs.exec_types.declared.message.Got.{Got}
use Rattle.runs.specs.exec_types.declared.message.Message.TheVariants as message
use Rattle.runs.specs.exec_types.declared.message.SessionName.{SessionName}
use Rattle.runs.specs.write_dispatch.declared.decided.KeptAck.{KeptAck}
use Rattle.runs.specs.write_dispatch.Dispatch.{Acks, ack_of, exceeds, with_ack}
use Rattle.runs.specs.primary_exec.declared.asking.Asking.{Asking}
use Rattle.runs.specs.primary_exec.declared.session.Session.{Session}
use Rattle.runs.specs.primary_exec.Execution.{Execution, started, is_session, is_any_session, with_acked, with_stands, got_row, decided}
use Rattle.runs.specs.node_core.declared.node.Brought.{Brought}
use Rattle.runs.specs.node_core.Starting.{Starting, place_of, placed, due, start_one, start_each}
use Rattle.runs.specs.node_core.Step.{NodeState, Stepped, silent, take_got, is_well_formed, brought_row, act_on, act, end_step, node_step}
use Rattle.step_laws.specs.Counting.{tells_of, CountsIt}

-- ---- members

there_map : {X Y : Type 0} (f : X → Y) (xs : List X) (x : X) → IsIn xs x → IsIn (map f xs) (f x)
there_map f [] x i = absurd i
there_map f (y ∷ ys) x i = elim i [ inl e ↦ inl (ap f e) | inr t ↦ inr (there_map f ys x t) ]

there_placed : (cs : List Contract) (x : Execution) (ys : List Execution) (y : Execution) → IsIn ys y → IsIn (placed cs x ys) y
there_placed cs x [] y i = absurd i
there_placed cs x (z ∷ zs) y i =
    cond_both (nat_lt (place_of cs x.contract.id) (place_of cs z.contract.id)) (x ∷ z ∷ zs) (z ∷ placed cs x zs) (λ (l : List Execution). IsIn l y) (λ _. inr i)
    (λ _. elim i [ inl e ↦ inl e | inr t ↦ inr (there_placed cs x zs y t) ])

there_one : (me : NodeId) (cs : List Contract) (a : Asking) (initial : Option ℕ) (s : Starting) (y : Execution) → IsIn s.executions y → IsIn (start_one me cs a initial s).executions y
there_one me cs a None s y i = i
there_one me cs a (Some initial) s y i = there_placed cs (started a me initial) s.executions y i

there_each : (me : NodeId) (t : Table) (rest : List Asking) (s : Starting) (y : Execution) → IsIn s.executions y → IsIn (start_each me t rest s).executions y
there_each me t [] s y i = i
there_each me t (a ∷ rest) s y i = there_each me t rest (start_one me t.contracts a (due t a) s) y (there_one me t.contracts a (due t a) s y i)

there_acted : (step : Stepped) (v : Option Results) (y : Execution) → IsIn step.node.executions y → IsIn (act_on step v).node.executions y
there_acted step None y i = i
there_acted step (Some v) y i =
    let s : NodeState = step.node in
    there_each s.me (table_of (caught_up s.log)) s.asking (record { asking = []; executions = s.executions; versions = s.versions }) y i

there_ended : (step : Stepped) (y : Execution) → IsIn step.node.executions y → IsIn (end_step step).node.executions (decided y)
there_ended step y i = there_map decided (act step).node.executions y (there_acted step (viewed step.node.log) y i)

-- ---- a kept ack

-- whoever is told of this pair knows of the timestamp then, unless it kept a pair of a greater view that tells of less
kept_tells : (kept : Option KeptAck) (since view at : ℕ) → since ≤ view → ((k : KeptAck) → kept ≡ Some k → view < k.view → at ≤ k.at)
    → exceeds view at kept ≡ false → tells_of kept since at ≡ true
kept_tells None since view at counts pace e = absurd (cc)
kept_tells (Some k) since view at counts pace e =
    let low = pace k refl in
    by_view (nat_lt view k.view) refl low
  where
    by_view : (b : Bool) → nat_lt view k.view ≡ b → (view < k.view → at ≤ k.at) → tells_of (Some k) since at ≡ true
    by_view true later low =
        let more : view < k.view = grind (arith, nat_tests) in
        let reached : at ≤ k.at = low more in
        and_from (nat_le since k.view) (nat_le at k.at) (le-leb since k.view (omega (arith, more, counts))) (le-leb at k.at reached)
    by_view false not_later low =
        let same : k.view ≡ view = grind (arith, nat_tests) in
        let reached : at ≤ k.at = grind (arith, nat_tests) in
        and_from (nat_le since k.view) (nat_le at k.at) (le-leb since k.view (omega (arith, same, counts))) (le-leb at k.at reached)

told_ack : (acks : Acks) (server since view at : ℕ) → server < length acks → since ≤ view → ((k : KeptAck) → ack_of acks server ≡ Some k → view < k.view → at ≤ k.at)
    → tells_of (ack_of (with_ack acks server view at) server) since at ≡ true
told_ack acks server since view at within counts pace =
    let new : KeptAck = record { view = view; at = at } in
    cond_both (exceeds view at (ack_of acks server)) (slice_set acks server (Some new)) acks (λ (a : Acks). tells_of (ack_of a server) since at ≡ true)
    (λ _.
    ap (λ (o : Option KeptAck). tells_of o since at) (get_or-set_same acks server (Some new) None within)
    ∙ and_from (nat_le since view) (nat_le at at) (le-leb since view counts) (le-leb at at (omega arith)))
    (λ e. kept_tells (ack_of acks server) since view at counts pace e)

-- ---- the step

live : (from : NodeId) (name : SessionName) (sessions : List Session) (session : Session) → IsIn sessions session → session.server.0 ≡ from.0 → session.name ≡ name → is_any_session from name sessions ≡ true
live from name [] session i server is = absurd i
live from name (x ∷ xs) session i server is =
    elim i [
      | inl e ↦
          let self : same_session session.name session.name ≡ true =
          and_from (same_id session.name.asked session.name.asked) (same_id session.name.opened session.name.opened) (id_self session.name.asked) (id_self session.name.opened) in
          let here : is_session from name session ≡ true =
          and_from (session.server.0 == from.0) (same_session session.name name) (eq-eqb session.server.0 from.0 server) (ap (same_session session.name) (sym is) ∙ self) in
          ap (λ (v : Session). is_session from name v || is_any_session from name xs) e ∙ ap (λ b. b || is_any_session from name xs) here
      | inr j ↦ elim (is_session from name x) as (λ b. (b || is_any_session from name xs) ≡ true) [ true ↦ refl | false ↦ live from name xs session j server is ]
    ]

pub counted_at_once : (s : NodeState) (number : ℕ) (from : NodeId) (got : Got) (x : Execution) (session : Session) (at : ℕ)
    → IsIn s.executions x → IsIn x.sessions session → session.server.0 ≡ from.0 → session.name ≡ got.session → got.stands ≡ Some at
    → from.0 < s.setup.nodes → from.0 < length x.dispatch.acks → x.contract.since ≤ got.view
    → ((kept : KeptAck) → slice_index_or x.dispatch.acks from.0 None ≡ Some kept → got.view < kept.view → at ≤ kept.at)
    → CountsIt (node_step s (Deliver number) (Some (record { from = from; message = message.Got got }))).node.executions x from.0 at
counted_at_once s number from got x session at there in_session server name stands known within counts pace =
    let b : Brought = record { from = from; message = message.Got got } in
    let row : Stepped = take_got s from got in
    let formed : is_well_formed s b ≡ true = and_from (nat_lt from.0 s.setup.nodes) true (lt-ltb from.0 s.setup.nodes known) refl in
    let taken : brought_row s (Some b) ≡ row = ap (λ v. cond v row (silent s)) formed in
    let new : Execution = record x { sessions = map (with_acked from got.session got.upto) x.sessions; dispatch = with_stands x.dispatch from got got.stands } in
    let new_is : got_row x from got ≡ new = ap (λ v. cond v new x) (live from got.session x.sessions session in_session server name) in
    let acks_are : new.dispatch.acks ≡ with_ack x.dispatch.acks from.0 got.view at = ap (λ (o : Option ℕ). (with_stands x.dispatch from got o).acks) stands in
    let is_there : IsIn (end_step row).node.executions (decided (got_row x from got)) = there_ended row (got_row x from got) (there_map (λ y. got_row y from got) s.executions x there) in
    let is_new : IsIn (node_step s (Deliver number) (Some b)).node.executions (decided new) =
    subst (λ (t : Stepped). IsIn (end_step t).node.executions (decided new)) (sym taken) (subst (λ (y : Execution). IsIn (end_step row).node.executions (decided y)) new_is is_there) in
    let tells : tells_of (slice_index_or new.dispatch.acks from.0 None) x.contract.since at ≡ true =
    ap (λ (a : Acks). tells_of (ack_of a from.0) x.contract.since at) acks_are ∙ told_ack x.dispatch.acks from.0 x.contract.since got.view at within counts pace in
    record {
      execution = decided new;
      there = is_new;
      writes = refl;
      under = refl;
      counted = or_right (from.0 == x.me.0) (tells_of (slice_index_or new.dispatch.acks from.0 None) x.contract.since at) tells;
    }
