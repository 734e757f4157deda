-- What a step does to the executions of a node, one by one.
use Rattle.std.proofs.Common.{ℕ, nat_lt, List, [], ◌∷◌, Option, Some, None}
use Rattle.std.proofs.lemmas.Bool.{cond_both}
use Rattle.std.specs.List.{AllByRecursion}
use Rattle.list_laws.proofs.All.{all_map}
use Rattle.runs.specs.region_map.declared.id.NodeId.{NodeId}
use Rattle.runs.specs.region_map.Maps.{Pieced}
use Rattle.runs.specs.branch_history.declared.version.Version.{Version}
use Rattle.runs.specs.register_laws.declared.operation.OpId.{OpId}
use Rattle.runs.specs.register_laws.declared.operation.Op.{Op}
use Rattle.runs.specs.contract_types.declared.contract.Contract.{Contract}
use Rattle.runs.specs.contract_types.declared.results.Viewed.{Viewed as Results}
use Rattle.runs.specs.contract_types.Tables.{Table}
use Rattle.runs.specs.coordinator.Acks.{with_ack}
use Rattle.runs.specs.coordinator.Proposals.{proposals_of, after_proposals}
use Rattle.runs.specs.exec_types.declared.input.Input.{Input}
use Rattle.runs.specs.exec_types.declared.input.Input.TheVariants.{Request, GiveUp, See, Tick, Deliver, Crash, Restart}
use Rattle.runs.specs.exec_types.declared.message.Message.{Message as Sent}
use Rattle.runs.specs.exec_types.declared.message.Message.TheVariants as message
use Rattle.runs.specs.exec_types.declared.message.Got.{Got}
use Rattle.runs.specs.store_api.Rows.{Rows}
use Rattle.runs.specs.table_log.Logs.{table_of, caught_up, viewed}
use Rattle.runs.specs.primary_exec.declared.asking.Asking.{Asking}
use Rattle.runs.specs.primary_exec.Execution.{Execution, started, dispatch_row, got_row, give_up_row, decided}
use Rattle.runs.specs.node_core.declared.node.Brought.{Brought}
use Rattle.runs.specs.node_core.Parts.{Requested, is_for, dispatched, passed_on, request_all}
use Rattle.runs.specs.node_core.Starting.{Starting, place_of, placed, due, start_one, start_each}
use Rattle.runs.specs.node_core.Step.{NodeState, Stepped, silent, leads, coordinates, propose_all, tick_row, message_row, is_well_formed, brought_row, input_row, act_on, act, node_step}

-- each row of an execution but the last one keeps this, and what starts has it
pub record IsKeptBy (P : Execution → Type 0) : Type 0 where
  pub request : (x : Execution) (rows : Rows) (versions : Pieced Version) (op : OpId) (key : List ℕ) (what : Op) → P x → P (dispatch_row x rows versions op key what).execution
  pub give_up : (x : Execution) (op : OpId) → P x → P (give_up_row x op)
  pub got : (x : Execution) (from : NodeId) (got : Got) → P x → P (got_row x from got)
  pub start : (a : Asking) (me : NodeId) (initial : ℕ) → P (started a me initial)

module _ (P : Execution → Type 0) (keeps : IsKeptBy P) where
  abbrev All : List Execution → Type 0
  All xs = AllByRecursion P xs

  all_request : (hashes : ℕ) (xs : List Execution) (rows : Rows) (versions : Pieced Version) (op : OpId) (key : List ℕ) (what : Op) → All xs → All (request_all hashes xs rows versions op key what).executions
  all_request hashes [] rows versions op key what h = tt
  all_request hashes (x ∷ xs) rows versions op key what h =
      cond_both (is_for hashes key x) (dispatched (dispatch_row x rows versions op key what) xs) (passed_on x (request_all hashes xs rows versions op key what))
      (λ (r : Requested). All r.executions)
      (λ _. (keeps.request x rows versions op key what h.0, h.1))
      (λ _. (h.0, all_request hashes xs rows versions op key what h.1))

  all_message : (s : NodeState) (from : NodeId) (m : Sent) → All s.executions → All (message_row s from m).node.executions
  all_message s from (message.Raft m) h = h
  all_message s from (message.Say contract ack) h =
      cond_both (leads s.log) (record s { acks = with_ack contract from ack s.acks }) s (λ (t : NodeState). All t.executions) (λ _. h) (λ _. h)
  all_message s from (message.Stream stream) h = h
  all_message s from (message.Got got) h = all_map P P (λ x. got_row x from got) s.executions (λ x. keeps.got x from got) h

  all_brought : (s : NodeState) (b : Option Brought) → All s.executions → All (brought_row s b).node.executions
  all_brought s None h = h
  all_brought s (Some b) h =
      cond_both (is_well_formed s b) (message_row s b.from b.message) (silent s) (λ (step : Stepped). All step.node.executions) (λ _. all_message s b.from b.message h) (λ _. h)

  all_tick : (s : NodeState) → All s.executions → All (tick_row s).node.executions
  all_tick s h =
      cond_both (coordinates s.log) (record s { log = propose_all s.log (proposals_of s.acks (table_of s.log)); acks = after_proposals s.acks (table_of s.log) }) s
      (λ (t : NodeState). All t.executions) (λ _. h) (λ _. h)

  all_row : (s : NodeState) (input : Input) (b : Option Brought) → All s.executions → All (input_row s input b).node.executions
  all_row s (Request op key what) b h = all_request s.setup.hashes s.executions s.rows s.versions op key what h
  all_row s (GiveUp op) b h = all_map P P (λ x. give_up_row x op) s.executions (λ x. keeps.give_up x op) h
  all_row s (See other up) b h = h
  all_row s Tick b h = all_tick s h
  all_row s (Deliver number) b h = all_brought s b h
  all_row s Crash b h = tt
  all_row s Restart b h = tt

  all_placed : (cs : List Contract) (x : Execution) (ys : List Execution) → P x → All ys → All (placed cs x ys)
  all_placed cs x [] p h = (p, tt)
  all_placed cs x (y ∷ ys) p h =
      cond_both (nat_lt (place_of cs x.contract.id) (place_of cs y.contract.id)) (x ∷ y ∷ ys) (y ∷ placed cs x ys) All (λ _. (p, h)) (λ _. (h.0, all_placed cs x ys p h.1))

  all_start_one : (me : NodeId) (cs : List Contract) (a : Asking) (initial : Option ℕ) (s : Starting) → All s.executions → All (start_one me cs a initial s).executions
  all_start_one me cs a None s h = h
  all_start_one me cs a (Some initial) s h = all_placed cs (started a me initial) s.executions (keeps.start a me initial) h

  all_start_each : (me : NodeId) (t : Table) (rest : List Asking) (s : Starting) → All s.executions → All (start_each me t rest s).executions
  all_start_each me t [] s h = h
  all_start_each me t (a ∷ rest) s h = all_start_each me t rest (start_one me t.contracts a (due t a) s) (all_start_one me t.contracts a (due t a) s h)

  all_act : (step : Stepped) (v : Option Results) → All step.node.executions → All (act_on step v).node.executions
  all_act step None h = h
  all_act step (Some v) h =
      let s : NodeState = step.node in
      all_start_each s.me (table_of (caught_up s.log)) s.asking (record { asking = []; executions = s.executions; versions = s.versions }) h

  -- before what is decided is answered
  pub all_acted : (s : NodeState) (input : Input) (b : Option Brought) → All s.executions → All (act (input_row s input b)).node.executions
  all_acted s input b h = all_act (input_row s input b) (viewed (input_row s input b).node.log) (all_row s input b h)

  pub all_step : ((x : Execution) → P x → P (decided x)) → (s : NodeState) (input : Input) (b : Option Brought) → All s.executions → All (node_step s input b).node.executions
  all_step decide s input b h = all_map P P decided (act (input_row s input b)).node.executions decide (all_acted s input b h)
