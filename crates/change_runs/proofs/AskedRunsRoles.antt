-- The contracts of what a node asks for and executes: those of its table that have it as their primary.
use Rattle.std.proofs.Common.{◌≡◌, ℕ, ◌+◌, true, List, [], ◌∷◌, map, nat_lt, Option, Some, None, inl, inr, refl, sym, subst}
use Rattle.std.specs.List.{AllByRecursion}
use Rattle.std.proofs.lemmas.Bool.{cond_both}
use Rattle.log_runs.specs.runs.region_map.declared.id.NodeId.{NodeId}
use Rattle.log_runs.specs.runs.region_map.Nodes.{node_id}
use Rattle.log_runs.specs.runs.region_map.Maps.{Pieced}
use Rattle.log_runs.specs.runs.branch_history.declared.version.Version.{Version}
use Rattle.log_runs.specs.runs.register_laws.declared.operation.OpId.{OpId}
use Rattle.log_runs.specs.runs.register_laws.declared.operation.Op.{Op}
use Rattle.log_runs.specs.runs.contract_types.declared.config.ShardConfig.{ShardConfig}
use Rattle.log_runs.specs.runs.contract_types.declared.contract.Contract.{Contract}
use Rattle.log_runs.specs.runs.contract_types.declared.results.Viewed.{Viewed}
use Rattle.log_runs.specs.runs.contract_types.Tables.{Table, first_contract, first_contracts}
use Rattle.log_runs.specs.runs.table_apply.Conditions.{is_held_by}
use Rattle.log_runs.specs.runs.table_log.Logs.{table_of, caught_up, viewed}
use Rattle.log_runs.specs.runs.coordinator.Acks.{with_ack}
use Rattle.log_runs.specs.runs.coordinator.Proposals.{proposals_of, after_proposals}
use Rattle.log_runs.specs.runs.exec_types.declared.message.Got.{Got}
use Rattle.log_runs.specs.runs.exec_types.declared.message.Message.{Message}
use Rattle.log_runs.specs.runs.exec_types.declared.message.Message.TheVariants as message
use Rattle.log_runs.specs.runs.exec_types.declared.input.Input.{Input}
use Rattle.log_runs.specs.runs.exec_types.declared.input.Input.TheVariants.{Request, GiveUp, See, Tick, Deliver, Crash, Restart}
use Rattle.log_runs.specs.runs.store_api.Rows.{Rows}
use Rattle.log_runs.specs.runs.primary_exec.declared.asking.Asking.{Asking}
use Rattle.log_runs.specs.runs.primary_exec.Execution.{Execution, setup_execution, dispatch_row, started, with_acked, with_stands, is_live, got_row, decided, give_up_row}
use Rattle.log_runs.specs.runs.node_core.declared.node.Brought.{Brought}
use Rattle.log_runs.specs.runs.node_core.Parts.{Requested, is_for, dispatched, passed_on, request_all}
use Rattle.log_runs.specs.runs.node_core.Starting.{Starting, place_of, placed, due, start_one, start_each}
use Rattle.log_runs.specs.runs.node_core.Step.{NodeState, Stepped, silent, leads, coordinates, propose_all, with_proposals, message_row, is_well_formed, brought_row, input_row, act_on, act, end_step, node_step, is_led, executions_from, id_in, askings_from}
use Rattle.log_runs.specs.runs.Story.{IsIn}
use Rattle.log_runs.proofs.step_runs.PointBranches.{all_append}
use Rattle.log_runs.proofs.step_runs.Setups.{setup_contract}

-- G holds of contracts
module _ (G : Contract → Type 0) where
  abbrev pub AllAsk : List Asking → Type 0
  AllAsk asking = AllByRecursion (λ (a : Asking). G a.contract) asking

  abbrev pub AllRun : List Execution → Type 0
  AllRun executions = AllByRecursion (λ (x : Execution). G x.contract) executions

  pub record HasParts (asking : List Asking) (executions : List Execution) : Type 0 where
    pub asking_are : AllAsk asking
    pub executions_are : AllRun executions

  -- ---- executions

  mapped : (f : Execution → Execution) → ((x : Execution) → (f x).contract ≡ x.contract) → (xs : List Execution) → AllRun xs → AllRun (map f xs)
  mapped f same [] h = tt
  mapped f same (x ∷ xs) h = (subst G (sym (same x)) h.0, mapped f same xs h.1)

  got_contract : (from : NodeId) (got : Got) (x : Execution) → (got_row x from got).contract ≡ x.contract
  got_contract from got x =
      cond_both (is_live x from got.session)
      (record x { sessions = map (with_acked from got.session got.upto) x.sessions; dispatch = with_stands x.dispatch from got got.stands }) x
      (λ (y : Execution). y.contract ≡ x.contract) (λ _. refl) (λ _. refl)

  requested : (hashes : ℕ) (xs : List Execution) (rows : Rows) (versions : Pieced Version) (op : OpId) (key : List ℕ) (what : Op) → AllRun xs → AllRun (request_all hashes xs rows versions op key what).executions
  requested hashes [] rows versions op key what h = tt
  requested hashes (x ∷ xs) rows versions op key what h =
      cond_both (is_for hashes key x) (dispatched (dispatch_row x rows versions op key what) xs) (passed_on x (request_all hashes xs rows versions op key what))
      (λ (r : Requested). AllRun r.executions) (λ _. h) (λ _. (h.0, requested hashes xs rows versions op key what h.1))

  -- ---- starting

  placed_all : (cs : List Contract) (x : Execution) (ys : List Execution) → G x.contract → AllRun ys → AllRun (placed cs x ys)
  placed_all cs x [] h k = (h, tt)
  placed_all cs x (y ∷ ys) h k =
      cond_both (nat_lt (place_of cs x.contract.id) (place_of cs y.contract.id)) (x ∷ y ∷ ys) (y ∷ placed cs x ys) AllRun
      (λ _. (h, k)) (λ _. (k.0, placed_all cs x ys h k.1))

  one_starts : (me : NodeId) (cs : List Contract) (a : Asking) (initial : Option ℕ) (s : Starting) → G a.contract → HasParts s.asking s.executions
      → HasParts (start_one me cs a initial s).asking (start_one me cs a initial s).executions
  one_starts me cs a None s g h =
      record { asking_are = all_append (λ (b : Asking). G b.contract) s.asking (a ∷ []) h.asking_are (g, tt); executions_are = h.executions_are }
  one_starts me cs a (Some initial) s g h =
      record { asking_are = h.asking_are; executions_are = placed_all cs (started a me initial) s.executions g h.executions_are }

  all_start : (me : NodeId) (t : Table) (rest : List Asking) (s : Starting) → AllAsk rest → HasParts s.asking s.executions
      → HasParts (start_each me t rest s).asking (start_each me t rest s).executions
  all_start me t [] s g h = h
  all_start me t (a ∷ rest) s g h = all_start me t rest (start_one me t.contracts a (due t a) s) g.1 (one_starts me t.contracts a (due t a) s g.0 h)

  -- ---- a step

  abbrev pub PartsOf : NodeState → Type 0
  PartsOf s = HasParts s.asking s.executions

  acts : (r : Stepped) (v : Option Viewed) → PartsOf r.node → PartsOf (act_on r v).node
  acts r None h = h
  acts r (Some v) h =
      all_start r.node.me (table_of (caught_up r.node.log)) r.node.asking (record { asking = []; executions = r.node.executions; versions = r.node.versions }) h.asking_are
      (record { asking_are = tt; executions_are = h.executions_are })

  ends : (r : Stepped) → PartsOf r.node → PartsOf (end_step r).node
  ends r h =
      let a = acts r (viewed r.node.log) h in
      record { asking_are = a.asking_are; executions_are = mapped decided (λ x. refl) (act r).node.executions a.executions_are }

  module _ (s : NodeState) (own : PartsOf s) where
    proposals_keep : PartsOf (with_proposals s)
    proposals_keep =
        cond_both (coordinates s.log) (record s { log = propose_all s.log (proposals_of s.acks (table_of s.log)); acks = after_proposals s.acks (table_of s.log) }) s PartsOf
        (λ _. record { asking_are = own.asking_are; executions_are = own.executions_are }) (λ _. own)

    message_keeps : (from : NodeId) (m : Message) → PartsOf (message_row s from m).node
    message_keeps from (message.Raft m) = record { asking_are = own.asking_are; executions_are = own.executions_are }
    message_keeps from (message.Say contract ack) =
        cond_both (leads s.log) (record s { acks = with_ack contract from ack s.acks }) s PartsOf
        (λ _. record { asking_are = own.asking_are; executions_are = own.executions_are }) (λ _. own)
    message_keeps from (message.Stream stream) = record { asking_are = own.asking_are; executions_are = own.executions_are }
    message_keeps from (message.Got got) =
        record { asking_are = own.asking_are; executions_are = mapped (λ x. got_row x from got) (got_contract from got) s.executions own.executions_are }

    brought_keeps : (b : Option Brought) → PartsOf (brought_row s b).node
    brought_keeps None = own
    brought_keeps (Some b) =
        cond_both (is_well_formed s b) (message_row s b.from b.message) (silent s) (λ (r : Stepped). PartsOf r.node) (λ _. message_keeps b.from b.message) (λ _. own)

    asked_all : (life next : ℕ) (cs : List Contract) → ((c : Contract) → IsIn cs c → is_held_by c.primary s.me ≡ true → G c) → AllAsk (askings_from s.me life next cs)
    asked_all life next [] f = tt
    asked_all life next (c ∷ cs) f =
        cond_both (is_held_by c.primary s.me) (record { contract = c; branch = id_in s.me life next } ∷ askings_from s.me life (next + 1) cs) (askings_from s.me life next cs) AllAsk
        (λ e. (f c (inl refl) e, asked_all life (next + 1) cs (λ d i. f d (inr i)))) (λ _. asked_all life next cs (λ d i. f d (inr i)))

    row_keeps : (input : Input) (b : Option Brought) → ((c : Contract) → IsIn (table_of s.log).contracts c → is_held_by c.primary s.me ≡ true → G c) → PartsOf (input_row s input b).node
    row_keeps (Request op key what) b f =
        record { asking_are = own.asking_are; executions_are = requested s.setup.hashes s.executions s.rows s.versions op key what own.executions_are }
    row_keeps (GiveUp op) b f = record { asking_are = own.asking_are; executions_are = mapped (λ x. give_up_row x op) (λ x. refl) s.executions own.executions_are }
    row_keeps (See other up) b f = record { asking_are = own.asking_are; executions_are = own.executions_are }
    row_keeps Tick b f = let h = proposals_keep in record { asking_are = h.asking_are; executions_are = h.executions_are }
    row_keeps (Deliver number) b f = brought_keeps b
    row_keeps Crash b f = record { asking_are = tt; executions_are = tt }
    row_keeps Restart b f = record { asking_are = asked_all (s.life + 1) 0 (table_of s.log).contracts f; executions_are = tt }

    pub parts_keep : (input : Input) (b : Option Brought) → ((c : Contract) → IsIn (table_of s.log).contracts c → is_held_by c.primary s.me ≡ true → G c) → PartsOf (node_step s input b).node
    parts_keep input b f = ends (input_row s input b) (row_keeps input b f)

  -- ---- with which a node begins

  pub begun_parts : (n place : ℕ) (ss : List ShardConfig) → ((c : Contract) → IsIn (first_contracts place ss) c → is_held_by c.primary (node_id n) ≡ true → G c) → AllRun (executions_from n place ss)
  begun_parts n place [] f = tt
  begun_parts n place (s ∷ ss) f =
      let c : Contract = first_contract place s in
      cond_both (is_led n s) (setup_execution c s.primary place ∷ executions_from n (place + 1) ss) (executions_from n (place + 1) ss) AllRun
      (λ e. (subst G (sym (setup_contract c s.primary place)) (f c (inl refl) e), begun_parts n (place + 1) ss (λ d i. f d (inr i))))
      (λ _. begun_parts n (place + 1) ss (λ d i. f d (inr i)))
