-- In every run a node that is up asks for a branch, or writes one, in each of its shards; and what asks is not current yet.
use Rattle.std.proofs.Common.{◌≡◌, ◌==◌, ℕ, ◌+◌, true, false, cond, ◌&&◌, not, List, [], ◌∷◌, map, Option, Some, None, refl, sym, ap, ap₂, ◌∙◌, arith}
use Rattle.std.proofs.lemmas.Bool.{cond_both}
use Rattle.path_runs.specs.runs.region_map.declared.id.NodeId.{NodeId}
use Rattle.path_runs.specs.runs.region_map.Nodes.{node_id}
use Rattle.path_runs.specs.runs.contract_types.declared.change.Change.{Change}
use Rattle.path_runs.specs.runs.contract_types.declared.contract.Contract.{Contract}
use Rattle.path_runs.specs.runs.contract_types.declared.results.Viewed.{Viewed}
use Rattle.path_runs.specs.runs.contract_types.Setup.{SetupState, IsSetup}
use Rattle.path_runs.specs.runs.contract_types.Tables.{Table, first_contracts}
use Rattle.path_runs.specs.runs.contract_types.Tilings.{holders}
use Rattle.path_runs.specs.runs.raft_node.Rows.{is_full}
use Rattle.path_runs.specs.runs.table_log.Fitting.{fits}
use Rattle.path_runs.specs.runs.table_log.Logs.{LogState, table_of, with_proposed, caught_up, viewed}
use Rattle.path_runs.specs.runs.coordinator.Acks.{with_ack}
use Rattle.path_runs.specs.runs.coordinator.Proposals.{proposals_of, after_proposals}
use Rattle.path_runs.specs.runs.exec_types.declared.message.Got.{Got}
use Rattle.path_runs.specs.runs.exec_types.declared.message.Message.{Message}
use Rattle.path_runs.specs.runs.exec_types.declared.message.Message.TheVariants as message
use Rattle.path_runs.specs.runs.exec_types.declared.input.Input.{Input}
use Rattle.path_runs.specs.runs.exec_types.declared.input.Input.TheVariants.{Request, GiveUp, See, Tick, Deliver, Crash, Restart}
use Rattle.path_runs.specs.runs.primary_exec.declared.asking.Asking.{Asking}
use Rattle.path_runs.specs.runs.primary_exec.Execution.{Execution, started, with_acked, with_stands, is_live, got_row, give_up_row, decided}
use Rattle.path_runs.specs.runs.node_core.declared.node.Brought.{Brought}
use Rattle.path_runs.specs.runs.node_core.declared.journal.Entry.{Entry}
use Rattle.path_runs.specs.runs.node_core.Starting.{Starting, due, start_one, start_each}
use Rattle.path_runs.specs.runs.node_core.Step.{NodeState, Stepped, silent, leads, coordinates, propose_one, propose_all, with_proposals, message_row, is_well_formed, brought_row, input_row, act_on, act, node_step, askings_from}
use Rattle.path_runs.specs.runs.Run.{state, brought, IsRun}
use Rattle.path_runs.proofs.change_runs.AskedRuns.{contracts_stay}
use Rattle.path_runs.proofs.log_runs.LogWorldRuns.{moving}
use Rattle.path_runs.proofs.step_runs.Setups.{exec_region}
use Rattle.path_runs.proofs.step_runs.Nodes.{holders-same}
use Rattle.path_runs.proofs.key_runs.Requesting.{request_regions}
use Rattle.path_runs.proofs.key_runs.KeyedNodes.{regions_map}
use Rattle.path_runs.proofs.key_runs.KeyedRoles.{asking_region, led, holders-append, holders-placed, executions_led, askings_led}
use Rattle.path_runs.proofs.lead_runs.LedRuns.{run_roles}

pub data Goes (s t : NodeState) : Type 0 where
  Lasts : t.up ≡ s.up → ((h : ℕ) (k : List ℕ) → holders exec_region t.executions h k ≡ holders exec_region s.executions h k) → t.asking ≡ s.asking → Goes s t
  Down : t.up ≡ false → t.executions ≡ [] → t.asking ≡ [] → Goes s t
  Up : t.up ≡ true → t.executions ≡ [] → t.asking ≡ askings_from s.me (s.life + 1) 0 (table_of s.log).contracts → Goes s t

-- and it acts on no more of the log
pub record RowGoes (s t : NodeState) : Type 0 where
  pub goes : Goes s t
  pub acted : t.log.acted ≡ s.log.acted

lasts : (s t : NodeState) → t.up ≡ s.up → t.executions ≡ s.executions → t.asking ≡ s.asking → t.log.acted ≡ s.log.acted → RowGoes s t
lasts s t up runs asks acted = record { goes = Lasts up (λ h k. ap (λ (xs : List Execution). holders exec_region xs h k) runs) asks; acted = acted }

got_region : (from : NodeId) (got : Got) (x : Execution) → exec_region (got_row x from got) ≡ exec_region x
got_region from got x =
    cond_both (is_live x from got.session)
    (record x { sessions = map (with_acked from got.session got.upto) x.sessions; dispatch = with_stands x.dispatch from got got.stands }) x
    (λ (y : Execution). exec_region y ≡ exec_region x) (λ _. refl) (λ _. refl)

message_goes : (s : NodeState) (from : NodeId) (m : Message) → RowGoes s (message_row s from m).node
message_goes s from (message.Raft m) = lasts s (message_row s from (message.Raft m)).node refl refl refl refl
message_goes s from (message.Say contract ack) =
    let t : NodeState = record s { acks = with_ack contract from ack s.acks } in
    cond_both (leads s.log) t s (RowGoes s) (λ _. lasts s t refl refl refl refl) (λ _. lasts s s refl refl refl refl)
message_goes s from (message.Stream stream) = lasts s (message_row s from (message.Stream stream)).node refl refl refl refl
message_goes s from (message.Got got) = record { goes = Lasts refl (λ h k. regions_map (λ x. got_row x from got) (got_region from got) s.executions h k) refl; acted = refl }

brought_goes : (s : NodeState) (b : Option Brought) → RowGoes s (brought_row s b).node
brought_goes s None = lasts s s refl refl refl refl
brought_goes s (Some b) =
    cond_both (is_well_formed s b) (message_row s b.from b.message) (silent s) (λ (step : Stepped). RowGoes s step.node) (λ _. message_goes s b.from b.message) (λ _. lasts s s refl refl refl refl)

one_acted : (log : LogState) (c : Change) → (propose_one log c).acted ≡ log.acted
one_acted log c =
    cond_both (fits log.config.hashes c && not (is_full log.raft.log)) (with_proposed log c) log (λ (l : LogState). l.acted ≡ log.acted) (λ _. refl) (λ _. refl)

all_acted : (log : LogState) (cs : List Change) → (propose_all log cs).acted ≡ log.acted
all_acted log [] = refl
all_acted log (c ∷ cs) = all_acted (propose_one log c) cs ∙ one_acted log c

tick_goes : (s : NodeState) → RowGoes s (with_proposals s)
tick_goes s =
    let t : NodeState = record s { log = propose_all s.log (proposals_of s.acks (table_of s.log)); acks = after_proposals s.acks (table_of s.log) } in
    cond_both (coordinates s.log) t s (RowGoes s) (λ _. lasts s t refl refl refl (all_acted s.log (proposals_of s.acks (table_of s.log)))) (λ _. lasts s s refl refl refl refl)

-- the log's own step changes none of it
ticked : (s p : NodeState) (t : NodeState) → t.up ≡ p.up → t.executions ≡ p.executions → t.asking ≡ p.asking → t.log.acted ≡ p.log.acted → RowGoes s p → RowGoes s t
ticked s p t up runs asks acted r = record { goes = go r.goes; acted = acted ∙ r.acted }
  where
    go : Goes s p → Goes s t
    go (Lasts a b c) = Lasts (up ∙ a) (λ h k. ap (λ (xs : List Execution). holders exec_region xs h k) runs ∙ b h k) (asks ∙ c)
    go (Down a b c) = Down (up ∙ a) (runs ∙ b) (asks ∙ c)
    go (Up a b c) = Up (up ∙ a) (runs ∙ b) (asks ∙ c)

pub row_goes : (s : NodeState) (input : Input) (b : Option Brought) → RowGoes s (input_row s input b).node
row_goes s (Request op key what) b =
    record {
      goes = Lasts refl
          (λ h k. holders-same exec_region (input_row s (Request op key what) b).node.executions s.executions h k (request_regions s.setup.hashes s.executions s.rows s.versions op key what)) refl;
      acted = refl;
    }
row_goes s (GiveUp op) b = record { goes = Lasts refl (λ h k. regions_map (λ x. give_up_row x op) (λ x. refl) s.executions h k) refl; acted = refl }
row_goes s (See other up) b = lasts s (input_row s (See other up) b).node refl refl refl refl
row_goes s Tick b = ticked s (with_proposals s) (input_row s Tick b).node refl refl refl refl (tick_goes s)
row_goes s (Deliver number) b = brought_goes s b
row_goes s Crash b = record { goes = Down refl refl refl; acted = refl }
row_goes s Restart b = record { goes = Up refl refl refl; acted = refl }

-- ---- counts

-- of each pair that it leads, a node that is up asks for one branch or writes one; one that is down has none
abbrev pub Counted : SetupState → ℕ → NodeState → Type 0
Counted setup n s = (h : ℕ) (k : List ℕ) → holders exec_region s.executions h k + holders asking_region s.asking h k ≡ cond s.up (led n setup.shards h k) 0

row_counted : (setup : SetupState) (n : ℕ) (s t : NodeState) → s.me ≡ node_id n → (table_of s.log).contracts ≡ first_contracts 0 setup.shards → Goes s t → Counted setup n s → Counted setup n t
row_counted setup n s t me contracts (Lasts up runs asks) c h k =
    ap₂ (λ (a b : ℕ). a + b) (runs h k) (ap (λ (l : List Asking). holders asking_region l h k) asks) ∙ c h k ∙ ap (λ b. cond b (led n setup.shards h k) 0) (sym up)
row_counted setup n s t me contracts (Down up runs asks) c h k =
    let none : holders exec_region t.executions h k ≡ 0 = ap (λ (l : List Execution). holders exec_region l h k) runs in
    let nobody : holders asking_region t.asking h k ≡ 0 = ap (λ (l : List Asking). holders asking_region l h k) asks in
    let zero' : holders exec_region t.executions h k + holders asking_region t.asking h k ≡ 0 = omega (arith, none, nobody) in
    zero' ∙ ap (λ b. cond b (led n setup.shards h k) 0) (sym up)
row_counted setup n s t me contracts (Up up runs asks) c h k =
    let none : holders exec_region t.executions h k ≡ 0 = ap (λ (l : List Execution). holders exec_region l h k) runs in
    let all : holders asking_region t.asking h k ≡ led n setup.shards h k =
    ap (λ (l : List Asking). holders asking_region l h k) (asks ∙ λ i. askings_from (me i) (s.life + 1) 0 (contracts i)) ∙ askings_led (node_id n) (s.life + 1) 0 0 setup.shards h k in
    let sum' : holders exec_region t.executions h k + holders asking_region t.asking h k ≡ led n setup.shards h k = omega (arith, none, all) in
    sum' ∙ ap (λ b. cond b (led n setup.shards h k) 0) (sym up)

one_counts : (me : NodeId) (cs : List Contract) (a : Asking) (initial : Option ℕ) (s : Starting) (h : ℕ) (k : List ℕ)
    → holders exec_region (start_one me cs a initial s).executions h k + holders asking_region (start_one me cs a initial s).asking h k
    ≡ (holders exec_region s.executions h k + holders asking_region s.asking h k) + holders asking_region (a ∷ []) h k
one_counts me cs a None s h k = let e = holders-append asking_region s.asking (a ∷ []) h k in omega (arith, e)
one_counts me cs a (Some initial) s h k =
    let e = holders-placed cs (started a me initial) s.executions h k in
    let same : holders exec_region (started a me initial ∷ []) h k ≡ holders asking_region (a ∷ []) h k = refl in
    omega (arith, e, same)

all_count : (me : NodeId) (t : Table) (rest : List Asking) (s : Starting) (h : ℕ) (k : List ℕ)
    → holders exec_region (start_each me t rest s).executions h k + holders asking_region (start_each me t rest s).asking h k
    ≡ (holders exec_region s.executions h k + holders asking_region s.asking h k) + holders asking_region rest h k
all_count me t [] s h k = let none : holders asking_region [] h k ≡ 0 = refl in omega (arith, none)
all_count me t (a ∷ rest) s h k =
    let more = all_count me t rest (start_one me t.contracts a (due t a) s) h k in
    let one = one_counts me t.contracts a (due t a) s h k in
    let split = holders-append asking_region (a ∷ []) rest h k in
    omega (arith, more, one, split)

act_counted : (setup : SetupState) (n : ℕ) (step : Stepped) (v : Option Viewed) → Counted setup n step.node → Counted setup n (act_on step v).node
act_counted setup n step None c h k = c h k
act_counted setup n step (Some v) c h k =
    let s : NodeState = step.node in
    let e = all_count s.me (table_of (caught_up s.log)) s.asking (record { asking = []; executions = s.executions; versions = s.versions }) h k in
    let none : holders asking_region [] h k ≡ 0 = refl in
    let here = c h k in
    omega (arith, e, none, here)

step_counted : (setup : SetupState) (n : ℕ) (s : NodeState) (input : Input) (b : Option Brought) → s.me ≡ node_id n → (table_of s.log).contracts ≡ first_contracts 0 setup.shards → Counted setup n s
    → Counted setup n (node_step s input b).node
step_counted setup n s input b me contracts c h k =
    let row : Stepped = input_row s input b in
    let acts = act_counted setup n row (viewed row.node.log) (row_counted setup n s row.node me contracts (row_goes s input b).goes c) h k in
    let same = regions_map decided (λ x. refl) (act row).node.executions h k in
    ap (λ (a : ℕ). a + holders asking_region (act row).node.asking h k) same ∙ acts

pub counted : (setup : SetupState) → IsSetup setup → (past : List Entry) → IsRun setup past → (n : ℕ) → Counted setup n (state setup n past)
counted setup ok [] run n =
    λ h k.
    let e = executions_led n 0 setup.shards h k in
    let none : holders asking_region [] h k ≡ 0 = refl in
    omega (arith, e, none)
counted setup ok (e ∷ past) run n =
    let before = counted setup ok past run.1 n in
    let roles = run_roles setup ok past run.1 n in
    cond_both (e.node.0 == n) (moving setup past e n) (state setup n past) (Counted setup n)
    (λ _. step_counted setup n (state setup n past) e.input (brought past e.input) roles.me_is (contracts_stay setup ok past run.1 n) before) (λ _. before)
