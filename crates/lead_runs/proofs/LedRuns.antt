-- What every run keeps of the life, the roles and the history of a node.
use Rattle.std.proofs.Common.{◌≡◌, ℕ, zero, suc, ◌+◌, ◌≤◌, ◌==◌, true, List, [], ◌∷◌, ◌++◌, length, take, Option, Some, None, inl, inr, refl, sym, ap, ◌∙◌, subst, arith, length-append, length-take}
use Rattle.std.proofs.lemmas.Bool.{cond_both, and_parts, cases_eq}
use Rattle.std.proofs.lemmas.List.{take-take, take-append-le}
use Rattle.change_runs.specs.runs.region_map.declared.id.NodeId.{NodeId}
use Rattle.change_runs.specs.runs.region_map.Nodes.{node_id}
use Rattle.change_runs.specs.runs.raft_vote.declared.log.LogEntry.{LogEntry}
use Rattle.change_runs.specs.raft_laws.World.{World}
use Rattle.change_runs.specs.runs.branch_history.Paths.{Branches}
use Rattle.change_runs.specs.runs.branch_history.Histories.{IsHistory}
use Rattle.change_runs.specs.runs.contract_types.Configs.{ConfigState}
use Rattle.change_runs.specs.runs.contract_types.declared.change.Change.{Change}
use Rattle.change_runs.specs.runs.contract_types.declared.contract.Contract.{Contract}
use Rattle.change_runs.specs.runs.contract_types.declared.results.Viewed.{Viewed}
use Rattle.change_runs.specs.runs.contract_types.Setup.{SetupState, IsSetup}
use Rattle.change_runs.specs.runs.contract_types.Tables.{Table, first_contracts}
use Rattle.change_runs.specs.runs.table_apply.Runs.{change_at, table_at}
use Rattle.change_runs.proofs.runs.table_apply.Steps.{history_after}
use Rattle.change_runs.proofs.runs.table_apply.Tables.{histories}
use Rattle.change_runs.specs.runs.table_log.Fitting.{changes_of, fits, log_fits}
use Rattle.change_runs.specs.runs.table_log.Logs.{table_of, viewed}
use Rattle.change_runs.proofs.runs.table_log.Holding.{each_fits}
use Rattle.change_runs.proofs.runs.table_log.Prefixes.{same_entries}
use Rattle.change_runs.specs.runs.coordinator.Acks.{with_ack}
use Rattle.change_runs.specs.runs.coordinator.Proposals.{proposals_of, after_proposals}
use Rattle.change_runs.specs.runs.exec_types.declared.message.Message.{Message as Sent}
use Rattle.change_runs.specs.runs.exec_types.declared.message.Message.TheVariants as message
use Rattle.change_runs.specs.runs.exec_types.declared.input.Input.{Input}
use Rattle.change_runs.specs.runs.exec_types.declared.input.Input.TheVariants.{Request, GiveUp, See, Tick, Deliver, Crash, Restart}
use Rattle.change_runs.specs.runs.node_core.declared.node.Brought.{Brought}
use Rattle.change_runs.specs.runs.node_core.declared.journal.Entry.{Entry}
use Rattle.change_runs.specs.runs.node_core.Step.{NodeState, Stepped, silent, message_row, is_well_formed, brought_row, leads, coordinates, propose_all, with_proposals, input_row, act_on, node_step}
use Rattle.change_runs.specs.runs.Run.{state, brought, IsRun}
use Rattle.change_runs.specs.runs.Committed.{IsEarlier}
use Rattle.change_runs.specs.runs.Story.{Point, points_of}
use Rattle.change_runs.proofs.Asked.{history_of}
use Rattle.change_runs.proofs.AskedRuns.{contracts_stay}
use Rattle.change_runs.proofs.log_runs.LogWorldRuns.{log_world, moving, run_facts, journal_past, part, promises}
use Rattle.change_runs.proofs.log_runs.LogWorldLaws.{logs_longer}
use Rattle.lead_runs.proofs.LedRows.{Kept, kept, Done, Still, Dispatches, Streams, GoesDown, ComesUp, row_done}
use Rattle.lead_runs.proofs.LedRoles.{Roles, roles_row, roles_end, roles_begin}

-- ---- who a node is stays

record Named : Type 0 where
  me : NodeId
  of : SetupState

abbrev named : NodeState → Named
named s = record { me = s.me; of = s.setup }

message_named : (s : NodeState) (from : NodeId) (m : Sent) → named (message_row s from m).node ≡ named s
message_named s from (message.Raft m) = refl
message_named s from (message.Say contract ack) =
    cond_both (leads s.log) (record s { acks = with_ack contract from ack s.acks }) s (λ (t : NodeState). named t ≡ named s) (λ _. refl) (λ _. refl)
message_named s from (message.Stream stream) = refl
message_named s from (message.Got got) = refl

brought_named : (s : NodeState) (b : Option Brought) → named (brought_row s b).node ≡ named s
brought_named s None = refl
brought_named s (Some b) =
    cond_both (is_well_formed s b) (message_row s b.from b.message) (silent s) (λ (step : Stepped). named step.node ≡ named s) (λ _. message_named s b.from b.message) (λ _. refl)

tick_named : (s : NodeState) → named (with_proposals s) ≡ named s
tick_named s =
    cond_both (coordinates s.log)
    (record s { log = propose_all s.log (proposals_of s.acks (table_of s.log)); acks = after_proposals s.acks (table_of s.log) }) s
    (λ (t : NodeState). named t ≡ named s) (λ _. refl) (λ _. refl)

row_named : (s : NodeState) (input : Input) (b : Option Brought) → named (input_row s input b).node ≡ named s
row_named s (Request op key what) b = refl
row_named s (GiveUp op) b = refl
row_named s (See other up) b = refl
row_named s Tick b = tick_named s
row_named s (Deliver number) b = brought_named s b
row_named s Crash b = refl
row_named s Restart b = refl

act_named : (step : Stepped) (v : Option Viewed) → named (act_on step v).node ≡ named step.node
act_named step None = refl
act_named step (Some v) = refl

step_named : (s : NodeState) (input : Input) (b : Option Brought) → named (node_step s input b).node ≡ named s
step_named s input b = act_named (input_row s input b) (viewed (input_row s input b).node.log) ∙ row_named s input b

-- ---- its roles

pub record StateRoles (setup : SetupState) (n : ℕ) (s : NodeState) : Type 0 where
  pub me_is : s.me ≡ node_id n
  pub of : s.setup ≡ setup
  pub roles : Roles setup n (kept s)

-- what the row of an input does at a node of the table
pub row_is : (setup : SetupState) (n : ℕ) (s : NodeState) (input : Input) (b : Option Brought) → s.me ≡ node_id n → s.setup ≡ setup → (table_of s.log).contracts ≡ first_contracts 0 setup.shards
    → Done (node_id n) setup.hashes (first_contracts 0 setup.shards) (kept s) (kept (input_row s input b).node) (points_of input (input_row s input b).outs)
row_is setup n s input b me of contracts =
    let next = kept (input_row s input b).node in
    let qs = points_of input (input_row s input b).outs in
    subst (λ (c : List Contract). Done (node_id n) setup.hashes c (kept s) next qs) contracts
    (subst (λ (x : SetupState). Done (node_id n) x.hashes (table_of s.log).contracts (kept s) next qs) of
    (subst (λ (m : NodeId). Done m s.setup.hashes (table_of s.log).contracts (kept s) next qs) me (row_done s input b)))

step_roles : (setup : SetupState) → IsSetup setup → (n : ℕ) (s : NodeState) (input : Input) (b : Option Brought) → (table_of s.log).contracts ≡ first_contracts 0 setup.shards → StateRoles setup n s
    → StateRoles setup n (node_step s input b).node
step_roles setup ok n s input b contracts r =
    let step : Stepped = input_row s input b in
    let same = step_named s input b in
    record {
      me_is = ap (λ (x : Named). x.me) same ∙ r.me_is;
      of = ap (λ (x : Named). x.of) same ∙ r.of;
      roles = roles_end setup n step (roles_row setup ok n (kept s) (kept step.node) (points_of input step.outs) r.roles (row_is setup n s input b r.me_is r.of contracts));
    }

pub run_roles : (setup : SetupState) → IsSetup setup → (past : List Entry) → IsRun setup past → (n : ℕ) → StateRoles setup n (state setup n past)
run_roles setup ok [] h n = record { me_is = refl; of = refl; roles = roles_begin setup ok n }
run_roles setup ok (e ∷ past) h n =
    let before = run_roles setup ok past h.1 n in
    cond_both (e.node.0 == n) (moving setup past e n) (state setup n past) (StateRoles setup n)
    (λ _. step_roles setup ok n (state setup n past) e.input (brought past e.input) (contracts_stay setup ok past h.1 n) before) (λ _. before)

-- ---- its life

pub row_life : (me : NodeId) (hashes : ℕ) (contracts : List Contract) (k next : Kept) (qs : List Point) → Done me hashes contracts k next qs → k.life ≤ next.life
row_life me hashes contracts k next qs (Still e _) = let l = ap (λ (x : Kept). x.life) e in omega (arith, l)
row_life me hashes contracts k next qs (Dispatches before after x q these has branch time e _) = let l : next.life ≡ k.life = ap (λ (x : Kept). x.life) e in omega (arith, l)
row_life me hashes contracts k next qs (Streams region branch at i e _) = let l : next.life ≡ k.life = ap (λ (x : Kept). x.life) e in omega (arith, l)
row_life me hashes contracts k next qs (GoesDown e _) = let l : next.life ≡ k.life = ap (λ (x : Kept). x.life) e in omega (arith, l)
row_life me hashes contracts k next qs (ComesUp e _) = let l : next.life ≡ k.life + 1 = ap (λ (x : Kept). x.life) e in omega (arith, l)

pub act_life : (step : Stepped) (v : Option Viewed) → (act_on step v).node.life ≡ step.node.life
act_life step None = refl
act_life step (Some v) = refl

step_life : (s : NodeState) (input : Input) (b : Option Brought) → s.life ≤ (node_step s input b).node.life
step_life s input b =
    let step : Stepped = input_row s input b in
    let row = row_life s.me s.setup.hashes (table_of s.log).contracts (kept s) (kept step.node) (points_of input step.outs) (row_done s input b) in
    let end = act_life step (viewed step.node.log) in
    let whole : (node_step s input b).node.life ≡ step.node.life = end in
    omega (arith, row, whole)

entry_life : (setup : SetupState) (past : List Entry) (e : Entry) (n : ℕ) → (state setup n past).life ≤ (state setup n (e ∷ past)).life
entry_life setup past e n =
    cond_both (e.node.0 == n) (moving setup past e n) (state setup n past) (λ (s : NodeState). (state setup n past).life ≤ s.life)
    (λ _. step_life (state setup n past) e.input (brought past e.input)) (λ _. omega arith)

later_life : (setup : SetupState) (later m : List Entry) (n : ℕ) → (state setup n m).life ≤ (state setup n (later ++ m)).life
later_life setup [] m n = omega arith
later_life setup (e ∷ later) m n =
    let rest = later_life setup later m n in
    let one = entry_life setup (later ++ m) e n in
    omega (arith, rest, one)

pub lives_grow : (setup : SetupState) (past m : List Entry) → IsEarlier past m → (n : ℕ) → (state setup n m).life ≤ (state setup n past).life
lives_grow setup past m early n = subst (λ (l : List Entry). (state setup n m).life ≤ (state setup n l).life) (sym early.is) (later_life setup early.later m n)

-- ---- its history

pub record Longer (older bs : Branches) : Type 0 where
  pub newer : Branches
  pub is : bs ≡ newer ++ older

pub table_longer : (config : ConfigState) (changes : List Change) (w a : ℕ) → a ≤ w → Longer (table_at config changes a).history (table_at config changes w).history
table_longer config changes zero a le =
    let e : 0 ≡ a = omega (arith, le) in
    subst (λ b. Longer (table_at config changes b).history (table_at config changes 0).history) e (record { newer = []; is = refl })
table_longer config changes (suc w) a le =
    elim (cases_eq a (suc w)) [
      | inl e ↦ subst (λ b. Longer (table_at config changes b).history (table_at config changes (suc w)).history) (sym e) (record { newer = []; is = refl })
      | inr ne ↦
          let below : a ≤ w = within a w le ne in
          let rest = table_longer config changes w a below in
          history_after (Longer (table_at config changes a).history) (table_at config changes w) (suc w) (change_at changes w) rest
          (λ id b _ _ _. record { newer = (id, b) ∷ rest.newer; is = ap (λ (l : Branches). (id, b) ∷ l) rest.is })
    ]
  where
    within : (a w : ℕ) → a ≤ suc w → (a ≡ suc w → ⊥) → a ≤ w
    within a w le ne = omega (arith, le, ne)

same_longer : (a b c d : Branches) → a ≡ b → c ≡ d → Longer b d → Longer a c
same_longer a b c d e f l = record { newer = l.newer; is = f ∙ l.is ∙ ap (λ (x : Branches). l.newer ++ x) (sym e) }

acted_within : (setup : SetupState) (past : List Entry) → IsRun setup past → (n : ℕ) → (state setup n past).log.acted ≤ length (state setup n past).log.raft.log
acted_within setup past h n =
    let whole : part setup past (length past) ≡ log_world setup past = ap (log_world setup) (journal_past past (length past) (omega arith)) in
    let within = subst (λ (w : World Change). (w.node n).view ≤ length (w.node n).log) whole ((promises setup past h).within (length past) n) in
    omega (arith, within, (run_facts setup past h).caught n)

pub earlier_run : (setup : SetupState) (past m : List Entry) → IsRun setup past → IsEarlier past m → IsRun setup m
earlier_run setup past m h early = before early.later (subst (IsRun setup) early.is h)
  where
    before : (later : List Entry) → IsRun setup (later ++ m) → IsRun setup m
    before [] r = r
    before (e ∷ later) r = before later r.1

pub config_is : (setup : SetupState) (past : List Entry) → IsRun setup past → (n : ℕ)
    → history_of setup n past ≡ (table_at setup (changes_of (state setup n past).log.raft.log) (state setup n past).log.acted).history
config_is setup past h n = ap (λ (c : ConfigState). (table_at c (changes_of (state setup n past).log.raft.log) (state setup n past).log.acted).history) ((run_facts setup past h).config n)

-- the branches that it had then follow from the log that it has now
pub record Within (setup : SetupState) (past m : List Entry) (n : ℕ) : Type 0 where
  pub rises : (state setup n m).log.acted ≤ (state setup n past).log.acted
  pub older : history_of setup n m ≡ (table_at setup (changes_of (state setup n past).log.raft.log) (state setup n m).log.acted).history

pub history_within : (setup : SetupState) (past m : List Entry) → IsRun setup past → IsEarlier past m → (n : ℕ) → Within setup past m n
history_within setup past m h early n =
    let s = (state setup n m).log in
    let t = (state setup n past).log in
    let before = earlier_run setup past m h early in
    let front = logs_longer setup past h m early n in
    let own = acted_within setup m before n in
    let all = acted_within setup past h n in
    let rises : s.acted ≤ t.acted =
    omega (arith, own, all, length-take s.acted s.raft.log, length-take t.acted t.raft.log, ap length front.is, length-append (take s.acted s.raft.log) front.rest) in
    let long : s.acted ≤ length (take s.acted s.raft.log) = omega (arith, own, length-take s.acted s.raft.log) in
    let low : s.acted ≤ s.acted = omega arith in
    let same : take s.acted s.raft.log ≡ take s.acted t.raft.log =
    sym (take-take s.acted s.acted s.raft.log low) ∙ sym (take-append-le s.acted (take s.acted s.raft.log) front.rest long)
    ∙ ap (take s.acted) (sym front.is) ∙ take-take s.acted t.acted t.raft.log rises in
    record { rises = rises; older = config_is setup m before n ∙ ap (λ (x : Table). x.history) (same_entries setup s.raft.log t.raft.log s.acted same) }

pub history_grows : (setup : SetupState) (past m : List Entry) → IsRun setup past → IsEarlier past m → (n : ℕ) → Longer (history_of setup n m) (history_of setup n past)
history_grows setup past m h early n =
    let s = (state setup n m).log in
    let t = (state setup n past).log in
    let w = history_within setup past m h early n in
    same_longer (history_of setup n m) (table_at setup (changes_of t.raft.log) s.acted).history (history_of setup n past) (table_at setup (changes_of t.raft.log) t.acted).history w.older (config_is setup past h n)
    (table_longer setup (changes_of t.raft.log) t.acted s.acted w.rises)

-- as long as it acts on no more, they stay
pub history_stays : (setup : SetupState) (past m : List Entry) → IsRun setup past → IsEarlier past m → (n : ℕ) → (state setup n m).log.acted ≡ (state setup n past).log.acted
    → history_of setup n m ≡ history_of setup n past
history_stays setup past m h early n same =
    let w = history_within setup past m h early n in
    w.older ∙ ap (λ k. (table_at setup (changes_of (state setup n past).log.raft.log) k).history) same ∙ sym (config_is setup past h n)

pub all_fit : (setup : SetupState) (past : List Entry) → IsRun setup past → (n i : ℕ) → fits setup.hashes (change_at (changes_of (state setup n past).log.raft.log) i) ≡ true
all_fit setup past h n i = each (state setup n past).log.raft.log i ((run_facts setup past h).logs n)
  where
    each : (log : List (LogEntry Change)) (i : ℕ) → log_fits setup.hashes log ≡ true → fits setup.hashes (change_at (changes_of log) i) ≡ true
    each [] i e = refl
    each (x ∷ xs) zero e = (and_parts (fits setup.hashes x.change) (log_fits setup.hashes xs) e).0
    each (x ∷ xs) (suc i) e = each xs i (and_parts (fits setup.hashes x.change) (log_fits setup.hashes xs) e).1

pub is_history : (setup : SetupState) (past : List Entry) → IsRun setup past → (n : ℕ) → IsHistory (history_of setup n past)
is_history setup past h n =
    let log = (state setup n past).log in
    subst IsHistory (sym (config_is setup past h n))
    (histories setup (changes_of log.raft.log) log.acted (λ i. each_fits setup.hashes log.raft.log i ((run_facts setup past h).logs n)))
