-- In every run a primary starts a branch from its own versions, and what was answered is on their paths.
use Rattle.std.proofs.Common.{◌≡◌, ◌⊎◌, ◌==◌, ℕ, true, List, [], ◌∷◌, ◌++◌, sum, Some, None, inl, inr, refl, sym, ap, ◌∙◌, subst, arith, append_assoc}
use Rattle.std.proofs.Math.Nat.{mod-lt}
use Rattle.std.proofs.lemmas.Bool.{eq-eqb, ltb-true}
use Rattle.id_runs.specs.runs.region_map.declared.id.Id.{Id}
use Rattle.id_runs.specs.runs.region_map.declared.id.NodeId.{NodeId}
use Rattle.id_runs.specs.runs.region_map.Keys.{hash_of}
use Rattle.id_runs.specs.runs.region_map.Nodes.{node_id}
use Rattle.id_runs.specs.runs.region_map.Regions.{in_region}
use Rattle.id_runs.specs.runs.region_map.Maps.{value_at}
use Rattle.id_runs.specs.runs.branch_history.declared.version.Version.{Version}
use Rattle.id_runs.specs.runs.branch_history.declared.history.BranchBirth.{BranchBirth}
use Rattle.id_runs.specs.runs.branch_history.Paths.{Branches, or_zero, is_on}
use Rattle.id_runs.specs.runs.branch_history.Histories.{knows, birth_of, IsHistory}
use Rattle.id_runs.specs.runs.contract_types.declared.config.ShardConfig.{ShardConfig}
use Rattle.id_runs.specs.runs.contract_types.declared.contract.Contract.{Contract}
use Rattle.id_runs.specs.runs.contract_types.declared.results.Viewed.{Viewed}
use Rattle.id_runs.specs.runs.contract_types.Setup.{SetupState, IsSetup}
use Rattle.id_runs.specs.runs.contract_types.Tables.{first_contracts}
use Rattle.id_runs.specs.runs.table_log.Logs.{table_of, caught_up, viewed}
use Rattle.id_runs.specs.runs.store_api.Rows.{has_key}
use Rattle.id_runs.specs.runs.store_api.Versions.{point, version_of}
use Rattle.id_runs.specs.runs.primary_exec.declared.asking.Asking.{Asking}
use Rattle.id_runs.specs.runs.node_core.declared.journal.Entry.{Entry}
use Rattle.id_runs.specs.runs.node_core.Starting.{due}
use Rattle.id_runs.specs.runs.node_core.Step.{NodeState, Stepped, input_row, act_on, act}
use Rattle.id_runs.specs.runs.Committed.{IsEarlier}
use Rattle.id_runs.specs.runs.Run.{state, brought, IsRun}
use Rattle.id_runs.specs.runs.Story.{Point, IsIn}
use Rattle.id_runs.specs.runs.DonePoints.{IsDoneAt, Starts}
use Rattle.id_runs.specs.runs.Latest.{told_table}
use Rattle.id_runs.proofs.change_runs.Asked.{history_of}
use Rattle.id_runs.proofs.step_runs.PointBranches.{all_at}
use Rattle.id_runs.proofs.step_runs.Runs.{some_hash}
use Rattle.id_runs.proofs.DrawnIds.{asked_once}
use Rattle.id_runs.proofs.change_runs.LedHistories.{some_inner, birth_known, birth_longer, newer_apart}
use Rattle.id_runs.proofs.lead_runs.LedRows.{Lead, lead_of, Kept, kept, Done, Still, Dispatches, GoesDown, ComesUp, Streams}
use Rattle.id_runs.proofs.lead_runs.LedRoles.{asked_from, role_of, lead_region, asking_region, IsAsking, IsLed, asked_led, some_there}
use Rattle.id_runs.proofs.lead_runs.LedRuns.{run_roles, earlier_run, history_grows}
use Rattle.id_runs.proofs.lead_runs.LedAsked.{asking_own, lead_own}
use Rattle.id_runs.proofs.lead_runs.LedStarts.{IsStarted, start_in}
use Rattle.id_runs.proofs.lead_runs.LedShards.{holder_is, leads_in}
use Rattle.id_runs.proofs.lead_runs.LedKeys.{LedAt, led_at, roles_row_is, row, kept_here, due_from}
use Rattle.path_runs.proofs.OnPath.{shard_of, birth_there}
use Rattle.path_runs.proofs.OnPathTables.{tells}
use Rattle.path_runs.proofs.Stays.{told_history, done_stays}
use Rattle.id_runs.proofs.log_runs.Table.{node_within}

-- who asked still does after the row of a step, or writes nothing
asks_or_none : (me : NodeId) (hashes : ℕ) (cs : List Contract) (k next : Kept) (qs : List Point) → Done me hashes cs k next qs → (a : Asking) → IsIn k.asking a → IsIn next.asking a ⊎ (next.leads ≡ [])
asks_or_none me hashes cs k next qs (Still e _) a i = inl (subst (λ (x : Kept). IsIn x.asking a) (sym e) i)
asks_or_none me hashes cs k next qs (Dispatches before after x q these has branch time e _) a i = inl (subst (λ (y : Kept). IsIn y.asking a) (sym e) i)
asks_or_none me hashes cs k next qs (Streams region branch at j e _) a i = inl (subst (λ (x : Kept). IsIn x.asking a) (sym e) i)
asks_or_none me hashes cs k next qs (GoesDown e _) a i = inr (ap (λ (x : Kept). x.leads) e)
asks_or_none me hashes cs k next qs (ComesUp e _) a i = inr (ap (λ (x : Kept). x.leads) e)

-- a branch that was asked for, and is written after the next step, is the one of that asking
written_role : (setup : SetupState) → IsSetup setup → (past : List Entry) (e : Entry) → IsRun setup (e ∷ past) → (n : ℕ) (a : Asking) → IsIn (state setup n past).asking a
    → (l : Lead) → IsIn (kept (state setup n (e ∷ past))).leads l → l.branch ≡ a.branch → role_of l ≡ a
written_role setup ok past e run n a a_in l l_in same =
    let life : ℕ = (state setup n past).life in
    let now : ℕ = (state setup n (e ∷ past)).life in
    let role : IsAsking setup n life a = all_at (IsAsking setup n life) (state setup n past).asking (run_roles setup ok past run.1 n).roles.askings a a_in in
    let led : IsLed setup n now l = all_at (IsLed setup n now) (kept (state setup n (e ∷ past))).leads (run_roles setup ok (e ∷ past) run n).roles.leads l l_in in
    let lives : now ≡ life = sym (lead_own setup (e ∷ past) run n l l_in).life_is ∙ ap (λ (b : Id). b.life) same ∙ (asking_own setup past run.1 n a a_in).life_is in
    let later = role.later in
    elim led.of [
      | inl one ↦ absurd (omega (arith, one, lives, later))
      | inr of ↦ asked_once (node_id n) life 0 (first_contracts 0 setup.shards) (role_of l) a (subst (λ k. IsIn (asked_from setup n k) (role_of l)) lives of) role.of same
    ]

-- ---- a step of the node that leads a key

-- a branch is registered, from where the node's version stands
record GoesFrom (H : Branches) (g : ℕ) (key : List ℕ) (s : NodeState) (a : Asking) : Type 0 where
  birth : BranchBirth
  registered : birth_of H a.branch ≡ Some birth
  inside : in_region birth.region g key ≡ true
  origin : value_at birth.origin.pieces g key ≡ value_at s.versions.pieces g key

module _ (setup : SetupState) (ok : IsSetup setup) (shard : ShardConfig) (i : IsIn setup.shards shard) (key : List ℕ) (inside : in_region shard.region (hash_of key setup.hashes) key ≡ true)
    (past : List Entry) (e : Entry) (run : IsRun setup (e ∷ past)) (own : (e.node.0 == shard.primary.0) ≡ true) (a : Asking) (a_in : IsIn (state setup shard.primary.0 past).asking a)
    (has : in_region a.contract.region (hash_of key setup.hashes) key ≡ true) (l : Lead) (l_in : IsIn (kept (state setup shard.primary.0 (e ∷ past))).leads l) (same : l.branch ≡ a.branch)
  where
    abbrev p : ℕ
    p = shard.primary.0

    abbrev g : ℕ
    g = hash_of key setup.hashes

    abbrev s : NodeState
    s = state setup p past

    abbrev step : Stepped
    step = input_row s e.input (brought past e.input)

    before : LedAt setup past key p
    before = led_at setup ok shard i key inside past run.1

    role : role_of l ≡ a
    role = written_role setup ok past e run p a a_in l l_in same

    l_acts : IsIn (kept (act step).node).leads l
    l_acts = subst (λ (k : Kept). IsIn k.leads l) (kept_here setup ok shard i key inside past e run before own) l_in

    l_has : in_region l.contract.region g key ≡ true
    l_has = subst (λ (x : Asking). in_region x.contract.region g key ≡ true) (sym role) has

    -- it was not written before
    not_before : IsIn (kept step.node).leads l → ⊥
    not_before j =
        elim (asks_or_none (node_id p) setup.hashes (first_contracts 0 setup.shards) (kept s) (kept step.node) _ (row setup ok shard i key inside past e run before own) a a_in) [
          | inl asks ↦
              let o = (roles_row_is setup ok shard i key inside past e run before own).one g key in
              let u = some_there lead_region (kept step.node).leads g key l j l_has in
              let w = some_there asking_region step.node.asking g key a asks has in
              omega (arith, o, u, w)
          | inr none ↦ subst (λ (ls : List Lead). IsIn ls l) none j
        ]

    from_due : (vw : Viewed) → viewed step.node.log ≡ Some vw → IsStarted step.node.me (table_of (caught_up step.node.log)) step.node.asking l → GoesFrom (history_of setup p (e ∷ past)) g key s a
    from_due vw acts r =
        let is : r.asking ≡ a = ap role_of r.is ∙ role in
        let j : IsIn step.node.asking a = subst (IsIn step.node.asking) is r.is_in in
        let may : due (table_of (caught_up step.node.log)) a ≡ Some r.initial = subst (λ (x : Asking). due (table_of (caught_up step.node.log)) x ≡ Some r.initial) is r.due_is in
        let d = due_from setup ok shard i key inside past e run before own vw acts a j has r.initial may in
        record { birth = d.birth; registered = d.registered; inside = d.inside; origin = d.origin ∙ sym before.led.version_is }

    goes_from : GoesFrom (history_of setup p (e ∷ past)) g key s a
    goes_from =
        elim (viewed step.node.log) as (λ o. viewed step.node.log ≡ o → IsIn (kept (act_on step o).node).leads l → GoesFrom (history_of setup p (e ∷ past)) g key s a) [
          | None ↦ λ _ j. absurd (not_before j)
          | Some vw ↦ λ acts j.
              elim (start_in step.node.me (table_of (caught_up step.node.log)) step.node.asking (record { asking = []; executions = step.node.executions; versions = step.node.versions }) l j) [
                | inl old ↦ absurd (not_before old)
                | inr r ↦ from_due vw acts r
              ]
        ] refl l_acts

-- ---- the node that starts a branch

started_from : (setup : SetupState) → IsSetup setup → (past : List Entry) (e : Entry) → IsRun setup (e ∷ past) → (a : Asking) → Starts setup past e a → (key : List ℕ) → has_key a.contract.region setup.hashes key ≡ true
    → GoesFrom (history_of setup e.node.0 (e ∷ past)) (hash_of key setup.hashes) key (state setup e.node.0 past) a
started_from setup ok past e run a w key has =
    let n : ℕ = e.node.0 in
    let g : ℕ = hash_of key setup.hashes in
    let sh = shard_of setup ok g key (mod-lt (sum key) (some_hash setup ok)) in
    let life : ℕ = (state setup n past).life in
    let role : IsAsking setup n life a = all_at (IsAsking setup n life) (state setup n past).asking (run_roles setup ok past run.1 n).roles.askings a w.asked in
    let led = asked_led (node_id n) life 0 (first_contracts 0 setup.shards) a role.of in
    let who : sh.shard.primary.0 ≡ n = holder_is setup ok sh.shard sh.is_in g key sh.inside a.contract n led.0 has led.1 in
    let l_in = leads_in (state setup n (e ∷ past)).executions w.execution w.writes in
    subst (λ k. GoesFrom (history_of setup k (e ∷ past)) g key (state setup k past) a) who
    (goes_from setup ok sh.shard sh.is_in key sh.inside past e run (eq-eqb n sh.shard.primary.0 (sym who)) a (subst (λ k. IsIn (state setup k past).asking a) (sym who) w.asked) has
    (lead_of w.execution) (subst (λ k. IsIn (kept (state setup k (e ∷ past))).leads (lead_of w.execution)) (sym who) l_in) w.branch_is)

pub starts_from : (setup : SetupState) → IsSetup setup → (past : List Entry) (e : Entry) → IsRun setup (e ∷ past) → (a : Asking) → Starts setup past e a → (key : List ℕ) → has_key a.contract.region setup.hashes key ≡ true
    → (birth : BranchBirth) × (birth_of (history_of setup e.node.0 (e ∷ past)) a.branch ≡ Some birth) × (value_at birth.origin.pieces (hash_of key setup.hashes) key ≡ version_of (state setup e.node.0 past).versions key)
starts_from setup ok past e run a w key has =
    let f = started_from setup ok past e run a w key has in
    let s : NodeState = state setup e.node.0 past in
    let hashes : s.versions.hashes ≡ setup.hashes = (run_roles setup ok past run.1 e.node.0).roles.hashes_are in
    (f.birth, f.registered, f.origin ∙ ap (λ h. value_at s.versions.pieces (hash_of key h) key) (sym hashes))

pub starts_answered : (setup : SetupState) → IsSetup setup → (past : List Entry) → IsRun setup past → (later earlier : List Entry) (e : Entry) → past ≡ later ++ e ∷ earlier → (a : Asking) → Starts setup earlier e a
    → (q : Point) → IsDoneAt past q → has_key a.contract.region setup.hashes q.key ≡ true → (newer older : Branches) (birth : BranchBirth) → (told_table setup past).history ≡ newer ++ (a.branch, birth) ∷ older
    → knows older q.branch ≡ true → (version : Version) → version_of (state setup e.node.0 earlier).versions q.key ≡ Some version
    → is_on older (hash_of q.key setup.hashes) q.key version (point q.branch q.timestamp) ≡ true
starts_answered setup ok past run later earlier e is a w q done has newer older birth told_is known version version_is =
    let n : ℕ = e.node.0 in
    let g : ℕ = hash_of q.key setup.hashes in
    let early : IsEarlier past (e ∷ earlier) = record { later = later; is = is } in
    let then : IsRun setup (e ∷ earlier) = earlier_run setup past (e ∷ earlier) run early in
    let f = started_from setup ok earlier e then a w q.key has in
    let s : NodeState = state setup n earlier in
    let H : Branches = history_of setup n (e ∷ earlier) in
    let t = tells setup past run n (ltb-true n setup.nodes (node_within setup earlier e then.0)) in
    let more = history_grows setup past (e ∷ earlier) run early n in
    let split : (told_table setup past).history ≡ (t.newer ++ more.newer) ++ H = t.told ∙ t.is ∙ ap (λ (bs : Branches). t.newer ++ bs) more.is ∙ sym (append_assoc t.newer more.newer H) in
    let hist : IsHistory (told_table setup past).history = told_history setup ok past run q.key in
    let now : birth_of (told_table setup past).history a.branch ≡ Some birth =
    ap (λ (bs : Branches). birth_of bs a.branch) told_is ∙ birth_there newer older a.branch birth (subst IsHistory told_is hist) in
    let before : birth_of (told_table setup past).history a.branch ≡ Some f.birth =
    ap (λ (bs : Branches). birth_of bs a.branch) split
    ∙ birth_longer (t.newer ++ more.newer) H a.branch (newer_apart (t.newer ++ more.newer) H a.branch (subst IsHistory split hist) (birth_known H a.branch f.birth f.registered)) ∙ f.registered in
    let same : f.birth ≡ birth = some_inner f.birth birth (sym before ∙ now) in
    let hashes : s.versions.hashes ≡ setup.hashes = (run_roles setup ok earlier then.1 n).roles.hashes_are in
    let origin : value_at birth.origin.pieces g q.key ≡ Some version =
    ap (λ (b : BranchBirth). value_at b.origin.pieces g q.key) (sym same) ∙ f.origin ∙ ap (λ h. value_at s.versions.pieces (hash_of q.key h) q.key) (sym hashes) ∙ version_is in
    let has_too : in_region birth.region g q.key ≡ true = subst (λ (b : BranchBirth). in_region b.region g q.key ≡ true) same f.inside in
    subst (λ (v : Version). is_on older g q.key v (point q.branch q.timestamp) ≡ true) (ap or_zero origin)
    (done_stays setup ok past run q done newer older (a.branch, birth) told_is known has_too)
