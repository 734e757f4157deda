-- In every run, each point of a key lies on the path of the version of the key at the node that leads it, and what that node asked for goes on from there or is stale.
use Rattle.std.proofs.Common.{◌≡◌, ◌⊎◌, ℕ, ◌+◌, ◌<◌, ◌==◌, true, false, cond, List, [], ◌∷◌, ◌++◌, sum, Option, Some, None, inl, inr, refl, sym, ap, ◌∙◌, subst, arith}
use Rattle.std.proofs.Math.Nat.{mod-lt}
use Rattle.std.proofs.lemmas.Bool.{cases_Bool, both_ways, eqb-true, eq-eqb}
use Rattle.change_runs.specs.runs.region_map.declared.id.Id.{Id}
use Rattle.change_runs.specs.runs.region_map.declared.id.NodeId.{NodeId}
use Rattle.change_runs.specs.runs.region_map.declared.region.Region.{Region}
use Rattle.change_runs.specs.runs.region_map.Keys.{hash_of}
use Rattle.change_runs.specs.runs.region_map.Regions.{in_region}
use Rattle.change_runs.specs.runs.region_map.Nodes.{node_id}
use Rattle.change_runs.specs.runs.region_map.Maps.{Pieced, value_at}
use Rattle.change_runs.specs.runs.branch_history.declared.version.Version.{Version}
use Rattle.change_runs.specs.runs.branch_history.declared.history.BranchBirth.{BranchBirth}
use Rattle.change_runs.specs.runs.branch_history.Paths.{Branches}
use Rattle.change_runs.specs.runs.branch_history.Histories.{knows, birth_of, IsHistory}
use Rattle.change_runs.specs.runs.contract_types.declared.config.ShardConfig.{ShardConfig}
use Rattle.change_runs.specs.runs.contract_types.declared.contract.Contract.{Contract}
use Rattle.change_runs.specs.runs.contract_types.declared.results.Viewed.{Viewed}
use Rattle.change_runs.specs.runs.contract_types.Setup.{SetupState, IsSetup}
use Rattle.change_runs.specs.runs.contract_types.Tables.{Table, branch_at, first_contracts}
use Rattle.change_runs.proofs.runs.table_apply.Tables.{registered}
use Rattle.change_runs.specs.runs.table_log.Fitting.{changes_of}
use Rattle.change_runs.specs.runs.table_log.Logs.{LogState, table_of, caught_up, viewed}
use Rattle.change_runs.specs.runs.primary_exec.declared.asking.Asking.{Asking}
use Rattle.change_runs.specs.runs.node_core.declared.journal.Entry.{Entry}
use Rattle.change_runs.specs.runs.node_core.Starting.{Starting, is_current, initial_of, due, start_one, start_each}
use Rattle.change_runs.specs.runs.node_core.Step.{NodeState, Stepped, askings_from, id_in, input_row, act_on, act, end_step}
use Rattle.change_runs.specs.runs.table_apply.Conditions.{is_held_by}
use Rattle.change_runs.specs.runs.Run.{state, brought, IsRun}
use Rattle.change_runs.specs.runs.Story.{Point, IsIn, points, points_of}
use Rattle.change_runs.proofs.Asked.{Asked, history_of, Stale, LedFacts}
use Rattle.change_runs.proofs.AskedRuns.{contracts_stay}
use Rattle.change_runs.proofs.Registered.{not_stale}
use Rattle.change_runs.proofs.log_runs.LogWorldRuns.{moving}
use Rattle.change_runs.proofs.step_runs.EndPoints.{end_points_of}
use Rattle.change_runs.proofs.step_runs.PointBranches.{all_at}
use Rattle.change_runs.proofs.step_runs.Runs.{some_hash}
use Rattle.change_runs.proofs.step_runs.Told.{IsIn-left}
use Rattle.change_runs.proofs.LedMaps.{current_is}
use Rattle.change_runs.proofs.LedHistories.{some_inner, birth_known, Stands, stands, older_one, stale_stays}
use Rattle.lead_runs.proofs.LedRows.{Lead, Kept, kept, Done}
use Rattle.lead_runs.proofs.LedRoles.{asked_from, asking_region, lead_region, IsAsking, IsFollowed, Roles, roles_row, asked_count, contracts_few, one_of_few, some_there, begins_starting, ends_kept}
use Rattle.lead_runs.proofs.LedRuns.{StateRoles, row_is, run_roles, act_life, Longer, history_grows, config_is, all_fit, is_history}
use Rattle.lead_runs.proofs.LedAsked.{table_hashes, current_some, asked_own, asked_origin, CameBy, came, all_stale}
use Rattle.lead_runs.proofs.LedMoves.{Led, HasLead, led_more, led_longer, RowLed, led_row}
use Rattle.lead_runs.proofs.LedStarts.{kept_in, IsDue, leads_there, all_started}
use Rattle.lead_runs.proofs.LedShards.{not_followed, none_keyed, begins_led}

-- ---- branches that may start

pub asked_id : (me : NodeId) (life next : ℕ) (cs : List Contract) (a : Asking) → IsIn (askings_from me life next cs) a → (a.branch.node ≡ me) × (a.branch.life ≡ life)
asked_id me life next [] a i = absurd i
asked_id me life next (c ∷ cs) a i =
    let first : Asking = record { contract = c; branch = id_in me life next } in
    elim (is_held_by c.primary me) as (λ b. IsIn (cond b (first ∷ askings_from me life (next + 1) cs) (askings_from me life next cs)) a → (a.branch.node ≡ me) × (a.branch.life ≡ life)) [
      | true ↦ λ j. elim j [
        | inl e ↦ (ap (λ (x : Asking). x.branch.node) (sym e), ap (λ (x : Asking). x.branch.life) (sym e))
        | inr more ↦ asked_id me life (next + 1) cs a more
      ]
      | false ↦ λ j. asked_id me life next cs a j
    ] i

record DueParts (t : Table) (a : Asking) (initial : ℕ) : Type 0 where
  current : is_current t a.contract.region a.branch ≡ true
  birth : BranchBirth
  birth_is : birth_of t.history a.branch ≡ Some birth
  initial_is : birth.initial ≡ initial

due_parts : (t : Table) (a : Asking) (initial : ℕ) → due t a ≡ Some initial → DueParts t a initial
due_parts t a initial e =
    elim (is_current t a.contract.region a.branch) as
    (λ c. is_current t a.contract.region a.branch ≡ c → cond c (initial_of (birth_of t.history a.branch)) None ≡ Some initial → DueParts t a initial) [
      | true ↦ λ current f. with_birth (birth_of t.history a.branch) refl current f
      | false ↦ λ _ f. absurd (cc f)
    ] refl e
  where
    with_birth : (o : Option BranchBirth) → birth_of t.history a.branch ≡ o → is_current t a.contract.region a.branch ≡ true → initial_of o ≡ Some initial → DueParts t a initial
    with_birth None is current f = absurd (cc f)
    with_birth (Some birth) is current f = record { current = current; birth = birth; birth_is = is; initial_is = some_inner birth.initial initial f }

-- what still asks may not start
one_waits : (me : NodeId) (t : Table) (a : Asking) (o : Option ℕ) (s : Starting) (y : Asking) → due t a ≡ o → IsIn (start_one me t.contracts a o s).asking y → IsIn s.asking y ⊎ (due t y ≡ None)
one_waits me t a None s y e i = go s.asking i
  where
    go : (done : List Asking) → IsIn (done ++ a ∷ []) y → IsIn done y ⊎ (due t y ≡ None)
    go [] j = elim j [ inl is ↦ inr (subst (λ (x : Asking). due t x ≡ None) is e) | inr no' ↦ absurd no' ]
    go (d ∷ done) j = elim j [ inl is ↦ inl (inl is) | inr k ↦ elim (go done k) [ inl m ↦ inl (inr m) | inr f ↦ inr f ] ]
one_waits me t a (Some initial) s y e i = inl i

still_waits : (me : NodeId) (t : Table) (rest : List Asking) (s : Starting) (y : Asking) → IsIn (start_each me t rest s).asking y → IsIn s.asking y ⊎ (due t y ≡ None)
still_waits me t [] s y i = inl i
still_waits me t (a ∷ rest) s y i =
    elim (still_waits me t rest (start_one me t.contracts a (due t a) s) y i) [
      | inl j ↦ one_waits me t a (due t a) s y refl j
      | inr f ↦ inr f
    ]

pub act_waits : (step : Stepped) (vw : Viewed) (y : Asking) → IsIn (act_on step (Some vw)).node.asking y → due (table_of (caught_up step.node.log)) y ≡ None
act_waits step vw y i =
    let s : NodeState = step.node in
    elim (still_waits s.me (table_of (caught_up s.log)) s.asking (record { asking = []; executions = s.executions; versions = s.versions }) y i) [ inl no' ↦ absurd no' | inr f ↦ f ]

-- ---- the end of a step

pub record EndLed (H : Branches) (g : ℕ) (key : List ℕ) (ps : List Point) (version : Version) (branch : Id) (k : Kept) : Type 0 where
  pub now : Version
  pub at : Id
  pub led : Led H g key ps now at k
  pub same : ((now ≡ version) × (at ≡ branch)) ⊎ HasLead g key k.leads

acts_led : (setup : SetupState) (n : ℕ) (H : Branches) → IsHistory H → (g : ℕ) (key : List ℕ) → g < setup.hashes → (ps : List Point) (version : Version) (branch : Id) (step : Stepped) (v : Option Viewed)
    → Roles setup n (kept step.node) → (now : Version) → Led H g key ps now branch (kept step.node) → (now ≡ version) ⊎ HasLead g key (kept step.node).leads
    → ((vw : Viewed) → v ≡ Some vw → (a : Asking) → IsIn step.node.asking a → in_region a.contract.region g key ≡ true → (initial : ℕ) → due (table_of (caught_up step.node.log)) a ≡ Some initial → IsDue H g key step.node.life now a initial)
    → EndLed H g key ps version branch (kept (act_on step v).node)
acts_led setup n H hist g key within ps version branch step None r now l same dues =
    record { now = now; at = branch; led = l; same = elim same [ inl e ↦ inl (e, refl) | inr lead ↦ inr lead ] }
acts_led setup n H hist g key within ps version branch step (Some vw) r now l same dues =
    let s : NodeState = step.node in
    let t : Table = table_of (caught_up s.log) in
    let st : Starting = record { asking = []; executions = s.executions; versions = s.versions } in
    let first : Led H g key ps now branch (kept_in s.life st s.asking) = record {
      version_is = l.version_is;
      branch_is = l.branch_is;
      birth = l.birth;
      registered = l.registered;
      inside = l.inside;
      initial = l.initial;
      came = l.came;
      points_on = l.points_on;
      life = l.life;
      earlier = l.earlier;
      stands = l.stands;
    } in
    let e = all_started setup n s.life H hist g key within ps s.me t now branch s.asking st (begins_starting setup n s r) first (dues vw refl) in
    record {
      now = e.now;
      at = e.at;
      led = record {
        version_is = e.led.version_is;
        branch_is = e.led.branch_is;
        birth = e.led.birth;
        registered = e.led.registered;
        inside = e.led.inside;
        initial = e.led.initial;
        came = e.led.came;
        points_on = e.led.points_on;
        life = e.led.life;
        earlier = λ a i p. e.led.earlier a (IsIn-left (start_each s.me t s.asking st).asking [] a i) p;
        stands = e.led.stands;
      };
      same = elim e.same [
        | inr lead ↦ inr lead
        | inl both ↦ elim same [
          | inl before ↦ inl (both.0 ∙ before, both.1)
          | inr lead ↦ inr (leads_there s.me t s.asking st g key lead)
        ]
      ];
    }

-- ---- a run

pub record LedAt (setup : SetupState) (past : List Entry) (key : List ℕ) (p : ℕ) : Type 0 where
  pub version : Version
  pub branch : Id
  pub led : Led (history_of setup p past) (hash_of key setup.hashes) key (points past) version branch (kept (state setup p past))
  pub asked : (b : Id) (r : Region) (based_on : Pieced Id) (origin : Pieced Version) → Asked setup past (node_id p) b r based_on origin → in_region r (hash_of key setup.hashes) key ≡ true
      → (value_at origin.pieces (hash_of key setup.hashes) key ≡ Some version) ⊎ Stale (history_of setup p past) branch b (value_at based_on.pieces (hash_of key setup.hashes) key)

-- what was asked for by now was asked for just now, or before the last entry
data When (setup : SetupState) (past : List Entry) (e : Entry) (maker : NodeId) (b : Id) (r : Region) (based_on : Pieced Id) (origin : Pieced Version) (a : Asked setup (e ∷ past) maker b r based_on origin) : Type 0 where
  Now : a.moment ≡ e ∷ past → When setup past e maker b r based_on origin a
  Before : Asked setup past maker b r based_on origin → When setup past e maker b r based_on origin a

tail_is : (x y : Entry) (xs ys : List Entry) → x ∷ xs ≡ y ∷ ys → xs ≡ ys
tail_is x y xs ys e = cc

when : (setup : SetupState) (past : List Entry) (e : Entry) (maker : NodeId) (b : Id) (r : Region) (based_on : Pieced Id) (origin : Pieced Version) (a : Asked setup (e ∷ past) maker b r based_on origin)
    → When setup past e maker b r based_on origin a
when setup past e maker b r based_on origin a = go a.earlier.later a.earlier.is
  where
    go : (later : List Entry) → e ∷ past ≡ later ++ a.moment → When setup past e maker b r based_on origin a
    go [] is = Now (sym is)
    go (f ∷ later) is = Before (record {
      moment = a.moment;
      earlier = record { later = later; is = tail_is e f past (later ++ a.moment) is };
      asking = a.asking;
      is_in = a.is_in;
      branch_is = a.branch_is;
      region_is = a.region_is;
      based = a.based;
      origin_is = a.origin_is;
    })

module _ (setup : SetupState) (ok : IsSetup setup) (shard : ShardConfig) (i : IsIn setup.shards shard) (key : List ℕ) (inside : in_region shard.region (hash_of key setup.hashes) key ≡ true) where
  abbrev p : ℕ
  p = shard.primary.0

  abbrev g : ℕ
  g = hash_of key setup.hashes

  within : g < setup.hashes
  within = mod-lt (sum key) (some_hash setup ok)

  module _ (past : List Entry) (e : Entry) (run : IsRun setup (e ∷ past)) (before : LedAt setup past key p) where
    abbrev H : Branches
    H = history_of setup p (e ∷ past)

    hist : IsHistory H
    hist = is_history setup (e ∷ past) run p

    longer : Longer (history_of setup p past) H
    longer = history_grows setup (e ∷ past) past run (record { later = e ∷ []; is = refl }) p

    -- what was so stays so in the longer history
    on_longer : (ps : List Point) (version : Version) (k : Kept) → Led (history_of setup p past) g key ps version before.branch k → Led H g key ps version before.branch k
    on_longer ps version k l =
        subst (λ (bs : Branches). Led bs g key ps version before.branch k) (sym longer.is)
        (led_longer longer.newer (history_of setup p past) g key ps version before.branch k (subst IsHistory longer.is hist) l)

    stale_longer : (b : Id) (based : Option Id) → Stale (history_of setup p past) before.branch b based → Stale H before.branch b based
    stale_longer b based stale =
        subst (λ (bs : Branches). Stale bs before.branch b based) (sym longer.is)
        (stale_stays longer.newer (history_of setup p past) before.branch b based (subst IsHistory longer.is hist) (birth_known (history_of setup p past) before.branch before.led.birth before.led.registered) stale)

    -- of what was asked for, where the version stayed
    asked_still : (version : Version) → value_at (kept (state setup p (e ∷ past))).versions.pieces g key ≡ Some version → version ≡ before.version
        → (b : Id) (r : Region) (based_on : Pieced Id) (origin : Pieced Version) → Asked setup (e ∷ past) (node_id p) b r based_on origin → in_region r g key ≡ true
        → (value_at origin.pieces g key ≡ Some version) ⊎ Stale H before.branch b (value_at based_on.pieces g key)
    asked_still version at same b r based_on origin a has =
        elim (when setup past e (node_id p) b r based_on origin a) [
          | Now is ↦ inl (asked_origin setup ok (e ∷ past) run (node_id p) b r based_on origin a g key within has
              ∙ ap (λ (m : List Entry). value_at (state setup p m).versions.pieces g key) is ∙ at)
          | Before old ↦ elim (before.asked b r based_on origin old has) [
            | inl is ↦ inl (is ∙ ap Some (sym same))
            | inr stale ↦ inr (stale_longer b (value_at based_on.pieces g key) stale)
          ]
        ]

    -- ---- a step of another node

    other_step : (e.node.0 == p) ≡ false → LedAt setup (e ∷ past) key p
    other_step other =
        let n : ℕ = e.node.0 in
        let s : NodeState = state setup n past in
        let step : Stepped = input_row s e.input (brought past e.input) in
        let same : state setup p (e ∷ past) ≡ state setup p past = ap (λ b. cond b (moving setup past e p) (state setup p past)) other in
        let roles = run_roles setup ok past run.1 n in
        let row = row_is setup n s e.input (brought past e.input) roles.me_is roles.of (contracts_stay setup ok past run.1 n) in
        let qs_are : points_of e.input e.outputs ≡ points_of e.input step.outs = ap (points_of e.input) run.0.outputs ∙ end_points_of e.input step in
        let apart : p ≡ n → ⊥ = λ is. both_ways _ other (eq-eqb e.node.0 p (sym is)) in
        let more = led_more (history_of setup p past) g key (points past) (points_of e.input e.outputs) before.version before.branch (kept (state setup p past)) before.led
        (λ q j keyed. none_keyed setup ok shard i key inside n (kept s) (kept step.node) (points_of e.input step.outs) roles.roles apart row q (subst (λ (l : List Point). IsIn l q) qs_are j) keyed) in
        let now : Led H g key (points (e ∷ past)) before.version before.branch (kept (state setup p (e ∷ past))) =
        subst (λ (t : NodeState). Led H g key (points (e ∷ past)) before.version before.branch (kept t)) (sym same) (on_longer (points (e ∷ past)) before.version (kept (state setup p past)) more) in
        record { version = before.version; branch = before.branch; led = now; asked = asked_still before.version now.version_is refl }

    -- ---- a step of its own

    module _ (own : (e.node.0 == p) ≡ true) where
      abbrev s : NodeState
      s = state setup p past

      abbrev step : Stepped
      step = input_row s e.input (brought past e.input)

      here : state setup p (e ∷ past) ≡ (end_step step).node
      here = ap (λ b. cond b (moving setup past e p) (state setup p past)) own

      pub kept_here : kept (state setup p (e ∷ past)) ≡ kept (act step).node
      kept_here = ap kept here ∙ ends_kept step

      roles_before : StateRoles setup p s
      roles_before = run_roles setup ok past run.1 p

      pub row : Done (node_id p) setup.hashes (first_contracts 0 setup.shards) (kept s) (kept step.node) (points_of e.input step.outs)
      row = row_is setup p s e.input (brought past e.input) roles_before.me_is roles_before.of (contracts_stay setup ok past run.1 p)

      pub roles_row_is : Roles setup p (kept step.node)
      roles_row_is = roles_row setup ok p (kept s) (kept step.node) (points_of e.input step.outs) roles_before.roles row

      abbrev ps : List Point
      ps = points past ++ points_of e.input step.outs

      ps_are : points (e ∷ past) ≡ ps
      ps_are =
          ap (λ (l : List Point). points past ++ l)
          (ap (points_of e.input) run.0.outputs
          ∙ ap (λ m. points_of e.input (end_step (input_row (state setup m past) e.input (brought past e.input))).outs) (eqb-true e.node.0 p own)
          ∙ end_points_of e.input step)

      row_led : RowLed (history_of setup p past) g key ps before.version before.branch (kept step.node)
      row_led =
          led_row setup p (history_of setup p past) (is_history setup past run.1 p) key within (points past) before.version before.branch (kept s) roles_before.roles before.led
          (λ r j. not_followed setup ok shard i g key inside r (all_at (IsFollowed setup p) (kept s).followed roles_before.roles.followed r j))
          (kept step.node) (points_of e.input step.outs) row

      now_led : Led H g key ps row_led.now before.branch (kept step.node)
      now_led = on_longer ps row_led.now (kept step.node) row_led.led

      -- an asking that may start goes on from where the version stands
      dues : (vw : Viewed) → viewed step.node.log ≡ Some vw → (a : Asking) → IsIn step.node.asking a → in_region a.contract.region g key ≡ true → (initial : ℕ)
          → due (table_of (caught_up step.node.log)) a ≡ Some initial → IsDue H g key step.node.life row_led.now a initial
      dues vw acts a j has initial may =
          let log_is : (state setup p (e ∷ past)).log ≡ caught_up step.node.log =
          ap (λ (t : NodeState). t.log) here ∙ ap (λ o. (act_on step o).node.log) acts in
          let t : Table = table_of (state setup p (e ∷ past)).log in
          let t_is : table_of (caught_up step.node.log) ≡ t = ap table_of (sym log_is) in
          let parts = due_parts t a initial (subst (λ (x : Table). due x a ≡ Some initial) t_is may) in
          let asking : IsAsking setup p step.node.life a = all_at (IsAsking setup p step.node.life) step.node.asking roles_row_is.askings a j in
          let id = asked_id (node_id p) step.node.life 0 (first_contracts 0 setup.shards) a asking.of in
          let later = asking.later in
          let own_life = id.1 in
          let hashes = table_hashes setup ok (e ∷ past) run p in
          let current : branch_at H g key ≡ Some a.branch = current_is t a.contract.region a.branch g key (omega (arith, within, hashes)) has (current_some setup ok (e ∷ past) run p g key within) parts.current in
          let log : LogState = (state setup p (e ∷ past)).log in
          let reg = registered setup (changes_of log.raft.log) log.acted g key a.branch (ap (λ (bs : Branches). branch_at bs g key) (sym (config_is setup (e ∷ past) run p)) ∙ current) in
          let same_birth : reg.0 ≡ parts.birth =
          some_inner reg.0 parts.birth (sym reg.1 ∙ ap (λ (bs : Branches). birth_of bs a.branch) (sym (config_is setup (e ∷ past) run p)) ∙ parts.birth_is) in
          let in_it : in_region parts.birth.region g key ≡ true = subst (λ (b : BranchBirth). in_region b.region g key ≡ true) same_birth reg.2 in
          let at : Stands H a.branch parts.birth = stands H a.branch parts.birth parts.birth_is in
          let made = now_led.earlier a j has in
          let apart : a.branch ≡ before.branch → ⊥ = λ is. (let l : a.branch.life ≡ before.branch.life = ap (λ (b : Id). b.life) is in omega (arith, l, made, own_life)) in
          let origin : value_at parts.birth.origin.pieces g key ≡ Some row_led.now =
          elim (came setup ok (e ∷ past) run p at.newer at.older (a.branch, parts.birth) at.is) [
            | inl one ↦ absurd (omega (arith, one, own_life, later))
            | inr c ↦ from_there a j has vw acts t_is initial parts.birth may id.0 asking current parts.birth_is in_it at apart c
          ] in
          record { birth = parts.birth; registered = parts.birth_is; initial_is = parts.initial_is; inside = in_it; origin = origin; own = own_life }
        where
          from_there : (a : Asking) → IsIn step.node.asking a → in_region a.contract.region g key ≡ true → (vw : Viewed) → viewed step.node.log ≡ Some vw
              → table_of (caught_up step.node.log) ≡ table_of (state setup p (e ∷ past)).log → (initial : ℕ) (birth : BranchBirth) → due (table_of (caught_up step.node.log)) a ≡ Some initial
              → a.branch.node ≡ node_id p → IsAsking setup p step.node.life a → branch_at H g key ≡ Some a.branch → birth_of H a.branch ≡ Some birth → in_region birth.region g key ≡ true
              → (at : Stands H a.branch birth) → (a.branch ≡ before.branch → ⊥) → CameBy setup (e ∷ past) (a.branch, birth) at.older → value_at birth.origin.pieces g key ≡ Some row_led.now
          from_there a j has vw acts t_is initial birth may node asking current birth_is in_it at apart c =
              let made = asked_own setup ok (e ∷ past) run c.maker a.branch birth.region c.based_on birth.origin c.asked in
              let maker : c.maker ≡ node_id p = ap node_id (sym made.node_is ∙ ap (λ (m : NodeId). m.0) node) in
              let asked : Asked setup (e ∷ past) (node_id p) a.branch birth.region c.based_on birth.origin = subst (λ (m : NodeId). Asked setup (e ∷ past) m a.branch birth.region c.based_on birth.origin) maker c.asked in
              elim (when setup past e (node_id p) a.branch birth.region c.based_on birth.origin asked) [
                | Now is ↦ absurd (not_now asked is)
                | Before old ↦ elim (before.asked a.branch birth.region c.based_on birth.origin old in_it) [
                  | inl from ↦ from ∙ ap Some (stays_at row_led.same)
                  | inr stale ↦ absurd (no_stale (stale_longer a.branch (value_at c.based_on.pieces g key) stale))
                ]
              ]
            where
              -- what still asks is not due
              not_now : (asked : Asked setup (e ∷ past) (node_id p) a.branch birth.region c.based_on birth.origin) → asked.moment ≡ e ∷ past → ⊥
              not_now asked is =
                  let y : Asking = asked.asking in
                  let y_in : IsIn (state setup p (e ∷ past)).asking y = subst (λ (m : List Entry). IsIn (state setup p m).asking y) is asked.is_in in
                  let y_acts : IsIn (act_on step (Some vw)).node.asking y =
                  subst (λ (o : Option Viewed). IsIn (act_on step o).node.asking y) acts (subst (λ (t : NodeState). IsIn t.asking y) here y_in) in
                  let y_role : IsAsking setup p (state setup p (e ∷ past)).life y =
                  all_at (IsAsking setup p (state setup p (e ∷ past)).life) (state setup p (e ∷ past)).asking (run_roles setup ok (e ∷ past) run p).roles.askings y y_in in
                  let life : (state setup p (e ∷ past)).life ≡ step.node.life = ap (λ (t : NodeState). t.life) here ∙ act_life step (viewed step.node.log) in
                  let y_of : IsIn (asked_from setup p step.node.life) y = subst (λ l. IsIn (asked_from setup p l) y) life y_role.of in
                  let y_has : in_region y.contract.region g key ≡ true = subst (λ (q : Region). in_region q g key ≡ true) (sym asked.region_is) in_it in
                  let few = asked_count (node_id p) step.node.life 0 (first_contracts 0 setup.shards) g key in
                  let fewer = contracts_few setup ok g key in
                  let same : y ≡ a = one_of_few asking_region (asked_from setup p step.node.life) g key (omega (arith, few, fewer)) y a y_of asking.of y_has has in
                  let none : due (table_of (caught_up step.node.log)) a ≡ None = subst (λ (x : Asking). due (table_of (caught_up step.node.log)) x ≡ None) same (act_waits step vw y y_acts) in
                  apart_options (sym none ∙ may)
                where
                  apart_options : ◌≡◌ {A = Option ℕ} None (Some initial) → ⊥
                  apart_options f = absurd (cc f)

              -- with an asking there is no branch of the pair that is written
              stays_at : (row_led.now ≡ before.version) ⊎ HasLead g key (kept step.node).leads → before.version ≡ row_led.now
              stays_at (inl same) = sym same
              stays_at (inr lead) =
                  let o = roles_row_is.one g key in
                  let u = some_there lead_region (kept step.node).leads g key lead.x lead.is_in lead.has in
                  let w = some_there asking_region step.node.asking g key a j has in
                  absurd (omega (arith, o, u, w))

              no_stale : Stale H before.branch a.branch (value_at c.based_on.pieces g key) → ⊥
              no_stale stale =
                  let log : LogState = (state setup p (e ∷ past)).log in
                  let is = config_is setup (e ∷ past) run p in
                  let older = older_one at.newer at.older (a.branch, birth) g key before.branch now_led.birth (subst IsHistory at.is hist)
                  (ap (λ (bs : Branches). branch_at bs g key) (sym at.is) ∙ current) (ap (λ (bs : Branches). birth_of bs before.branch) (sym at.is) ∙ now_led.registered) now_led.inside apart in
                  not_stale setup ok (changes_of log.raft.log) (all_fit setup (e ∷ past) run p) log.acted at.newer at.older (a.branch, birth) g key before.branch now_led.birth (value_at c.based_on.pieces g key)
                  (sym is ∙ at.is) in_it older.newer older.older older.is now_led.inside (sym (c.based g key within in_it))
                  (subst (λ (bs : Branches). Stale bs before.branch a.branch (value_at c.based_on.pieces g key)) is stale)

      -- that is where it stood as the step began
      pub due_from : (vw : Viewed) → viewed step.node.log ≡ Some vw → (a : Asking) → IsIn step.node.asking a → in_region a.contract.region g key ≡ true → (initial : ℕ)
          → due (table_of (caught_up step.node.log)) a ≡ Some initial → IsDue H g key step.node.life before.version a initial
      due_from vw acts a j has initial may =
          elim row_led.same [
            | inl same ↦ subst (λ (v : Version). IsDue H g key step.node.life v a initial) same (dues vw acts a j has initial may)
            | inr lead ↦
                let o = roles_row_is.one g key in
                let u = some_there lead_region (kept step.node).leads g key lead.x lead.is_in lead.has in
                let w = some_there asking_region step.node.asking g key a j has in
                absurd (omega (arith, o, u, w))
          ]

      ended : EndLed H g key ps before.version before.branch (kept (act step).node)
      ended = acts_led setup p H hist g key within ps before.version before.branch step (viewed step.node.log) roles_row_is row_led.now now_led row_led.same dues

      own_step : LedAt setup (e ∷ past) key p
      own_step =
          let led : Led H g key (points (e ∷ past)) ended.now ended.at (kept (state setup p (e ∷ past))) =
          subst (λ (l : List Point). Led H g key l ended.now ended.at (kept (state setup p (e ∷ past)))) (sym ps_are)
          (subst (Led H g key ps ended.now ended.at) (sym kept_here) ended.led) in
          record { version = ended.now; branch = ended.at; led = led; asked = asked_now led ended.same }
        where
          asked_now : Led H g key (points (e ∷ past)) ended.now ended.at (kept (state setup p (e ∷ past))) → ((ended.now ≡ before.version) × (ended.at ≡ before.branch)) ⊎ HasLead g key (kept (act step).node).leads
              → (b : Id) (r : Region) (based_on : Pieced Id) (origin : Pieced Version) → Asked setup (e ∷ past) (node_id p) b r based_on origin → in_region r g key ≡ true
              → (value_at origin.pieces g key ≡ Some ended.now) ⊎ Stale H ended.at b (value_at based_on.pieces g key)
          asked_now led (inl same) b r based_on origin a has =
              subst (λ (i : Id). (value_at origin.pieces g key ≡ Some ended.now) ⊎ Stale H i b (value_at based_on.pieces g key)) (sym same.1)
              (asked_still ended.now led.version_is same.0 b r based_on origin a has)
          asked_now led (inr lead) b r based_on origin a has =
              let x : Lead = lead.x in
              let x_in : IsIn (kept (state setup p (e ∷ past))).leads x = subst (λ (k : Kept). IsIn k.leads x) (sym kept_here) lead.is_in in
              let of : x.branch ≡ ended.at = some_inner x.branch ended.at (ap (λ (v : Version). v.branch) (sym (led.stands x x_in lead.has)) ∙ led.branch_is) in
              let known : knows H x.branch ≡ true = subst (λ (i : Id). knows H i ≡ true) (sym of) (birth_known H ended.at led.birth led.registered) in
              inr (subst (λ (i : Id). Stale H i b (value_at based_on.pieces g key)) of
              (all_stale setup ok (e ∷ past) run p g key within x x_in lead.has known b r based_on origin a has))

  pub led_at : (past : List Entry) → IsRun setup past → LedAt setup past key p
  led_at [] run =
      let b = begins_led setup ok shard i key within inside in
      record { version = b.version; branch = b.branch; led = b.led; asked = λ d r based_on origin a has. absurd (nothing d r based_on origin a) }
    where
      no_more : (later m : List Entry) → [] ≡ later ++ m → m ≡ []
      no_more [] m e = sym e
      no_more (f ∷ later) m e = absurd (cc e)

      nothing : (d : Id) (r : Region) (based_on : Pieced Id) (origin : Pieced Version) → Asked setup [] (node_id p) d r based_on origin → ⊥
      nothing d r based_on origin a = subst (λ (m : List Entry). IsIn (state setup p m).asking a.asking) (no_more a.earlier.later a.moment a.earlier.is) a.is_in
  led_at (e ∷ past) run =
      let before = led_at past run.1 in
      elim (cases_Bool (e.node.0 == p)) [ inl own ↦ own_step past e run before own | inr other ↦ other_step past e run before other ]

pub led_facts : (setup : SetupState) → IsSetup setup → (past : List Entry) → IsRun setup past → (key : List ℕ) → (shard : ShardConfig) → IsIn setup.shards shard
    → in_region shard.region (hash_of key setup.hashes) key ≡ true → LedFacts setup past (hash_of key setup.hashes) key shard.primary.0
led_facts setup ok past run key shard i inside =
    let l = led_at setup ok shard i key inside past run in
    record {
      version = l.version;
      version_is = l.led.version_is;
      branch = l.branch;
      branch_is = l.led.branch_is;
      birth = l.led.birth;
      registered = l.led.registered;
      inside = l.led.inside;
      initial = l.led.initial;
      came = l.led.came;
      points_on = l.led.points_on;
      asked = l.asked;
    }
