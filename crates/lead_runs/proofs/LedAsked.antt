-- What a primary asked for, in every run: when its branch was made, on what it was based, and how branches came into the tables of nodes.
use Rattle.std.proofs.Common.{◌≡◌, ◌⊎◌, ℕ, zero, suc, ◌+◌, ◌≤◌, ◌<◌, true, false, cond, List, [], ◌∷◌, ◌++◌, Some, is_some, inl, inr, refl, sym, ap, ◌∙◌, subst, arith}
use Rattle.std.proofs.lemmas.Bool.{cases_eq, false_from_ne_true}
use Rattle.std.specs.List.{AllByRecursion}
use Rattle.change_runs.specs.runs.region_map.declared.id.Id.{Id}
use Rattle.change_runs.specs.runs.region_map.declared.id.NodeId.{NodeId}
use Rattle.change_runs.specs.runs.region_map.declared.region.Region.{Region}
use Rattle.change_runs.specs.runs.region_map.Equal.{same_id, id_decides}
use Rattle.change_runs.specs.runs.region_map.Regions.{in_region}
use Rattle.change_runs.specs.runs.region_map.Nodes.{node_id}
use Rattle.change_runs.specs.runs.region_map.Maps.{Pieced, value_at}
use Rattle.change_runs.specs.runs.raft_vote.declared.log.LogEntry.{LogEntry}
use Rattle.change_runs.specs.runs.branch_history.declared.version.Version.{Version}
use Rattle.change_runs.specs.runs.branch_history.declared.history.BranchBirth.{BranchBirth}
use Rattle.change_runs.specs.runs.branch_history.Equal.{same_version, version_decides}
use Rattle.change_runs.specs.runs.branch_history.Paths.{Branches}
use Rattle.change_runs.specs.runs.branch_history.Histories.{knows}
use Rattle.change_runs.proofs.runs.branch_history.PathLaws.{id_same}
use Rattle.change_runs.specs.runs.contract_types.Configs.{ConfigState}
use Rattle.change_runs.specs.runs.contract_types.declared.config.ShardConfig.{ShardConfig}
use Rattle.change_runs.specs.runs.contract_types.declared.change.Change.{Change}
use Rattle.change_runs.specs.runs.contract_types.Setup.{SetupState, IsSetup}
use Rattle.change_runs.specs.runs.contract_types.Tables.{Table, branch_at, first_id, first_birth, first_branches, first_contracts}
use Rattle.change_runs.specs.runs.contract_types.Tilings.{holders}
use Rattle.change_runs.specs.runs.table_apply.Runs.{change_at, table_at}
use Rattle.change_runs.proofs.runs.table_apply.Tables.{some_current}
use Rattle.change_runs.specs.runs.table_log.Fitting.{changes_of}
use Rattle.change_runs.specs.runs.table_log.Logs.{table_of}
use Rattle.change_runs.proofs.runs.table_log.Holding.{hashes_stay}
use Rattle.change_runs.specs.runs.primary_exec.declared.asking.Asking.{Asking}
use Rattle.change_runs.specs.runs.primary_exec.Execution.{Execution}
use Rattle.change_runs.specs.runs.node_core.declared.journal.Entry.{Entry}
use Rattle.change_runs.specs.runs.node_core.Starting.{current_of}
use Rattle.change_runs.specs.runs.Run.{IsRun, state}
use Rattle.change_runs.specs.runs.Story.{IsIn, points}
use Rattle.change_runs.proofs.Asked.{Asked, IsAsked, history_of, Stale}
use Rattle.change_runs.proofs.AskedRuns.{registered_asked}
use Rattle.change_runs.proofs.Registered.{comes_from}
use Rattle.change_runs.proofs.log_runs.LogWorldRuns.{run_facts}
use Rattle.change_runs.proofs.step_runs.PointBranches.{all_at, Head, heads_of, asked_of, held, IsHeadOf, IsUnused, IsHeld}
use Rattle.change_runs.proofs.step_runs.PointRuns.{points_rise}
use Rattle.change_runs.proofs.LedMaps.{mask_inside, current_hashes, current_at, some_of}
use Rattle.change_runs.proofs.LedHistories.{knows_one, known_birth, stands, current_known, stale_itself, stale_before}
use Rattle.lead_runs.proofs.LedRows.{Lead, leads_of, kept}
use Rattle.lead_runs.proofs.LedRoles.{asked_from, role_of, asking_region, IsAsking, IsLed, Roles, asked_count, contracts_few, one_of_few}
use Rattle.lead_runs.proofs.LedRuns.{run_roles, lives_grow, history_grows, earlier_run, config_is, all_fit}

-- ---- branches that a node asks for, or writes

asked_all : (P : Id → Type 0) (waits : List Asking) (a : Asking) → AllByRecursion P (asked_of waits) → IsIn waits a → P a.branch
asked_all P [] a h i = absurd i
asked_all P (w ∷ waits) a h i = elim i [ inl e ↦ subst (λ (x : Asking). P x.branch) e h.0 | inr j ↦ asked_all P waits a h.1 j ]

abbrev head_under : Lead → Head
head_under x = record { branch = x.branch; last = x.last }

leads_all : (P : Head → Type 0) (xs : List Execution) (x : Lead) → AllByRecursion P (heads_of xs) → IsIn (leads_of xs) x → P (head_under x)
leads_all P [] x h i = absurd i
leads_all P (y ∷ ys) x h i = elim i [ inl e ↦ subst (λ (z : Lead). P (head_under z)) e h.0 | inr j ↦ leads_all P ys x h.1 j ]

pub record IsOwn (n life : ℕ) (b : Id) : Type 0 where
  pub node_is : b.node.0 ≡ n
  pub life_is : b.life ≡ life

pub asking_own : (setup : SetupState) (past : List Entry) → IsRun setup past → (n : ℕ) (a : Asking) → IsIn (state setup n past).asking a → IsOwn n (state setup n past).life a.branch
asking_own setup past h n a i =
    let held : IsHeld n (points past) (held (state setup n past)) = (points_rise setup past h).1 n in
    let u = asked_all (IsUnused n (state setup n past).life (points past)) (state setup n past).asking a held.asked_are i in
    record { node_is = u.node_is; life_is = u.life_is }

pub lead_own : (setup : SetupState) (past : List Entry) → IsRun setup past → (n : ℕ) (x : Lead) → IsIn (kept (state setup n past)).leads x → IsOwn n (state setup n past).life x.branch
lead_own setup past h n x i =
    let held : IsHeld n (points past) (held (state setup n past)) = (points_rise setup past h).1 n in
    let u = leads_all (IsHeadOf n (state setup n past).life (points past)) (state setup n past).executions x held.heads_are i in
    record { node_is = u.node_is; life_is = u.life_is }

-- ---- what was asked for

module _ (setup : SetupState) (ok : IsSetup setup) (past : List Entry) (run : IsRun setup past) where
  pub table_hashes : (n : ℕ) → (table_of (state setup n past).log).config.hashes ≡ setup.hashes
  table_hashes n =
      let log = (state setup n past).log in
      let facts = run_facts setup past run in
      subst (λ (c : ConfigState). (table_at c (changes_of log.raft.log) log.acted).config.hashes ≡ setup.hashes) (sym (facts.config n)) (hashes_stay setup log.raft.log log.acted (facts.logs n))

  -- each pair has a current branch
  pub current_some : (n g : ℕ) (key : List ℕ) → g < setup.hashes → is_some (branch_at (history_of setup n past) g key) ≡ true
  current_some n g key lt =
      let log = (state setup n past).log in
      subst (λ (bs : Branches). is_some (branch_at bs g key) ≡ true) (sym (config_is setup past run n)) (some_current setup (changes_of log.raft.log) log.acted g key ok.config lt)

module _ (setup : SetupState) (ok : IsSetup setup) (past : List Entry) (run : IsRun setup past) (maker : NodeId) (b : Id) (r : Region) (based_on : Pieced Id) (origin : Pieced Version)
    (a : Asked setup past maker b r based_on origin) where
  pub asked_run : IsRun setup a.moment
  asked_run = earlier_run setup past a.moment run a.earlier

  pub asked_own : IsOwn maker.0 (state setup maker.0 a.moment).life b
  asked_own = subst (IsOwn maker.0 (state setup maker.0 a.moment).life) a.branch_is (asking_own setup a.moment asked_run maker.0 a.asking a.is_in)

  pub asked_based : (g : ℕ) (key : List ℕ) → g < setup.hashes → in_region r g key ≡ true → value_at based_on.pieces g key ≡ branch_at (history_of setup maker.0 a.moment) g key
  asked_based g key lt inside =
      let t : Table = table_of (state setup maker.0 a.moment).log in
      let hashes = table_hashes setup ok a.moment asked_run maker.0 in
      let wide : g < t.config.hashes = omega (arith, lt, hashes) in
      ap (λ (m : Pieced Id). value_at m.pieces g key) a.based
      ∙ mask_inside same_id id_decides r (current_of t) g key (let e = current_hashes t in omega (arith, wide, e)) inside ∙ current_at t g key wide

  pub asked_origin : (g : ℕ) (key : List ℕ) → g < setup.hashes → in_region r g key ≡ true → value_at origin.pieces g key ≡ value_at (state setup maker.0 a.moment).versions.pieces g key
  asked_origin g key lt inside =
      let s = state setup maker.0 a.moment in
      let hashes = (run_roles setup ok a.moment asked_run maker.0).roles.hashes_are in
      ap (λ (m : Pieced Version). value_at m.pieces g key) a.origin_is
      ∙ mask_inside same_version version_decides r s.versions g key (omega (arith, lt, hashes)) inside

-- ---- how a branch came into a table

each_asked : (setup : SetupState) (past : List Entry) (log : List (LogEntry Change)) → AllByRecursion (λ (e : LogEntry Change). IsAsked setup past e.change) log → (i : ℕ) → IsAsked setup past (change_at (changes_of log) i)
each_asked setup past [] all i = tt
each_asked setup past (x ∷ xs) all zero = all.0
each_asked setup past (x ∷ xs) all (suc i) = each_asked setup past xs all.1 i

pub first_life : (hashes place : ℕ) (ss : List ShardConfig) (older : Branches) (b : Id) → knows (first_branches hashes place ss older) b ≡ true → (knows older b ≡ true) ⊎ (b.life ≡ 1)
first_life hashes place [] older b known = inl known
first_life hashes place (s ∷ ss) older b known =
    elim (first_life hashes (place + 1) ss ((first_id place s, first_birth hashes s) ∷ older) b known) [
      | inl there ↦ elim (same_id (first_id place s) b) as (λ c. same_id (first_id place s) b ≡ c → cond c true (knows older b) ≡ true → (knows older b ≡ true) ⊎ (b.life ≡ 1)) [
        | true ↦ λ t _. inr (ap (λ (i : Id). i.life) (sym (id_same (first_id place s) b t)))
        | false ↦ λ _ f. inl f
      ] refl there
      | inr one ↦ inr one
    ]

-- a primary asked for it, and it was based on the branches that were then the current ones
pub record CameBy (setup : SetupState) (past : List Entry) (b : Id × BranchBirth) (older : Branches) : Type 0 where
  pub maker : NodeId
  pub based_on : Pieced Id
  pub asked : Asked setup past maker b.0 b.1.region based_on b.1.origin
  pub based : (g : ℕ) (key : List ℕ) → g < setup.hashes → in_region b.1.region g key ≡ true → value_at based_on.pieces g key ≡ branch_at older g key

pub came : (setup : SetupState) → IsSetup setup → (past : List Entry) → IsRun setup past → (n : ℕ) (newer older : Branches) (b : Id × BranchBirth) → history_of setup n past ≡ newer ++ b ∷ older
    → (b.0.life ≡ 1) ⊎ CameBy setup past b older
came setup ok past run n newer older b is =
    let log = (state setup n past).log in
    let changes = changes_of log.raft.log in
    elim (comes_from setup ok changes (all_fit setup past run n) log.acted newer older b (sym (config_is setup past run n) ∙ is)) [
      | inl f ↦ elim (first_life setup.hashes 0 setup.shards [] b.0 (subst (λ (l : Branches). knows l b.0 ≡ true) (sym f.1) (knows_one f.0 older b))) [
        | inl none ↦ absurd (cc none)
        | inr one ↦ inl one
      ]
      | inr g ↦ inr (record {
        maker = g.maker;
        based_on = g.based_on;
        asked = subst (IsAsked setup past) g.change_is (each_asked setup past log.raft.log (registered_asked setup ok past run n) g.index);
        based = g.based;
      })
    ]

-- a branch that is known was made in a life that its maker has had
pub known_life : (setup : SetupState) → IsSetup setup → (past : List Entry) → IsRun setup past → (n : ℕ) (b : Id) → knows (history_of setup n past) b ≡ true → b.life ≤ (state setup b.node.0 past).life
known_life setup ok past run n b known =
    let birth = known_birth (history_of setup n past) b known in
    let at = stands (history_of setup n past) b birth.0 birth.1 in
    elim (came setup ok past run n at.newer at.older (b, birth.0) at.is) [
      | inl one ↦ let some = (run_roles setup ok past run b.node.0).roles.life in omega (arith, one, some)
      | inr c ↦
          let own = asked_own setup ok past run c.maker b birth.0.region c.based_on birth.0.origin c.asked in
          let grows = lives_grow setup past c.asked.moment c.asked.earlier c.maker.0 in
          let same : (state setup c.maker.0 past).life ≡ (state setup b.node.0 past).life = ap (λ m. (state setup m past).life) (sym own.node_is) in
          let made = own.life_is in
          omega (arith, made, grows, same)
    ]

-- ---- what is stale

-- once a node writes a branch of its present life, all that it asked for on the pair is stale
pub all_stale : (setup : SetupState) → IsSetup setup → (past : List Entry) → IsRun setup past → (n g : ℕ) (key : List ℕ) → g < setup.hashes
    → (x : Lead) → IsIn (kept (state setup n past)).leads x → in_region x.contract.region g key ≡ true → knows (history_of setup n past) x.branch ≡ true
    → (b : Id) (r : Region) (based_on : Pieced Id) (origin : Pieced Version) → Asked setup past (node_id n) b r based_on origin → in_region r g key ≡ true
    → Stale (history_of setup n past) x.branch b (value_at based_on.pieces g key)
all_stale setup ok past run n g key lt x i has known b r based_on origin a inside =
    let H : Branches = history_of setup n past in
    let then = asked_run setup ok past run (node_id n) b r based_on origin a in
    let now_roles : Roles setup n (kept (state setup n past)) = (run_roles setup ok past run n).roles in
    let then_roles : Roles setup n (kept (state setup n a.moment)) = (run_roles setup ok a.moment then n).roles in
    let asking : IsAsking setup n (state setup n a.moment).life a.asking = all_at (IsAsking setup n (state setup n a.moment).life) (state setup n a.moment).asking then_roles.askings a.asking a.is_in in
    let led : IsLed setup n (state setup n past).life x = all_at (IsLed setup n (state setup n past).life) (kept (state setup n past)).leads now_roles.leads x i in
    let has_too : in_region a.asking.contract.region g key ≡ true = subst (λ (q : Region). in_region q g key ≡ true) (sym a.region_is) inside in
    let grows = lives_grow setup past a.moment a.earlier n in
    let later = asking.later in
    elim (cases_eq (state setup n a.moment).life (state setup n past).life) [
      | inl same ↦ elim led.of [
        | inl one ↦ absurd (omega (arith, one, same, later))
        | inr of ↦
            let few : holders asking_region (asked_from setup n (state setup n past).life) g key ≤ 1 =
            let c = asked_count (node_id n) (state setup n past).life 0 (first_contracts 0 setup.shards) g key in
            let f = contracts_few setup ok g key in
            omega (arith, c, f) in
            let is : role_of x ≡ a.asking =
            one_of_few asking_region (asked_from setup n (state setup n past).life) g key few (role_of x) a.asking of
            (subst (λ life. IsIn (asked_from setup n life) a.asking) same asking.of) has has_too in
            stale_itself H x.branch b (value_at based_on.pieces g key) known (sym a.branch_is ∙ ap (λ (y : Asking). y.branch) (sym is))
      ]
      | inr ne ↦
          let own = lead_own setup past run n x i in
          let unknown : knows (history_of setup n a.moment) x.branch ≡ false =
          false_from_ne_true _ (λ k.
          let l = known_life setup ok a.moment then n x.branch k in
          let at : (state setup x.branch.node.0 a.moment).life ≡ (state setup n a.moment).life = ap (λ m. (state setup m a.moment).life) own.node_is in
          let made = own.life_is in
          ne (omega (arith, l, at, made, grows))) in
          let longer = history_grows setup past a.moment run a.earlier n in
          let v = some_of (branch_at (history_of setup n a.moment) g key) (current_some setup ok a.moment then n g key lt) in
          let based : value_at based_on.pieces g key ≡ Some v.0 = asked_based setup ok past run (node_id n) b r based_on origin a g key lt inside ∙ v.1 in
          subst (λ (l : Branches). Stale l x.branch b (value_at based_on.pieces g key)) (sym longer.is)
          (stale_before longer.newer (history_of setup n a.moment) x.branch b v.0 (value_at based_on.pieces g key)
          (subst (λ (l : Branches). knows l x.branch ≡ true) longer.is known) unknown based (current_known (history_of setup n a.moment) g key v.0 v.1))
    ]
