-- In every run all points of a key lie on the path of the key's branch, in the table that the journal tells.
use Rattle.std.proofs.Common.{◌≡◌, ℕ, zero, suc, ◌+◌, ◌≤◌, ◌<◌, Bool, true, false, cond, ◌&&◌, nat_le, List, [], ◌∷◌, ◌++◌, Some, inl, inr, refl, sym, ap, ◌∙◌, subst, arith, sum}
use Rattle.std.proofs.Math.Nat.{mod-lt}
use Rattle.std.proofs.lemmas.Bool.{cases_Bool, cases_eq, both_ways, le-leb, ltb-true}
use Rattle.std.specs.List.{AllByRecursion}
use Rattle.id_runs.specs.runs.raft_vote.declared.log.LogEntry.{LogEntry}
use Rattle.id_runs.specs.runs.region_map.declared.id.Id.{Id}
use Rattle.id_runs.specs.runs.region_map.declared.region.Region.{Region}
use Rattle.id_runs.specs.runs.region_map.Keys.{hash_of}
use Rattle.id_runs.specs.runs.region_map.Nodes.{node_id}
use Rattle.id_runs.specs.runs.region_map.Regions.{in_region}
use Rattle.id_runs.specs.runs.region_map.Maps.{value_at}
use Rattle.id_runs.specs.runs.region_map.Equal.{same_id}
use Rattle.id_runs.specs.runs.branch_history.declared.version.Version.{Version}
use Rattle.id_runs.specs.runs.branch_history.declared.history.BranchBirth.{BranchBirth}
use Rattle.id_runs.specs.runs.branch_history.Paths.{Branches, is_branch, or_zero, origin_at, is_on, whole}
use Rattle.id_runs.specs.runs.branch_history.Histories.{knows, birth_of, IsHistory}
use Rattle.id_runs.proofs.runs.branch_history.PathLaws.{id_same, id_self}
use Rattle.id_runs.proofs.runs.branch_history.Births.{inside_birth}
use Rattle.id_runs.proofs.runs.branch_history.Grown.{points_stay}
use Rattle.id_runs.specs.runs.contract_types.declared.change.Change.{Change}
use Rattle.id_runs.specs.runs.contract_types.declared.config.ShardConfig.{ShardConfig}
use Rattle.id_runs.specs.runs.contract_types.Configs.{shard_region}
use Rattle.id_runs.specs.runs.contract_types.Tilings.{holders}
use Rattle.id_runs.specs.runs.contract_types.Setup.{SetupState, IsSetup}
use Rattle.id_runs.specs.runs.contract_types.Tables.{Table, branch_at, first_id, first_birth, first_branches, setup as first_table}
use Rattle.id_runs.specs.runs.table_apply.Conditions.{branch_region}
use Rattle.id_runs.specs.runs.table_apply.Runs.{change_at}
use Rattle.id_runs.specs.runs.table_log.Fitting.{changes_of}
use Rattle.id_runs.specs.runs.store_api.Versions.{point}
use Rattle.id_runs.specs.runs.node_core.declared.journal.Entry.{Entry}
use Rattle.id_runs.specs.runs.Run.{state, IsRun}
use Rattle.id_runs.specs.runs.Latest.{told_table}
use Rattle.id_runs.specs.runs.Story.{Point, IsIn, points, same_key, branch_in, is_on_branch, is_on_path, path}
use Rattle.id_runs.proofs.change_runs.Asked.{is_keyed, key_path, Asked, IsAsked, history_of, Stale, LedFacts}
use Rattle.id_runs.proofs.change_runs.AskedRuns.{registered_asked, asked_in}
use Rattle.id_runs.proofs.change_runs.Registered.{IsRegistered, comes_from, not_stale}
use Rattle.id_runs.proofs.step_runs.PointBranches.{all_at, all_from}
use Rattle.id_runs.proofs.step_runs.Runs.{some_hash}
use Rattle.id_runs.proofs.step_runs.Setups.{one_shard}
use Rattle.id_runs.proofs.step_runs.ShardRoles.{HasRoles, setup_roles, member_below}
use Rattle.id_runs.proofs.change_runs.StoredPaths.{filter-same}
use Rattle.id_runs.proofs.change_runs.LedMaps.{some_of}
use Rattle.id_runs.proofs.change_runs.LedHistories.{some_inner, knows_one, newer_apart, birth_known, birth_longer, Stands, older_one, stale_stays}
use Rattle.id_runs.proofs.lead_runs.LedRuns.{config_is, all_fit, is_history}
use Rattle.id_runs.proofs.lead_runs.LedAsked.{current_some}
use Rattle.id_runs.proofs.lead_runs.LedShards.{holder_is}
use Rattle.id_runs.proofs.lead_runs.LedKeys.{led_facts}
use Rattle.path_runs.proofs.OnPathPoints.{IsShort, points_short}
use Rattle.path_runs.proofs.OnPathTables.{tells}

-- ---- the shard of a pair

pub record ShardOf (ss : List ShardConfig) (h : ℕ) (k : List ℕ) : Type 0 where
  pub shard : ShardConfig
  pub is_in : IsIn ss shard
  pub inside : in_region shard.region h k ≡ true

some_shard : (ss : List ShardConfig) (h : ℕ) (k : List ℕ) → 0 < holders shard_region ss h k → ShardOf ss h k
some_shard [] h k l = absurd (omega (arith, l))
some_shard (s ∷ ss) h k l =
    elim (in_region s.region h k) as (λ v. in_region s.region h k ≡ v → 0 < cond v (1 + holders shard_region ss h k) (holders shard_region ss h k) → ShardOf (s ∷ ss) h k) [
      | true ↦ λ e _. record { shard = s; is_in = inl refl; inside = e }
      | false ↦ λ _ m. let r = some_shard ss h k m in record { shard = r.shard; is_in = inr r.is_in; inside = r.inside }
    ] refl l

pub shard_of : (setup : SetupState) → IsSetup setup → (h : ℕ) (k : List ℕ) → h < setup.hashes → ShardOf setup.shards h k
shard_of setup ok h k l =
    some_shard setup.shards h k (elim (cases_eq (holders shard_region setup.shards h k) 0) [
      | inl e ↦ absurd (ok.config.whole (h, k, l, e))
      | inr ne ↦ positive (holders shard_region setup.shards h k) ne
    ])
  where
    positive : (n : ℕ) → (n ≡ 0 → ⊥) → 0 < n
    positive zero f = absurd (f refl)
    positive (suc n) f = omega arith

-- ---- one of the first branches has a pair

count_first : (hashes place : ℕ) (ss : List ShardConfig) (older : Branches) (h : ℕ) (k : List ℕ)
    → holders branch_region (first_branches hashes place ss older) h k ≡ holders shard_region ss h k + holders branch_region older h k
count_first hashes place [] older h k = omega arith
count_first hashes place (s ∷ ss) older h k =
    let more : Branches = first_branches hashes (place + 1) ss ((first_id place s, first_birth hashes s) ∷ older) in
    let o : ℕ = holders branch_region older h k in
    let t : ℕ = holders shard_region ss h k in
    elim (in_region s.region h k) as (λ v. holders branch_region more h k ≡ t + cond v (1 + o) o → holders branch_region more h k ≡ cond v (1 + t) t + o) [
      | true ↦ λ f. omega (arith, f)
      | false ↦ λ f. f
    ] (count_first hashes (place + 1) ss ((first_id place s, first_birth hashes s) ∷ older) h k)

count_one : (newer older : Branches) (b : Id × BranchBirth) (h : ℕ) (k : List ℕ) → in_region b.1.region h k ≡ true → 1 + holders branch_region older h k ≤ holders branch_region (newer ++ b ∷ older) h k
count_one [] older b h k i =
    let o : ℕ = holders branch_region older h k in
    let e : cond (in_region b.1.region h k) (1 + o) o ≡ 1 + o = ap (λ v. cond v (1 + o) o) i in
    omega (arith, e)
count_one (c ∷ newer) older b h k i =
    let rest = count_one newer older b h k i in
    let m : ℕ = holders branch_region (newer ++ b ∷ older) h k in
    elim (in_region c.1.region h k) as (λ v. 1 + holders branch_region older h k ≤ cond v (1 + m) m) [
      | true ↦ omega (arith, rest)
      | false ↦ rest
    ]

pub one_first : (setup : SetupState) → IsSetup setup → (newer older first last : Branches) (b c : Id × BranchBirth) (h : ℕ) (k : List ℕ) → (first_table setup).history ≡ newer ++ b ∷ older → older ≡ first ++ c ∷ last
    → in_region b.1.region h k ≡ true → in_region c.1.region h k ≡ true → ⊥
one_first setup ok newer older first last b c h k is there i j =
    let few = one_shard setup ok h k in
    let all = count_first setup.hashes 0 setup.shards [] h k in
    let whole_is : holders branch_region (first_branches setup.hashes 0 setup.shards []) h k ≡ holders branch_region (newer ++ b ∷ older) h k = ap (λ (bs : Branches). holders branch_region bs h k) is in
    let one = count_one newer older b h k i in
    let two = count_one first last c h k j in
    let older_is : holders branch_region older h k ≡ holders branch_region (first ++ c ∷ last) h k = ap (λ (bs : Branches). holders branch_region bs h k) there in
    let none : holders branch_region [] h k ≡ 0 = refl in
    omega (arith, few, all, whole_is, one, two, older_is, none)

-- ---- the current branch of a pair

pub record Current (bs : Branches) (h : ℕ) (k : List ℕ) (id : Id) : Type 0 where
  pub newer : Branches
  pub older : Branches
  pub birth : BranchBirth
  pub is : bs ≡ newer ++ (id, birth) ∷ older
  pub inside : in_region birth.region h k ≡ true

pub current : (bs : Branches) (h : ℕ) (k : List ℕ) (id : Id) → branch_at bs h k ≡ Some id → Current bs h k id
current [] h k id e = absurd (cc e)
current (b ∷ bs) h k id e =
    elim (in_region b.1.region h k) as (λ v. in_region b.1.region h k ≡ v → cond v (Some b.0) (branch_at bs h k) ≡ Some id → Current (b ∷ bs) h k id) [
      | true ↦ λ i f. record { newer = []; older = bs; birth = b.1; is = λ j. (some_inner b.0 id f j, b.1) ∷ bs; inside = i }
      | false ↦ λ _ f.
          let r = current bs h k id f in
          record { newer = b ∷ r.newer; older = r.older; birth = r.birth; is = ap (λ (l : Branches). b ∷ l) r.is; inside = r.inside }
    ] refl e

pub birth_there : (newer older : Branches) (id : Id) (birth : BranchBirth) → IsHistory (newer ++ (id, birth) ∷ older) → birth_of (newer ++ (id, birth) ∷ older) id ≡ Some birth
birth_there newer older id birth hist =
    birth_longer newer ((id, birth) ∷ older) id (newer_apart newer ((id, birth) ∷ older) id hist (knows_one [] older (id, birth)))
    ∙ ap (λ v. cond v (Some birth) (birth_of older id)) (id_self id)

-- ---- tests of paths

-- up to a later timestamp
up_to : (a b c d r : Bool) → d ≡ true → cond (a && (b && c)) true r ≡ true → cond (a && (b && d)) true r ≡ true
up_to true true c d r e f = ap (λ x. cond x true r) e
up_to true false c d r e f = f
up_to false b c d r e f = f

or_older : (x r : Bool) → r ≡ true → cond x true r ≡ true
or_older true r e = refl
or_older false r e = e

-- ---- the branch of a key

pub each_asked : (setup : SetupState) (past : List Entry) (log : List (LogEntry Change)) → AllByRecursion (λ (e : LogEntry Change). IsAsked setup past e.change) log → (i : ℕ) → IsAsked setup past (change_at (changes_of log) i)
each_asked setup past [] all i = tt
each_asked setup past (x ∷ xs) all zero = all.0
each_asked setup past (x ∷ xs) all (suc i) = each_asked setup past xs all.1 i

module _ (setup : SetupState) (ok : IsSetup setup) (past : List Entry) (run : IsRun setup past) (h : ℕ) (key : List ℕ) (within : h < setup.hashes) (shard : ShardConfig) (i : IsIn setup.shards shard)
    (inside : in_region shard.region h key ≡ true) (l : LedFacts setup past h key shard.primary.0) (n : ℕ) (newer : Branches) (is : history_of setup n past ≡ newer ++ history_of setup shard.primary.0 past)
    (branch : Id) (now : branch_at (history_of setup n past) h key ≡ Some branch) (q : Point) (q_in : IsIn (points past) q) (keyed : is_keyed key q ≡ true) (short : IsShort q)
  where
    hist : IsHistory (history_of setup n past)
    hist = is_history setup past run n

    hist_joined : IsHistory (newer ++ history_of setup shard.primary.0 past)
    hist_joined = subst IsHistory is hist

    on_version : is_on (history_of setup n past) h key l.version (point q.branch q.timestamp) ≡ true
    on_version =
        subst (λ (bs : Branches). is_on bs h key l.version (point q.branch q.timestamp) ≡ true) (sym is)
        (points_stay newer (history_of setup shard.primary.0 past) h key l.version (point q.branch q.timestamp) hist_joined (l.points_on q q_in keyed))

    primary_knows : knows (history_of setup shard.primary.0 past) l.branch ≡ true
    primary_knows = birth_known (history_of setup shard.primary.0 past) l.branch l.birth l.registered

    registered : birth_of (history_of setup n past) l.branch ≡ Some l.birth
    registered =
        ap (λ (bs : Branches). birth_of bs l.branch) is
        ∙ birth_longer newer (history_of setup shard.primary.0 past) l.branch (newer_apart newer (history_of setup shard.primary.0 past) l.branch hist_joined primary_knows) ∙ l.registered

    -- it is the one of the primary's version
    own : is_on (history_of setup n past) h key (whole l.branch) (point q.branch q.timestamp) ≡ true
    own =
        let bs : Branches = history_of setup n past in
        let x : Version = point q.branch q.timestamp in
        let v = inside_birth bs h key l.branch l.birth l.version x hist registered l.branch_is l.inside in
        let w = inside_birth bs h key l.branch l.birth (whole l.branch) x hist registered refl l.inside in
        w
        ∙ up_to (is_branch x l.branch) (nat_le l.birth.initial x.timestamp) (nat_le x.timestamp l.version.timestamp) (nat_le x.timestamp 18446744073709551615) (is_on bs h key (origin_at l.birth h key) x)
        (le-leb q.timestamp 18446744073709551615 short) (sym v ∙ on_version)

    -- or it was registered later, and goes on from that version
    later : (branch ≡ l.branch → ⊥) → is_on (history_of setup n past) h key (whole branch) (point q.branch q.timestamp) ≡ true
    later apart =
        let bs : Branches = history_of setup n past in
        let x : Version = point q.branch q.timestamp in
        let log = (state setup n past).log in
        let c : Current bs h key branch = current bs h key branch now in
        let b : Id × BranchBirth = (branch, c.birth) in
        let table_is = config_is setup past run n in
        let s : Stands c.older l.branch l.birth =
        older_one c.newer c.older b h key l.branch l.birth (subst IsHistory c.is hist) (ap (λ (l : Branches). branch_at l h key) (sym c.is) ∙ now) (ap (λ (l' : Branches). birth_of l' l.branch) (sym c.is) ∙ registered)
        l.inside apart in
        elim (comes_from setup ok (changes_of log.raft.log) (all_fit setup past run n) log.acted c.newer c.older b (sym table_is ∙ c.is)) [
          | inl f ↦ absurd (one_first setup ok f.0 c.older s.newer s.older b (l.branch, l.birth) h key f.1 s.is c.inside l.inside)
          | inr g ↦ goes_on c s g
        ]
      where
        goes_on : (c : Current (history_of setup n past) h key branch) → Stands c.older l.branch l.birth
            → IsRegistered setup (changes_of (state setup n past).log.raft.log) (state setup n past).log.acted (branch, c.birth) c.older
            → is_on (history_of setup n past) h key (whole branch) (point q.branch q.timestamp) ≡ true
        goes_on c s g =
            let bs : Branches = history_of setup n past in
            let x : Version = point q.branch q.timestamp in
            let log = (state setup n past).log in
            let asked : Asked setup past g.maker branch c.birth.region g.based_on c.birth.origin =
            subst (IsAsked setup past) g.change_is (each_asked setup past log.raft.log (registered_asked setup ok past run n) g.index) in
            let maker = asked_in setup ok past run g.maker branch c.birth.region g.based_on c.birth.origin asked in
            let has : in_region maker.contract.region h key ≡ true = subst (λ (r : Region). in_region r h key ≡ true) (sym maker.region_is) c.inside in
            let who : shard.primary.0 ≡ g.maker.0 = holder_is setup ok shard i h key inside maker.contract g.maker.0 maker.led.known has maker.led.held_by in
            let of_p : Asked setup past (node_id shard.primary.0) branch c.birth.region g.based_on c.birth.origin =
            subst (λ m. Asked setup past (node_id m) branch c.birth.region g.based_on c.birth.origin) (sym who) asked in
            elim (l.asked branch c.birth.region g.based_on c.birth.origin of_p c.inside) [
              | inl from ↦
                  let origin : is_on bs h key (origin_at c.birth h key) x ≡ true = subst (λ (v : Version). is_on bs h key v x ≡ true) (sym (ap or_zero from)) on_version in
                  let there_is : birth_of bs branch ≡ Some c.birth = ap (λ (l : Branches). birth_of l branch) c.is ∙ birth_there c.newer c.older branch c.birth (subst IsHistory c.is hist) in
                  inside_birth bs h key branch c.birth (whole branch) x hist there_is refl c.inside
                  ∙ or_older (is_branch x branch && (nat_le c.birth.initial x.timestamp && nat_le x.timestamp 18446744073709551615)) (is_on bs h key (origin_at c.birth h key) x) origin
              | inr stale ↦ absurd (refuted c s g stale)
            ]
          where
            refuted : (c : Current (history_of setup n past) h key branch) → Stands c.older l.branch l.birth
                → (g : IsRegistered setup (changes_of (state setup n past).log.raft.log) (state setup n past).log.acted (branch, c.birth) c.older)
                → Stale (history_of setup shard.primary.0 past) l.branch branch (value_at g.based_on.pieces h key) → ⊥
            refuted c s g stale =
                let log = (state setup n past).log in
                let table_is = config_is setup past run n in
                let based = value_at g.based_on.pieces h key in
                let joined = stale_stays newer (history_of setup shard.primary.0 past) l.branch branch based hist_joined primary_knows stale in
                not_stale setup ok (changes_of log.raft.log) (all_fit setup past run n) log.acted c.newer c.older (branch, c.birth) h key l.branch l.birth based (sym table_is ∙ c.is) c.inside s.newer s.older s.is
                l.inside (sym (g.based h key within c.inside)) (subst (λ (bs : Branches). Stale bs l.branch branch based) (sym is ∙ table_is) joined)

    on_branch : is_on (history_of setup n past) h key (whole branch) (point q.branch q.timestamp) ≡ true
    on_branch =
        elim (cases_Bool (same_id branch l.branch)) [
          | inl same ↦ subst (λ (b : Id). is_on (history_of setup n past) h key (whole b) (point q.branch q.timestamp) ≡ true) (sym (id_same branch l.branch same)) own
          | inr other ↦ later (λ same. both_ways (same_id branch l.branch) other (subst (λ (b : Id). same_id branch b ≡ true) same (id_self branch)))
        ]

-- ---- all points of a key

pub all_on_path : (setup : SetupState) → IsSetup setup → (past : List Entry) → IsRun setup past → (key : List ℕ) → path setup past key ≡ key_path past key
all_on_path setup ok past run key =
    let h : ℕ = hash_of key setup.hashes in
    let within : h < setup.hashes = mod-lt (sum key) (some_hash setup ok) in
    let s = shard_of setup ok h key within in
    let p : ℕ = s.shard.primary.0 in
    let roles : HasRoles setup.nodes s.shard = all_at (HasRoles setup.nodes) setup.shards (setup_roles setup ok) s.shard s.is_in in
    let t = tells setup past run p (ltb-true p setup.nodes (member_below setup.nodes s.shard.replicas p roles.replicas roles.primary)) in
    let c = some_of (branch_at (history_of setup t.n past) h key) (current_some setup ok past run t.n h key within) in
    let l = led_facts setup ok past run key s.shard s.is_in s.inside in
    filter-same (IsIn (points past)) (is_on_path setup (told_table setup past) key) (is_keyed key)
    (λ q i. test (told_table setup past) (history_of setup t.n past) c.0 q t.told c.1
    (λ keyed. on_branch setup ok past run h key within s.shard s.is_in s.inside l t.n t.newer t.is c.0 c.1 q i keyed (all_at IsShort (points past) (points_short setup past run) q i)))
    (points past) (all_from (IsIn (points past)) (points past) (λ q i. i))
  where
    test : (t : Table) (bs : Branches) (branch : Id) (q : Point) → t.history ≡ bs → branch_at bs (hash_of key setup.hashes) key ≡ Some branch
        → (is_keyed key q ≡ true → is_on bs (hash_of key setup.hashes) key (whole branch) (point q.branch q.timestamp) ≡ true) → is_on_path setup t key q ≡ is_keyed key q
    test t bs branch q is now on =
        let v : Version = point q.branch q.timestamp in
        elim (same_key q.key key) as (λ b. same_key q.key key ≡ b → (b && is_on_branch setup t key (branch_in setup t key) v) ≡ b) [
          | true ↦ λ e.
              ap (λ o. is_on_branch setup t key o v) (ap (λ (l : Branches). branch_at l (hash_of key setup.hashes) key) is ∙ now)
              ∙ ap (λ (l : Branches). is_on l (hash_of key setup.hashes) key (whole branch) v) is ∙ on e
          | false ↦ λ _. refl
        ] refl
