-- The branches of a key in a run, and where they come from: the table begins with one, and each other one was asked for.
use Rattle.std.proofs.Common.{◌≡◌, ◌⊎◌, ℕ, ◌+◌, ◌≤◌, ◌<◌, true, false, cond, ◌&&◌, nat_le, List, [], ◌∷◌, ◌++◌, length, Option, Some, None, inl, inr, refl, sym, ap, ◌∙◌, subst, arith, append_assoc}
use Rattle.std.proofs.lemmas.Bool.{cases_Bool, cases_lt, both_ways, and_from, le-leb}
use Rattle.std.specs.List.{AllByRecursion}
use Rattle.path_facts.specs.Paths.{Birth}
use Rattle.path_facts.specs.Paths as paths
use Rattle.key_births.specs.Births.{key_version, birth_at, births_at, IsRising, GoOn}
use Rattle.key_births.proofs.Births.{births_known, births_index, history_at, paths_at}
use Rattle.row_runs.specs.runs.region_map.declared.id.Id.{Id}
use Rattle.row_runs.specs.runs.region_map.declared.id.NodeId.{NodeId}
use Rattle.row_runs.specs.runs.region_map.declared.region.Region.{Region}
use Rattle.row_runs.specs.runs.region_map.Keys.{hash_of}
use Rattle.row_runs.specs.runs.region_map.Regions.{in_region}
use Rattle.row_runs.specs.runs.region_map.Maps.{Pieced, value_at}
use Rattle.row_runs.specs.runs.region_map.Equal.{same_id}
use Rattle.row_runs.specs.runs.branch_history.declared.version.Version.{Version}
use Rattle.row_runs.specs.runs.branch_history.declared.history.BranchBirth.{BranchBirth}
use Rattle.row_runs.specs.runs.branch_history.Paths.{Branches, branch_is, is_branch, zero, or_zero, origin_at, is_on}
use Rattle.row_runs.specs.runs.branch_history.Histories.{knows, IsHistory}
use Rattle.row_runs.proofs.runs.branch_history.PathLaws.{id_self, zero_on}
use Rattle.row_runs.proofs.runs.branch_history.Births.{origin_known, inside_birth}
use Rattle.row_runs.proofs.runs.branch_history.Grown.{paths_stay, points_stay}
use Rattle.row_runs.specs.runs.contract_types.declared.change.Change.{Change}
use Rattle.row_runs.specs.runs.contract_types.declared.contract.Contract.{Contract}
use Rattle.row_runs.specs.runs.contract_types.declared.config.ShardConfig.{ShardConfig}
use Rattle.row_runs.specs.runs.contract_types.Setup.{SetupState, IsSetup}
use Rattle.row_runs.specs.runs.contract_types.Tables.{branch_at, first_id, first_birth, first_branches, setup as first_table}
use Rattle.row_runs.specs.runs.table_apply.Runs.{change_at, table_at}
use Rattle.row_runs.proofs.runs.table_apply.Tables.{histories}
use Rattle.row_runs.proofs.runs.table_log.Holding.{fits_is}
use Rattle.row_runs.specs.runs.node_core.declared.journal.Entry.{Entry}
use Rattle.row_runs.specs.runs.Latest.{told_table}
use Rattle.row_runs.specs.runs.Run.{state, IsRun}
use Rattle.row_runs.specs.runs.Story.{IsIn}
use Rattle.row_runs.specs.runs.Committed.{IsEarlier}
use Rattle.row_runs.proofs.change_runs.LedHistories.{knows_one}
use Rattle.row_runs.proofs.change_runs.Asked.{Asked, IsAsked, history_of}
use Rattle.row_runs.proofs.change_runs.AskedRuns.{asked_in}
use Rattle.row_runs.proofs.change_runs.Registered.{comes_from}
use Rattle.row_runs.proofs.step_runs.PointBranches.{all_at}
use Rattle.row_runs.proofs.step_runs.Told.{IsIn-right}
use Rattle.row_runs.proofs.lead_runs.LedAsked.{asked_origin}
use Rattle.row_runs.proofs.lead_runs.LedKeys.{led_facts}
use Rattle.row_runs.proofs.lead_runs.LedRuns.{Longer, table_longer, earlier_run, is_history}
use Rattle.row_runs.proofs.lead_runs.LedShards.{holder_is}
use Rattle.row_runs.proofs.path_runs.OnPath.{one_first}
use Rattle.answer_runs.proofs.ServedTenures.{is_first}
use Rattle.fact_runs.specs.KeyRuns.{told_changes, told_index, key_run}
use Rattle.fact_runs.proofs.ToldLog.{told_fits, told_asked, told_history, history_told, views_then}
use Rattle.fact_runs.proofs.Indexes.{index_upto, known_from}
use Rattle.fact_runs.proofs.Contracts.{hash_within, key_first, told_contracts}

-- ---- the branches of a pair among those of a history

-- a branch of the pair, and where it stands
pub record Born (index : Id → ℕ) (bs : Branches) (h : ℕ) (k : List ℕ) (y : Birth Id) : Type 0 where
  pub id : Id
  pub birth : BranchBirth
  pub newer : Branches
  pub older : Branches
  pub is : bs ≡ newer ++ (id, birth) ∷ older
  pub inside : in_region birth.region h k ≡ true
  pub birth_is : y ≡ birth_at index (id, birth) h k

pub born : (index : Id → ℕ) (bs : Branches) (h : ℕ) (k : List ℕ) (y : Birth Id) → paths.IsIn (births_at index bs h k) y → Born index bs h k y
born index [] h k y i = absurd i
born index (b ∷ bs) h k y i =
    let later : paths.IsIn (births_at index bs h k) y → Born index (b ∷ bs) h k y = λ j.
    let r = born index bs h k y j in
    record { id = r.id; birth = r.birth; newer = b ∷ r.newer; older = r.older; is = ap (λ (l : Branches). b ∷ l) r.is; inside = r.inside; birth_is = r.birth_is } in
    elim (cases_Bool (in_region b.1.region h k)) [
      | inr out ↦ later (subst (λ c. paths.IsIn (cond c (birth_at index b h k ∷ births_at index bs h k) (births_at index bs h k)) y) out i)
      | inl here ↦ elim (subst (λ c. paths.IsIn (cond c (birth_at index b h k ∷ births_at index bs h k) (births_at index bs h k)) y) here i) [
        | inl e ↦ record { id = b.0; birth = b.1; newer = []; older = bs; is = refl; inside = here; birth_is = sym e }
        | inr j ↦ later j
      ]
    ]

pub births_in : (index : Id → ℕ) (newer older : Branches) (b : Id × BranchBirth) (h : ℕ) (k : List ℕ) → in_region b.1.region h k ≡ true → paths.IsIn (births_at index (newer ++ b ∷ older) h k) (birth_at index b h k)
births_in index [] older b h k inside =
    subst (λ c. paths.IsIn (cond c (birth_at index b h k ∷ births_at index older h k) (births_at index older h k)) (birth_at index b h k)) (sym inside) (inl refl)
births_in index (n ∷ newer) older b h k inside =
    let rest = births_in index newer older b h k inside in
    let all = births_at index (newer ++ b ∷ older) h k in
    elim (in_region n.1.region h k) as (λ c. paths.IsIn (cond c (birth_at index n h k ∷ all) all) (birth_at index b h k)) [ true ↦ inr rest | false ↦ rest ]

-- ---- the branches with which a table begins

-- one of them is that of a shard, made by the shard's primary in its first life, and goes on from nothing
pub record IsFirst (hashes : ℕ) (shards : List ShardConfig) (b : Id × BranchBirth) : Type 0 where
  pub shard : ShardConfig
  pub is_in : IsIn shards shard
  pub region_is : b.1.region ≡ shard.region
  pub maker_is : b.0.node ≡ shard.primary
  pub life_is : b.0.life ≡ 1
  pub tenure_is : b.1.tenure ≡ 0
  pub origin_is : (h : ℕ) (k : List ℕ) → origin_at b.1 h k ≡ zero

first_all : (hashes place : ℕ) (shards ss : List ShardConfig) (older : Branches) → ((s : ShardConfig) → IsIn ss s → IsIn shards s) → AllByRecursion (IsFirst hashes shards) older
    → AllByRecursion (IsFirst hashes shards) (first_branches hashes place ss older)
first_all hashes place shards [] older of h = h
first_all hashes place shards (s ∷ ss) older of h =
    let first : Id × BranchBirth = (first_id place s, first_birth hashes s) in
    let here : IsFirst hashes shards first = record {
      shard = s;
      is_in = of s (inl refl);
      region_is = refl;
      maker_is = refl;
      life_is = refl;
      tenure_is = refl;
      origin_is = λ g k. elim (in_region s.region g k) as (λ c. or_zero (cond c (Some zero) None) ≡ zero) [ true ↦ refl | false ↦ refl ];
    } in
    first_all hashes (place + 1) shards ss (first ∷ older) (λ t i. of t (inr i)) (here, h)

-- ---- the branches of a run

module _ (setup : SetupState) (ok : IsSetup setup) (past : List Entry) (run : IsRun setup past) where
  abbrev changes : List Change
  changes = told_changes setup past

  abbrev last : ℕ
  last = length (told_changes setup past)

  abbrev H : ℕ → Branches
  H w = (table_at setup (told_changes setup past) w).history

  pub whole_history : IsHistory (table_at setup (told_changes setup past) (length (told_changes setup past))).history
  whole_history = histories setup changes last (λ i. fits_is setup.hashes (change_at changes i) (told_fits setup ok past run i))

  first_branch : (newer older : Branches) (b : Id × BranchBirth) → (first_table setup).history ≡ newer ++ b ∷ older → IsFirst setup.hashes setup.shards b
  first_branch newer older b is =
      all_at (IsFirst setup.hashes setup.shards) (first_branches setup.hashes 0 setup.shards []) (first_all setup.hashes 0 setup.shards setup.shards [] (λ s i. i) tt) b
      (subst (λ (bs : Branches). IsIn bs b) (sym is) (IsIn-right newer (b ∷ older) b (inl refl)))

  -- a change registered it, as its maker had asked
  pub record Came (b : Id × BranchBirth) (older : Branches) : Type 0 where
    pub index : ℕ
    pub older_is : older ≡ (table_at setup (told_changes setup past) index).history
    pub before : index < length (told_changes setup past)
    pub maker : NodeId
    pub based_on : Pieced Id
    pub asked : Asked setup past maker b.0 b.1.region based_on b.1.origin
    pub based : (h : ℕ) (k : List ℕ) → h < setup.hashes → in_region b.1.region h k ≡ true → value_at based_on.pieces h k ≡ branch_at older h k
    pub tenure_is : b.1.tenure ≡ 0

  pub comes : (newer older : Branches) (b : Id × BranchBirth) → (table_at setup (told_changes setup past) (length (told_changes setup past))).history ≡ newer ++ b ∷ older
      → ((rest : Branches) × ((first_table setup).history ≡ rest ++ b ∷ older) × IsFirst setup.hashes setup.shards b) ⊎ Came b older
  comes newer older b is =
      elim (comes_from setup ok changes (told_fits setup ok past run) last newer older b is) [
        | inl f ↦ inl (f.0, f.1, first_branch f.0 older b f.1)
        | inr r ↦ inr (record {
          index = r.index;
          older_is = r.older_is;
          before = r.before;
          maker = r.maker;
          based_on = r.based_on;
          asked = subst (IsAsked setup past) r.change_is (told_asked setup ok past run r.index);
          based = r.based;
          tenure_is =
              let c = is_first 0 setup.shards r.contract (subst (λ (cs : List Contract). IsIn cs r.contract) (told_contracts setup ok past run r.index) r.current) in
              r.tenure_is ∙ sym r.of_tenure ∙ c.tenure_is;
        })
      ]

  -- what an index knows is no later there
  older_index : (b : Id × BranchBirth) (older : Branches) (c : Came b older) (z : Id) → knows older z ≡ true → told_index setup past z ≤ c.index
  older_index b older c z k =
      let low = c.before in
      index_upto setup changes last c.index z (omega (arith, low)) (subst (λ (bs : Branches). knows bs z ≡ true) c.older_is k)

  history_rest : (newer bs : Branches) → IsHistory (newer ++ bs) → IsHistory bs
  history_rest [] bs h = h
  history_rest (n ∷ newer) bs h = history_rest newer bs h.3

  rest_history : (newer bs : Branches) → H last ≡ newer ++ bs → IsHistory bs
  rest_history newer bs is = history_rest newer bs (subst IsHistory is whole_history)

  -- a branch that a change registered has an index behind those that were there
  after_older : (newer older : Branches) (b : Id × BranchBirth) → H last ≡ newer ++ b ∷ older → (c : Came b older) → c.index < told_index setup past b.0
  after_older newer older b is c =
      let fresh = (rest_history newer (b ∷ older) is).0 in
      let known : knows (H last) b.0 ≡ true = subst (λ (bs : Branches). knows bs b.0 ≡ true) (sym is) (knows_one newer older b) in
      elim (cases_lt c.index (told_index setup past b.0)) [
        | inl behind ↦ behind
        | inr within ↦ absurd (both_ways (knows older b.0) fresh
            (subst (λ (bs : Branches). knows bs b.0 ≡ true) (sym c.older_is) (known_from setup changes last c.index b.0 known within)))
      ]

  module _ (h : ℕ) (k : List ℕ) (within : h < setup.hashes) where
    -- two of the first branches have no pair in common
    alone : (older rest : Branches) (b : Id × BranchBirth) → (first_table setup).history ≡ rest ++ b ∷ older → in_region b.1.region h k ≡ true → (z : Birth Id) → paths.IsIn (births_at (told_index setup past) older h k) z → ⊥
    alone older rest b is inside z i =
        let r = born (told_index setup past) older h k z i in
        one_first setup ok rest older r.newer r.older b (r.id, r.birth) h k is r.is inside r.inside

    rises : (newer bs : Branches) → H last ≡ newer ++ bs → IsRising (told_index setup past) bs h k
    rises newer [] is = tt
    rises newer (b ∷ bs) is = (here, rises (newer ++ b ∷ []) bs (is ∙ sym (append_assoc newer (b ∷ []) bs)))
      where
        here : in_region b.1.region h k ≡ true → (z : Birth Id) → paths.IsIn (births_at (told_index setup past) bs h k) z → z.registered < told_index setup past b.0
        here inside z i =
            elim (comes newer bs b is) [
              | inl f ↦ absurd (alone bs f.0 b f.1 inside z i)
              | inr c ↦
                  let low = older_index b bs c z.branch (births_known (told_index setup past) bs h k z i) in
                  let high = after_older newer bs b is c in
                  let same = births_index (told_index setup past) bs h k z i in
                  omega (arith, low, high, same)
            ]

  -- the history of a node at a moment is a part of that of the log
  pub told_longer : (m : List Entry) → IsEarlier past m → (n : ℕ) → Longer (history_of setup n m) (table_at setup (told_changes setup past) (length (told_changes setup past))).history
  told_longer m early n =
      let more = table_longer setup changes last (state setup n m).log.acted (views_then setup ok past run m early n) in
      record { newer = more.newer; is = more.is ∙ ap (λ (bs : Branches). more.newer ++ bs) (sym (history_told setup ok past run m early n)) }

  module _ (key : List ℕ) where
    abbrev g : ℕ
    g = hash_of key setup.hashes

    -- who leads the key asks for its branches
    pub asker_is : (b : Id × BranchBirth) (older : Branches) → in_region b.1.region (hash_of key setup.hashes) key ≡ true → (c : Came b older) → (key_first setup ok past run key).shard.primary.0 ≡ c.maker.0
    asker_is b older inside c =
        let f = key_first setup ok past run key in
        let maker = asked_in setup ok past run c.maker b.0 b.1.region c.based_on b.1.origin c.asked in
        let has : in_region maker.contract.region g key ≡ true = subst (λ (r : Region). in_region r g key ≡ true) (sym maker.region_is) inside in
        holder_is setup ok f.shard f.is_in g key f.inside maker.contract c.maker.0 maker.led.known has maker.led.held_by

    -- and has the version of the key from which its branch goes on
    on_older : (newer older : Branches) (b : Id × BranchBirth) → H last ≡ newer ++ b ∷ older → in_region b.1.region g key ≡ true → (c : Came b older)
        → is_on older g key (origin_at b.1 g key) (origin_at b.1 g key) ≡ true
    on_older newer older b is inside c =
        let f = key_first setup ok past run key in
        let within = hash_within setup ok past run key in
        let who = asker_is b older inside c in
        let m : List Entry = c.asked.moment in
        let early = c.asked.earlier in
        let l = led_facts setup ok m (earlier_run setup past m run early) key f.shard f.is_in f.inside in
        let from : value_at b.1.origin.pieces g key ≡ Some l.version =
        asked_origin setup ok past run c.maker b.0 b.1.region c.based_on b.1.origin c.asked g key within inside
        ∙ ap (λ n. value_at (state setup n m).versions.pieces g key) (sym who) ∙ l.version_is in
        let o : Version = origin_at b.1 g key in
        let is_version : o ≡ l.version = ap or_zero from in
        let own : Branches = history_of setup f.shard.primary.0 m in
        let own_history = is_history setup m (earlier_run setup past m run early) f.shard.primary.0 in
        let more = told_longer m early f.shard.primary.0 in
        let there : is_on own g key l.version l.version ≡ true =
        inside_birth own g key l.branch l.birth l.version l.version own_history l.registered l.branch_is l.inside
        ∙ ap (λ v. cond v true (is_on own g key (origin_at l.birth g key) l.version))
        (and_from (is_branch l.version l.branch) (nat_le l.birth.initial l.version.timestamp && nat_le l.version.timestamp l.version.timestamp)
        (ap (λ (o : Option Id). branch_is o l.branch) l.branch_is ∙ id_self l.branch)
        (and_from (nat_le l.birth.initial l.version.timestamp) (nat_le l.version.timestamp l.version.timestamp) (le-leb l.birth.initial l.version.timestamp l.initial)
        (le-leb l.version.timestamp l.version.timestamp (omega arith)))) in
        let in_all : is_on (H last) g key o o ≡ true =
        subst (λ (v : Version). is_on (H last) g key v v ≡ true) (sym is_version)
        (subst (λ (bs : Branches). is_on bs g key l.version l.version ≡ true) (sym more.is) (points_stay more.newer own g key l.version l.version (subst IsHistory more.is whole_history) there)) in
        let split : H last ≡ (newer ++ b ∷ []) ++ older = is ∙ sym (append_assoc newer (b ∷ []) older) in
        sym (paths_stay (newer ++ b ∷ []) older g key o o (subst IsHistory split whole_history) (origin_known older b.1.origin.pieces g key (rest_history newer (b ∷ older) is).1))
        ∙ subst (λ (bs : Branches). is_on bs g key o o ≡ true) split in_all

    goes_on : (newer bs : Branches) → H last ≡ newer ++ bs → GoOn bs g key
    goes_on newer [] is = tt
    goes_on newer (b ∷ bs) is = (here, goes_on (newer ++ b ∷ []) bs (is ∙ sym (append_assoc newer (b ∷ []) bs)))
      where
        here : in_region b.1.region g key ≡ true → is_on bs g key (origin_at b.1 g key) (origin_at b.1 g key) ≡ true
        here inside =
            elim (comes newer bs b is) [
              | inl f ↦ subst (λ (v : Version). is_on bs g key v v ≡ true) (sym (f.2.origin_is g key)) (zero_on bs g key zero)
              | inr c ↦ on_older newer bs b is inside c
            ]

    -- the branches of the key are those of the whole log
    pub births_are : (key_run setup past key).births ≡ births_at (told_index setup past) (table_at setup (told_changes setup past) (length (told_changes setup past))).history (hash_of key setup.hashes) key
    births_are = ap (λ (bs : Branches). births_at (told_index setup past) bs g key) (told_history setup ok past run)

    pub key_history : paths.IsHistory same_id (key_run setup past key).births
    key_history =
        subst (paths.IsHistory same_id) (sym births_are)
        (history_at (told_index setup past) (H last) g key whole_history (goes_on [] (H last) refl) (rises g key (hash_within setup ok past run key) [] (H last) refl))

    pub key_born : (y : Birth Id) → paths.IsIn (key_run setup past key).births y
        → Born (told_index setup past) (table_at setup (told_changes setup past) (length (told_changes setup past))).history (hash_of key setup.hashes) key y
    key_born y i = born (told_index setup past) (H last) g key y (subst (λ (ys : List (Birth Id)). paths.IsIn ys y) births_are i)

-- the paths of the table that is told, and those of the run at the key
pub paths_told : (setup : SetupState) → IsSetup setup → (past : List Entry) → IsRun setup past → (key : List ℕ) (v x : Version)
    → is_on (told_table setup past).history (hash_of key setup.hashes) key v x ≡ paths.on same_id (key_run setup past key).births (key_version v) (key_version x)
paths_told setup ok past run key v x =
    paths_at (told_index setup past) (told_table setup past).history (hash_of key setup.hashes) key v x (subst IsHistory (sym (told_history setup ok past run)) (whole_history setup ok past run))
