-- The versions of a key in a run: of which branches they are, and that they go forward.
use Rattle.std.proofs.Common.{◌≡◌, ℕ, zero, suc, ◌+◌, ◌≤◌, ◌<◌, true, false, cond, ◌&&◌, List, [], ◌∷◌, ◌++◌, length, Option, Some, None, is_some, inl, inr, refl, sym, ap, ◌∙◌, subst, arith, append_assoc}
use Rattle.std.proofs.lemmas.Bool.{cases_eq, and_parts, eqb-true}
use Rattle.std.specs.List.{AllByRecursion}
use Rattle.path_facts.specs.Paths.{Birth}
use Rattle.path_facts.specs.Paths as paths
use Rattle.path_facts.specs.Runs.{StaysReplica}
use Rattle.path_facts.specs.Invariant.{IsOfBranch, GoesOn, Facts}
use Rattle.path_facts.proofs.Lives.{registered_later}
use Rattle.key_births.specs.Births.{key_version, birth_at, births_at}
use Rattle.row_runs.specs.runs.region_map.declared.id.Id.{Id}
use Rattle.row_runs.specs.runs.region_map.Keys.{hash_of}
use Rattle.row_runs.specs.runs.region_map.Regions.{in_region}
use Rattle.row_runs.specs.runs.region_map.Maps.{value_at}
use Rattle.row_runs.specs.runs.branch_history.declared.version.Version.{Version}
use Rattle.row_runs.specs.runs.branch_history.declared.history.BranchBirth.{BranchBirth}
use Rattle.row_runs.specs.runs.branch_history.Paths.{Branches, or_zero}
use Rattle.row_runs.specs.runs.branch_history.Histories.{birth_of}
use Rattle.row_runs.proofs.runs.branch_history.PathLaws.{version_same}
use Rattle.row_runs.specs.runs.contract_types.declared.config.ShardConfig.{ShardConfig}
use Rattle.row_runs.specs.runs.contract_types.Configs.{shard_region}
use Rattle.row_runs.specs.runs.contract_types.Setup.{SetupState, IsSetup}
use Rattle.row_runs.specs.runs.store_api.Versions.{point, version_of}
use Rattle.row_runs.specs.runs.table_apply.Runs.{table_at}
use Rattle.row_runs.specs.runs.node_core.declared.journal.Entry.{Entry}
use Rattle.row_runs.specs.runs.node_core.Step.{is_led}
use Rattle.row_runs.specs.runs.Committed.{IsEarlier}
use Rattle.row_runs.specs.runs.Latest.{told_table}
use Rattle.row_runs.specs.runs.Run.{state, IsRun}
use Rattle.row_runs.specs.runs.Stored.{Begun, Synced, Taken}
use Rattle.row_runs.specs.runs.Stored as stored_words
use Rattle.row_runs.specs.runs.Story.{Point, IsIn, points}
use Rattle.row_runs.proofs.change_runs.Asked.{history_of}
use Rattle.row_runs.proofs.change_runs.LedHistories.{some_inner, stands}
use Rattle.row_runs.proofs.change_runs.StoredPaths.{IsReachedBy}
use Rattle.row_runs.proofs.key_runs.KeyedRoles.{led}
use Rattle.row_runs.proofs.step_runs.PointBranches.{all_at}
use Rattle.row_runs.proofs.step_runs.Setups.{one_shard}
use Rattle.row_runs.proofs.lead_runs.LedRoles.{one_of_few}
use Rattle.row_runs.proofs.lead_runs.LedRuns.{run_roles}
use Rattle.row_runs.proofs.path_runs.OnPathPoints.{IsShort, points_short}
use Rattle.row_runs.proofs.path_runs.OnPathTables.{tells}
use Rattle.row_runs.proofs.StoredFirsts.{some_node}
use Rattle.row_runs.proofs.StoredLaws.{has_version, stored_version}
use Rattle.row_runs.proofs.StoredRuns.{run_kept}
use Rattle.row_runs.proofs.StoredSetups.{Away}
use Rattle.durability_laws.proofs.Reached.{forward}
use Rattle.fact_runs.specs.KeyRuns.{moment, told_changes, told_index, key_run}
use Rattle.fact_runs.proofs.Moments.{moment_earlier, moments_follow, moment_run}
use Rattle.fact_runs.proofs.Contracts.{hash_within, key_first, voters_are_replicas, second_are_replicas, primary_is_replica, voters_stay, primaries_stay, primaries_are_elected}
use Rattle.fact_runs.proofs.Branches.{births_are, births_in, told_longer}
use Rattle.fact_runs.proofs.Makers.{tenure_0, life_of, log_facts}
use Rattle.fact_runs.proofs.Climbing.{Rises, Same, Newer, climbs_to, stays_short}
use Rattle.fact_runs.proofs.Views.{views_grow, views_within, lives_follow}

-- ---- who leads a key

positive : (n : ℕ) → (n ≡ 0 → ⊥) → 1 ≤ n
positive zero f = absurd (f refl)
positive (suc n) f = omega arith

leads_shard : (n : ℕ) (ss : List ShardConfig) (h : ℕ) (k : List ℕ) → 1 ≤ led n ss h k → (s : ShardConfig) × IsIn ss s × (s.primary.0 ≡ n) × (in_region s.region h k ≡ true)
leads_shard n [] h k l = absurd (omega (arith, l))
leads_shard n (s ∷ ss) h k l =
    elim (is_led n s && in_region s.region h k) as (λ c. (is_led n s && in_region s.region h k) ≡ c → 1 ≤ cond c 1 0 + led n ss h k
    → (x : ShardConfig) × IsIn (s ∷ ss) x × (x.primary.0 ≡ n) × (in_region x.region h k ≡ true)) [
      | true ↦ λ e _. let both = and_parts (is_led n s) (in_region s.region h k) e in (s, inl refl, eqb-true s.primary.0 n both.0, both.1)
      | false ↦ λ _ m. let r = leads_shard n ss h k (omega (arith, m)) in (r.0, inr r.1, r.2, r.3)
    ] refl l

-- ---- one moment

module _ (setup : SetupState) (ok : IsSetup setup) (m : List Entry) (run : IsRun setup m) (q : ℕ) (key : List ℕ) where
  -- a node has a version of each key
  record Has : Type 0 where
    v : Version
    at : value_at (state setup q m).versions.pieces (hash_of key setup.hashes) key ≡ Some v
    of : version_of (state setup q m).versions key ≡ Some v

  some_of : (o : Option Version) → is_some o ≡ true → (v : Version) × (o ≡ Some v)
  some_of None e = absurd (cc e)
  some_of (Some v) e = (v, refl)

  has : Has
  has =
      let s = state setup q m in
      let v = some_of (version_of s.versions key) (has_version setup ok m run q key) in
      let hashes = (run_roles setup ok m run q).roles.hashes_are in
      record { v = v.0; at = ap (λ n. value_at s.versions.pieces (hash_of key n) key) (sym hashes) ∙ v.1; of = v.1 }

inner_branch : (o : Option Id) (t : ℕ) (c : Id) (s : ℕ) → ◌≡◌ {A = paths.Version Id} (record { branch = o; timestamp = t }) (paths.point c s) → (o ≡ Some c) × (t ≡ s)
inner_branch o t c s e = (ap (λ (v : paths.Version Id). v.branch) e, ap (λ (v : paths.Version Id). v.timestamp) e)

module _ (setup : SetupState) (ok : IsSetup setup) (past : List Entry) (run : IsRun setup past) (key : List ℕ) where
  abbrev h : ℕ
  h = hash_of key setup.hashes

  -- the version of a node at a moment
  now : (q i : ℕ) → Has setup ok (moment past i) (moment_run setup past run i) q key
  now q i = has setup ok (moment past i) (moment_run setup past run i) q key

  version_is : (q i : ℕ) → (key_run setup past key).version q i ≡ key_version (now q i).v
  version_is q i = ap (λ o. key_version (or_zero o)) (now q i).at

  module _ (q i : ℕ) (c : Id) (s : ℕ) (is : (key_run setup past key).version q i ≡ paths.point c s) where
    abbrev v : Version
    v = (now q i).v

    of_point : (v.branch ≡ Some c) × (v.timestamp ≡ s)
    of_point = inner_branch v.branch v.timestamp c s (sym (version_is q i) ∙ is)

    found : stored_words.IsOfBranch (points (moment past i)) (told_table setup (moment past i)) setup.hashes key v
    found =
        elim (stored_version setup ok (moment past i) (moment_run setup past run i) q key v (now q i).of) [
          | inl none ↦ absurd (apart (ap (λ (w : Version). w.branch) (sym none) ∙ of_point.0))
          | inr f ↦ f
        ]
      where
        apart : ◌≡◌ {A = Option Id} None (Some c) → ⊥
        apart e = absurd (cc e)

    -- it is of a branch of the key
    pub is_of_branch : IsOfBranch (key_run setup past key) q i c s
    is_of_branch =
        let m : List Entry = moment past i in
        let early = moment_earlier past i in
        let t = tells setup m (moment_run setup past run i) 0 (some_node setup ok) in
        let at = stands (history_of setup t.n m) found.branch found.birth (ap (λ (bs : Branches). birth_of bs found.branch) (sym t.told) ∙ found.registered) in
        let more = told_longer setup ok past run m early t.n in
        let b : Id × BranchBirth = (found.branch, found.birth) in
        let whole : Branches = (table_at setup (told_changes setup past) (length (told_changes setup past))).history in
        let split : whole ≡ (more.newer ++ at.newer) ++ b ∷ at.older = more.is ∙ ap (λ (bs : Branches). more.newer ++ bs) at.is ∙ sym (append_assoc more.newer at.newer (b ∷ at.older)) in
        let y : Birth Id = birth_at (told_index setup past) b h key in
        let there : paths.IsIn (key_run setup past key).births y =
        subst (λ (ys : List (Birth Id)). paths.IsIn ys y) (sym (births_are setup ok past run key))
        (subst (λ (bs : Branches). paths.IsIn (births_at (told_index setup past) bs h key) y) (sym split) (births_in (told_index setup past) (more.newer ++ at.newer) at.older b h key found.inside)) in
        let later = found.later in
        let none = tenure_0 setup ok past run key y there in
        record {
          birth = y;
          is_in = there;
          name_is = some_inner found.branch c (sym found.branch_is ∙ of_point.0);
          above = omega (arith, later, of_point.1);
          tenure = omega (arith, none);
        }

  -- ---- at the node that leads the key, and at others: so far no node changes from one to the other, or takes a chunk

  data Role (q : ℕ) : Type 0 where
    Leads : (key_first setup ok past run key).shard.primary.0 ≡ q → Role q
    Follows : Away setup q key → Role q

  role : (q : ℕ) → Role q
  role q =
      elim (cases_eq (led q setup.shards h key) 0) [
        | inl none ↦ Follows none
        | inr some ↦
            let f = key_first setup ok past run key in
            let s = leads_shard q setup.shards h key (positive (led q setup.shards h key) some) in
            let same : f.shard ≡ s.0 = one_of_few shard_region setup.shards h key (one_shard setup ok h key) f.shard s.0 f.is_in s.1 f.inside s.3 in
            Leads (ap (λ (x : ShardConfig). x.primary.0) same ∙ s.2)
      ]

  -- ---- no timestamp goes beyond what a word holds

  led_short : (q i : ℕ) → (key_first setup ok past run key).shard.primary.0 ≡ q → (now q i).v.timestamp ≤ 18446744073709551615
  led_short q i leads =
      let f = key_first setup ok past run key in
      let m : List Entry = moment past i in
      stays_short setup ok f.shard f.is_in key f.inside (hash_within setup ok past run key) m (moment_run setup past run i) (now q i).v
      (subst (λ n. value_at (state setup n m).versions.pieces h key ≡ Some (now q i).v) (sym leads) (now q i).at)

  reached_short : (ps : List Point) (o : Option Id) (t : ℕ) → AllByRecursion IsShort ps → IsReachedBy ps o t → t ≤ 18446744073709551615
  reached_short ps None t all r = omega (arith, r)
  reached_short ps (Some b) t all (inl none) = omega (arith, none)
  reached_short ps (Some b) t all (inr k) = let short = all_at IsShort ps all k.by k.is_in in let time = k.time in omega (arith, short, time)

  away_short : (q i : ℕ) → Away setup q key → (now q i).v.timestamp ≤ 18446744073709551615
  away_short q i away =
      let m : List Entry = moment past i in
      let r = moment_run setup past run i in
      let k = ((run_kept setup ok m r).nodes q).kept key away in
      let same : k.version ≡ (now q i).v = some_inner k.version (now q i).v (sym k.stands ∙ (now q i).of) in
      let at : k.version.timestamp ≡ (now q i).v.timestamp = ap (λ (w : Version). w.timestamp) same in
      let low = reached_short (points m) k.version.branch k.version.timestamp (points_short setup m r) k.reached in
      omega (arith, low, at)

  pub in_range : (q i : ℕ) (c : Id) (s : ℕ) → (key_run setup past key).version q i ≡ paths.point c s → s ≤ (key_run setup past key).top
  in_range q i c s is =
      let at = (of_point q i c s is).1 in
      elim (role q) [
        | Leads l ↦ let low = led_short q i l in omega (arith, low, at)
        | Follows a ↦ let low = away_short q i a in omega (arith, low, at)
      ]

  -- ---- versions go forward

  away_forward : (later m : List Entry) → IsRun setup (later ++ m) → (q : ℕ) → Away setup q key → (b : Id) (s : ℕ) → version_of (state setup q m).versions key ≡ Some (point b s)
      → (u : ℕ) × (version_of (state setup q (later ++ m)).versions key ≡ Some (point b u)) × (s ≤ u)
  away_forward [] m r q away b s e = (s, e, omega arith)
  away_forward (x ∷ later) m r q away b s e =
      let f = away_forward later m r.1 q away b s e in
      let n = forward setup ok (later ++ m) x r.1 q key away b f.0 f.1 in
      (n.0, n.1, omega (arith, f.2, n.2))

  pub goes_on : (q i j : ℕ) → i ≤ j → StaysReplica (key_run setup past key) q i j → (y : Birth Id) (s : ℕ) → paths.IsIn (key_run setup past key).births y
      → (key_run setup past key).version q i ≡ paths.point y.branch s → GoesOn (key_run setup past key) q j y s
  goes_on q i j l stays y s there is =
      elim (role q) [
        | Follows a ↦ follows a
        | Leads p ↦ leads p
      ]
    where
      m : List Entry
      m = moment past i

      n : List Entry
      n = moment past j

      early : IsEarlier (moment past j) (moment past i)
      early = moments_follow past i j l

      run_then : IsRun setup (early.later ++ moment past i)
      run_then = subst (IsRun setup) early.is (moment_run setup past run j)

      at : ((now q i).v.branch ≡ Some y.branch) × ((now q i).v.timestamp ≡ s)
      at = of_point q i y.branch s is

      follows : Away setup q key → GoesOn (key_run setup past key) q j y s
      follows a =
          let first : version_of (state setup q (moment past i)).versions key ≡ Some (point y.branch s) = (now q i).of ∙ ap Some (version_same (now q i).v (point y.branch s) at.0 at.1) in
          let f = away_forward early.later (moment past i) run_then q a y.branch s first in
          let last : version_of (state setup q (moment past j)).versions key ≡ Some (point y.branch f.0) =
          subst (λ (p : List Entry). version_of (state setup q p).versions key ≡ Some (point y.branch f.0)) (sym early.is) f.1 in
          let same : (now q j).v ≡ point y.branch f.0 = some_inner (now q j).v (point y.branch f.0) (sym (now q j).of ∙ last) in
          record { birth = y; is_in = there; at = f.0; version_is = version_is q j ∙ ap key_version same; forward = inr (refl, f.2) }

      rises : (key_first setup ok past run key).shard.primary.0 ≡ q → Rises (now q i).v (now q j).v
      rises p =
          let f = key_first setup ok past run key in
          climbs_to setup ok f.shard f.is_in key f.inside (hash_within setup ok past run key) early.later (moment past i) run_then (now q i).v (now q j).v
          (subst (λ n. value_at (state setup n (moment past i)).versions.pieces h key ≡ Some (now q i).v) (sym p) (now q i).at)
          (subst (λ n. value_at (state setup n (early.later ++ moment past i)).versions.pieces h key ≡ Some (now q j).v) (sym p)
          (subst (λ (r : List Entry). value_at (state setup q r).versions.pieces h key ≡ Some (now q j).v) early.is (now q j).at))

      last_is : (c : Id) → (now q j).v.branch ≡ Some c → (key_run setup past key).version q j ≡ paths.point c (now q j).v.timestamp
      last_is c of = version_is q j ∙ ap (λ (o : Option Id). record { branch = o; timestamp = (now q j).v.timestamp }) of

      leads : (key_first setup ok past run key).shard.primary.0 ≡ q → GoesOn (key_run setup past key) q j y s
      leads p =
          elim (rises p) [
            | Same of up ↦ record { birth = y; is_in = there; at = (now q j).v.timestamp; version_is = last_is y.branch (of ∙ at.0); forward = inr (refl, omega (arith, up, at.1)) }
            | Newer b c first second lives ↦ newer b c first second lives (is_of_branch q j c (now q j).v.timestamp (last_is c second))
          ]
        where
          newer : (b c : Id) → (now q i).v.branch ≡ Some b → (now q j).v.branch ≡ Some c → b.life < c.life → IsOfBranch (key_run setup past key) q j c (now q j).v.timestamp → GoesOn (key_run setup past key) q j y s
          newer b c first second lives z =
              let of_y : b ≡ y.branch = some_inner b y.branch (sym first ∙ at.0) in
              let tenures : y.tenure ≡ z.birth.tenure = tenure_0 setup ok past run key y there ∙ sym (tenure_0 setup ok past run key z.birth z.is_in) in
              let life : y.life < z.birth.life =
              let l = life_of setup ok past run key y there in
              let k = life_of setup ok past run key z.birth z.is_in in
              let e = ap (λ (i : Id). i.life) of_y in
              let f = ap (λ (i : Id). i.life) z.name_is in
              omega (arith, lives, l, k, e, f) in
              record {
                birth = z.birth;
                is_in = z.is_in;
                at = (now q j).v.timestamp;
                version_is = last_is c second ∙ ap (λ (i : Id). paths.point i (now q j).v.timestamp) (sym z.name_is);
                forward = inl (registered_later (key_run setup past key) (log_facts setup ok past run key) y z.birth there z.is_in tenures life);
              }

  -- ---- all of a run

  pub facts : Facts (key_run setup past key)
  facts = record {
    log = log_facts setup ok past run key;
    voters_are_replicas = voters_are_replicas setup ok past run key;
    second_are_replicas = second_are_replicas setup ok past run key;
    primary_is_replica = primary_is_replica setup ok past run key;
    voters_stay = voters_stay setup ok past run key;
    primaries_stay = primaries_stay setup ok past run key;
    primaries_are_elected = primaries_are_elected setup ok past run key;
    views_grow = views_grow setup ok past run key;
    views_within = views_within setup ok past run key;
    lives_grow = lives_follow setup ok past run key;
    is_of_branch = is_of_branch;
    in_range = in_range;
    goes_on = goes_on;
  }
