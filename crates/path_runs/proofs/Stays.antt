-- Each branch goes on from the points that were taken before it was registered: so what was answered stays.
use Rattle.std.proofs.Common.{◌≡◌, ℕ, ◌<◌, true, false, cond, List, [], ◌∷◌, ◌++◌, filter, Some, inl, inr, refl, sym, ap, ◌∙◌, subst, append_assoc, sum}
use Rattle.std.proofs.Math.Nat.{mod-lt}
use Rattle.std.proofs.lemmas.Bool.{ltb-true}
use Rattle.id_runs.specs.runs.region_map.declared.id.Id.{Id}
use Rattle.id_runs.specs.runs.region_map.declared.region.Region.{Region}
use Rattle.id_runs.specs.runs.region_map.Keys.{hash_of}
use Rattle.id_runs.specs.runs.region_map.Nodes.{node_id}
use Rattle.id_runs.specs.runs.region_map.Regions.{in_region}
use Rattle.id_runs.specs.runs.region_map.Maps.{value_at}
use Rattle.id_runs.specs.runs.branch_history.declared.version.Version.{Version}
use Rattle.id_runs.specs.runs.branch_history.declared.history.BranchBirth.{BranchBirth}
use Rattle.id_runs.specs.runs.branch_history.Paths.{Branches, or_zero, origin_at, is_on}
use Rattle.id_runs.specs.runs.branch_history.Histories.{knows, birth_of, IsHistory}
use Rattle.id_runs.proofs.runs.branch_history.Births.{origin_known}
use Rattle.id_runs.proofs.runs.branch_history.Grown.{paths_stay, points_stay}
use Rattle.id_runs.specs.runs.contract_types.declared.config.ShardConfig.{ShardConfig}
use Rattle.id_runs.specs.runs.contract_types.Setup.{SetupState, IsSetup}
use Rattle.id_runs.specs.runs.table_log.Fitting.{changes_of}
use Rattle.id_runs.specs.runs.table_log.Logs.{LogState}
use Rattle.id_runs.specs.runs.store_api.Versions.{point}
use Rattle.id_runs.specs.runs.node_core.declared.journal.Entry.{Entry}
use Rattle.id_runs.specs.runs.Run.{state, IsRun}
use Rattle.id_runs.specs.runs.Committed.{IsEarlier}
use Rattle.id_runs.specs.runs.Latest.{told_table}
use Rattle.id_runs.specs.runs.Story.{Point, IsIn, points, points_of, same_key, path}
use Rattle.id_runs.specs.runs.DonePoints.{IsDoneAt, StaysIn, StaysInAll, is_before_on}
use Rattle.id_runs.proofs.change_runs.Asked.{is_keyed, Asked, IsAsked, history_of, Stale, LedFacts}
use Rattle.id_runs.proofs.change_runs.AskedRuns.{registered_asked, asked_in}
use Rattle.id_runs.proofs.change_runs.Registered.{IsRegistered, comes_from, not_stale}
use Rattle.id_runs.proofs.step_runs.PointBranches.{all_at}
use Rattle.id_runs.proofs.step_runs.Runs.{some_hash}
use Rattle.id_runs.proofs.step_runs.ShardRoles.{HasRoles, setup_roles, member_below}
use Rattle.key_runs.proofs.KeyedRequests.{same_key-self}
use Rattle.id_runs.proofs.step_runs.Told.{IsIn-left, IsIn-right}
use Rattle.id_runs.proofs.change_runs.LedHistories.{some_inner, newer_apart, birth_known, birth_longer, Stands, stands, stale_stays}
use Rattle.id_runs.proofs.lead_runs.LedRuns.{Longer, earlier_run, history_grows, config_is, all_fit, is_history}
use Rattle.id_runs.proofs.lead_runs.LedAsked.{asked_origin}
use Rattle.id_runs.proofs.lead_runs.LedShards.{holder_is}
use Rattle.id_runs.proofs.lead_runs.LedKeys.{led_facts}
use Rattle.path_runs.proofs.OnPath.{ShardOf, shard_of, one_first, each_asked, all_on_path}
use Rattle.path_runs.proofs.OnPathTables.{Tells, tells}
use Rattle.id_runs.proofs.TakenPoints.{Taken, taken}

-- ---- moments

-- of two moments of a run one is not later than the other
data Order (a b : List Entry) : Type 0 where
  NoLater : IsEarlier b a → Order a b
  Later : IsEarlier a b → Order a b

rest_is : (e f : Entry) (xs ys : List Entry) → e ∷ xs ≡ f ∷ ys → xs ≡ ys
rest_is e f xs ys is = cc

order : (xs ys a b : List Entry) → xs ++ a ≡ ys ++ b → Order a b
order [] ys a b e = Later (record { later = ys; is = e })
order (x ∷ xs) [] a b e = NoLater (record { later = x ∷ xs; is = sym e })
order (x ∷ xs) (y ∷ ys) a b e = order xs ys a b (rest_is x y (xs ++ a) (ys ++ b) e)

-- what was taken by a moment was taken by a later one
points_more : (later m : List Entry) (q : Point) → IsIn (points m) q → IsIn (points (later ++ m)) q
points_more [] m q i = i
points_more (e ∷ later) m q i = IsIn-left (points (later ++ m)) (points_of e.input e.outputs) q (points_more later m q i)

points_by : (past m : List Entry) (q : Point) → IsEarlier past m → IsIn (points m) q → IsIn (points past) q
points_by past m q early i = subst (λ (l : List Entry). IsIn (points l) q) (sym early.is) (points_more early.later m q i)

-- ---- histories

pub rest_history : (ns bs : Branches) → IsHistory (ns ++ bs) → IsHistory bs
rest_history [] bs h = h
rest_history (n ∷ ns) bs h = rest_history ns bs h.3

-- a history has all branches that the leading node had at each moment
abbrev HasAll : SetupState → List Entry → ℕ → Branches → Type 0
HasAll setup past p history = (m : List Entry) → IsEarlier past m → Longer (history_of setup p m) history

-- ---- a branch that was registered after that of a point

module _ (setup : SetupState) (ok : IsSetup setup) (past : List Entry) (run : IsRun setup past) (q : Point) (within : hash_of q.key setup.hashes < setup.hashes) (shard : ShardConfig) (i : IsIn setup.shards shard)
    (inside : in_region shard.region (hash_of q.key setup.hashes) q.key ≡ true) (first : List Point) (t : Taken setup past first q shard.primary.0) (n : ℕ)
    (more : HasAll setup past shard.primary.0 (history_of setup n past)) (newer older : Branches) (b : Id × BranchBirth) (is : history_of setup n past ≡ newer ++ b ∷ older)
    (known : knows older q.branch ≡ true) (has : in_region b.1.region (hash_of q.key setup.hashes) q.key ≡ true)
  where
    abbrev p : ℕ
    p = shard.primary.0

    abbrev g : ℕ
    g = hash_of q.key setup.hashes

    abbrev H : Branches
    H = history_of setup n past

    abbrev x : Version
    x = point q.branch q.timestamp

    abbrev log : LogState
    log = (state setup n past).log

    hist : IsHistory H
    hist = is_history setup past run n

    split : H ≡ (newer ++ b ∷ []) ++ older
    split = is ∙ sym (append_assoc newer (b ∷ []) older)

    hist_split : IsHistory ((newer ++ b ∷ []) ++ older)
    hist_split = subst IsHistory split hist

    -- what is known of the key right after the point was taken
    facts : LedFacts setup t.moment g q.key p
    facts = led_facts setup ok t.moment (earlier_run setup past t.moment run t.earlier) q.key shard i inside

    version_is : facts.version ≡ x
    version_is = some_inner facts.version x (sym facts.version_is ∙ t.version_is)

    branch_is : facts.branch ≡ q.branch
    branch_is = some_inner facts.branch q.branch (sym facts.branch_is ∙ ap (λ (v : Version). v.branch) version_is)

    registered : birth_of (history_of setup p t.moment) q.branch ≡ Some facts.birth
    registered = subst (λ (a : Id). birth_of (history_of setup p t.moment) a ≡ Some facts.birth) branch_is facts.registered

    known_then : knows (history_of setup p t.moment) q.branch ≡ true
    known_then = birth_known (history_of setup p t.moment) q.branch facts.birth registered

    longer : Longer (history_of setup p t.moment) H
    longer = more t.moment t.earlier

    hist_longer : IsHistory (longer.newer ++ history_of setup p t.moment)
    hist_longer = subst IsHistory longer.is hist

    -- where the branch of the point stands
    there : Stands older q.branch facts.birth
    there =
        stands older q.branch facts.birth
        (sym (birth_longer (newer ++ b ∷ []) older q.branch (newer_apart (newer ++ b ∷ []) older q.branch hist_split known))
        ∙ ap (λ (bs : Branches). birth_of bs q.branch) (sym split ∙ longer.is)
        ∙ birth_longer longer.newer (history_of setup p t.moment) q.branch (newer_apart longer.newer (history_of setup p t.moment) q.branch hist_longer known_then) ∙ registered)

    keyed : is_keyed q.key q ≡ true
    keyed = same_key-self q.key

    taken_then : IsIn (points t.moment) q
    taken_then = subst (λ (l : List Point). IsIn l q) (sym t.points_are) (IsIn-right first (q ∷ []) q (inl refl))

    -- what is on the path of its start in the branches of some moment is so in those that were there before it
    on_older : (m : List Entry) → IsEarlier past m → is_on (history_of setup p m) g q.key (origin_at b.1 g q.key) x ≡ true → is_on older g q.key (origin_at b.1 g q.key) x ≡ true
    on_older m early on =
        let o : Version = origin_at b.1 g q.key in
        let all = more m early in
        let own : IsHistory (b ∷ older) = rest_history newer (b ∷ older) (subst IsHistory is hist) in
        sym (paths_stay (newer ++ b ∷ []) older g q.key o x hist_split (origin_known older b.1.origin.pieces g q.key own.1))
        ∙ ap (λ (bs : Branches). is_on bs g q.key o x) (sym split ∙ all.is)
        ∙ points_stay all.newer (history_of setup p m) g q.key o x (subst IsHistory all.is hist) on

    -- it starts from the leading node's version of some moment at which the point was taken
    from_version : (m : List Entry) → IsEarlier past m → IsIn (points m) q → (l : LedFacts setup m g q.key p) → value_at b.1.origin.pieces g q.key ≡ Some l.version
        → is_on older g q.key (origin_at b.1 g q.key) x ≡ true
    from_version m early j l from =
        on_older m early (subst (λ (v : Version). is_on (history_of setup p m) g q.key v x ≡ true) (sym (ap or_zero from)) (l.points_on q j keyed))

    -- the log skips what was asked for before the point's branch was written
    refuted : (r : IsRegistered setup (changes_of log.raft.log) log.acted b older) → Stale (history_of setup p t.moment) facts.branch b.0 (value_at r.based_on.pieces g q.key) → ⊥
    refuted r stale =
        let based = value_at r.based_on.pieces g q.key in
        let table_is = config_is setup past run n in
        let own : Stale (history_of setup p t.moment) q.branch b.0 based = subst (λ (a : Id). Stale (history_of setup p t.moment) a b.0 based) branch_is stale in
        let joined = stale_stays longer.newer (history_of setup p t.moment) q.branch b.0 based hist_longer known_then own in
        not_stale setup ok (changes_of log.raft.log) (all_fit setup past run n) log.acted newer older b g q.key q.branch facts.birth based (sym table_is ∙ is) has there.newer there.older there.is
        facts.inside (sym (r.based g q.key within has)) (subst (λ (bs : Branches). Stale bs q.branch b.0 based) (sym longer.is ∙ table_is) joined)

    from_asked : (r : IsRegistered setup (changes_of log.raft.log) log.acted b older) → Asked setup past (node_id p) b.0 b.1.region r.based_on b.1.origin → is_on older g q.key (origin_at b.1 g q.key) x ≡ true
    from_asked r asked =
        elim (order asked.earlier.later t.earlier.later asked.moment t.moment (sym asked.earlier.is ∙ t.earlier.is)) [
          | NoLater early ↦ elim (facts.asked b.0 b.1.region r.based_on b.1.origin (by_then early) has) [
            | inl from ↦ from_version t.moment t.earlier taken_then facts from
            | inr stale ↦ absurd (refuted r stale)
          ]
          | Later early ↦
              let l = led_facts setup ok asked.moment (earlier_run setup past asked.moment run asked.earlier) q.key shard i inside in
              from_version asked.moment asked.earlier (points_by asked.moment t.moment q early taken_then) l
              (asked_origin setup ok past run (node_id p) b.0 b.1.region r.based_on b.1.origin asked g q.key within has ∙ l.version_is)
        ]
      where
        by_then : IsEarlier t.moment asked.moment → Asked setup t.moment (node_id p) b.0 b.1.region r.based_on b.1.origin
        by_then early =
            record {
              moment = asked.moment;
              earlier = early;
              asking = asked.asking;
              is_in = asked.is_in;
              branch_is = asked.branch_is;
              region_is = asked.region_is;
              based = asked.based;
              origin_is = asked.origin_is;
            }

    -- it goes on from the point
    goes_on : is_on older g q.key (origin_at b.1 g q.key) x ≡ true
    goes_on =
        elim (comes_from setup ok (changes_of log.raft.log) (all_fit setup past run n) log.acted newer older b (sym (config_is setup past run n) ∙ is)) [
          | inl f ↦ absurd (one_first setup ok f.0 older there.newer there.older b (q.branch, facts.birth) g q.key f.1 there.is has facts.inside)
          | inr r ↦
              let asked : Asked setup past r.maker b.0 b.1.region r.based_on b.1.origin =
              subst (IsAsked setup past) r.change_is (each_asked setup past log.raft.log (registered_asked setup ok past run n) r.index) in
              let maker = asked_in setup ok past run r.maker b.0 b.1.region r.based_on b.1.origin asked in
              let of_key : in_region maker.contract.region g q.key ≡ true = subst (λ (part : Region). in_region part g q.key ≡ true) (sym maker.region_is) has in
              let who : p ≡ r.maker.0 = holder_is setup ok shard i g q.key inside maker.contract r.maker.0 maker.led.known of_key maker.led.held_by in
              from_asked r (subst (λ m. Asked setup past (node_id m) b.0 b.1.region r.based_on b.1.origin) (sym who) asked)
        ]

-- ---- where a member stands

pub record Split (ps : List Point) (q : Point) : Type 0 where
  pub first : List Point
  pub later : List Point
  pub is : ps ≡ first ++ q ∷ later

pub split_at : (ps : List Point) (q : Point) → IsIn ps q → Split ps q
split_at [] q i = absurd i
split_at (p ∷ ps) q i =
    elim i [
      | inl e ↦ record { first = []; later = ps; is = ap (λ (r : Point). r ∷ ps) e }
      | inr j ↦ let r = split_at ps q j in record { first = p ∷ r.first; later = r.later; is = ap (λ (l : List Point). p ∷ l) r.is }
    ]

kept_in : (key : List ℕ) (ps : List Point) (q : Point) → IsIn ps q → is_keyed key q ≡ true → IsIn (filter (is_keyed key) ps) q
kept_in key [] q i of = absurd i
kept_in key (p ∷ ps) q i of =
    elim i [
      | inl e ↦
          let here : is_keyed key p ≡ true = subst (λ (r : Point). is_keyed key r ≡ true) (sym e) of in
          subst (λ c. IsIn (cond c (p ∷ filter (is_keyed key) ps) (filter (is_keyed key) ps)) q) (sym here) (inl e)
      | inr j ↦
          let rest = kept_in key ps q j of in
          elim (is_keyed key p) as (λ c. IsIn (cond c (p ∷ filter (is_keyed key) ps) (filter (is_keyed key) ps)) q) [ true ↦ inr rest | false ↦ rest ]
    ]

-- ---- the points of a run

module _ (setup : SetupState) (ok : IsSetup setup) (past : List Entry) (run : IsRun setup past) (key : List ℕ) where
  key_within : hash_of key setup.hashes < setup.hashes
  key_within = mod-lt (sum key) (some_hash setup ok)

  -- the shard of the key
  of_key : ShardOf setup.shards (hash_of key setup.hashes) key
  of_key = shard_of setup ok (hash_of key setup.hashes) key key_within

  -- the table that is told, beside that of the node that leads the key
  teller : Tells setup past of_key.shard.primary.0
  teller =
      let roles : HasRoles setup.nodes of_key.shard = all_at (HasRoles setup.nodes) setup.shards (setup_roles setup ok) of_key.shard of_key.is_in in
      tells setup past run of_key.shard.primary.0
      (ltb-true of_key.shard.primary.0 setup.nodes (member_below setup.nodes of_key.shard.replicas of_key.shard.primary.0 roles.replicas roles.primary))

  pub told_history : IsHistory (told_table setup past).history
  told_history = subst IsHistory (sym teller.told) (is_history setup past run teller.n)

  teller_has_all : HasAll setup past of_key.shard.primary.0 (history_of setup teller.n past)
  teller_has_all m early =
      let p : ℕ = of_key.shard.primary.0 in
      let grown = history_grows setup past m run early p in
      record {
        newer = teller.newer ++ grown.newer;
        is = teller.is ∙ ap (λ (bs : Branches). teller.newer ++ bs) grown.is ∙ sym (append_assoc teller.newer grown.newer (history_of setup p m));
      }

module _ (setup : SetupState) (ok : IsSetup setup) (past : List Entry) (run : IsRun setup past) where
  taken_at : (first later : List Point) (q : Point) → points past ≡ first ++ q ∷ later → Taken setup past first q (of_key setup ok past run q.key).shard.primary.0
  taken_at first later q is =
      let s = of_key setup ok past run q.key in
      taken setup ok past run first later q is s.shard s.is_in s.inside (key_within setup ok past run q.key)

  -- each point that was taken stays
  pub taken_stays : (q : Point) → IsIn (points past) q → StaysIn setup.hashes (told_table setup past).history q
  taken_stays q i newer older b is known has =
      let at = split_at (points past) q i in
      let s = of_key setup ok past run q.key in
      let t = teller setup ok past run q.key in
      goes_on setup ok past run q (key_within setup ok past run q.key) s.shard s.is_in s.inside at.first (taken_at at.first at.later q at.is) t.n (teller_has_all setup ok past run q.key) newer older b
      (sym t.told ∙ is) known has

  pub taken_stays_in_all : (q : Point) → IsIn (points past) q → StaysInAll setup.hashes (told_table setup past).history q
  taken_stays_in_all q i newer older b is known has =
      let g : ℕ = hash_of q.key setup.hashes in
      let split : (told_table setup past).history ≡ (newer ++ b ∷ []) ++ older = is ∙ sym (append_assoc newer (b ∷ []) older) in
      ap (λ (bs : Branches). is_on bs g q.key (origin_at b.1 g q.key) (point q.branch q.timestamp)) split
      ∙ points_stay (newer ++ b ∷ []) older g q.key (origin_at b.1 g q.key) (point q.branch q.timestamp) (subst IsHistory split (told_history setup ok past run q.key)) (taken_stays q i newer older b is known has)

  pub taken_stays_at : (q : Point) → IsIn (points past) q → (n : ℕ) → n < setup.nodes → StaysIn setup.hashes (history_of setup n past) q
  taken_stays_at q i n below newer older b is known has =
      let t = tells setup past run n below in
      taken_stays q i (t.newer ++ newer) older b
      (t.told ∙ t.is ∙ ap (λ (bs : Branches). t.newer ++ bs) is ∙ sym (append_assoc t.newer newer (b ∷ older))) known has

  pub taken_on_path : (q : Point) → IsIn (points past) q → IsIn (path setup past q.key) q
  taken_on_path q i = subst (λ (l : List Point). IsIn l q) (sym (all_on_path setup ok past run q.key)) (kept_in q.key (points past) q i (same_key-self q.key))

-- ---- what was answered

pub done_stays : (setup : SetupState) → IsSetup setup → (past : List Entry) → IsRun setup past → (q : Point) → IsDoneAt past q → StaysIn setup.hashes (told_table setup past).history q
done_stays setup ok past run q d = taken_stays setup ok past run q d.taken

pub done_stays_in_all : (setup : SetupState) → IsSetup setup → (past : List Entry) → IsRun setup past → (q : Point) → IsDoneAt past q → StaysInAll setup.hashes (told_table setup past).history q
done_stays_in_all setup ok past run q d = taken_stays_in_all setup ok past run q d.taken

pub done_stays_at : (setup : SetupState) → IsSetup setup → (past : List Entry) → IsRun setup past → (q : Point) → IsDoneAt past q → (n : ℕ) → n < setup.nodes
    → StaysIn setup.hashes (history_of setup n past) q
done_stays_at setup ok past run q d = taken_stays_at setup ok past run q d.taken

pub done_on_path : (setup : SetupState) → IsSetup setup → (past : List Entry) → IsRun setup past → (q : Point) → IsDoneAt past q → IsIn (path setup past q.key) q
done_on_path setup ok past run q d = taken_on_path setup ok past run q d.taken

-- ---- the order of a path

pub before_on : (setup : SetupState) → IsSetup setup → (past : List Entry) → IsRun setup past → (first later : List Point) (q : Point) → points past ≡ first ++ q ∷ later
    → (p : Point) → IsIn first p → same_key p.key q.key ≡ true → is_before_on setup.hashes (told_table setup past).history p q ≡ true
before_on setup ok past run first later q is p i same =
    let g : ℕ = hash_of q.key setup.hashes in
    let s = of_key setup ok past run q.key in
    let lead : ℕ = s.shard.primary.0 in
    let told = teller setup ok past run q.key in
    let t = taken_at setup ok past run first later q is in
    let facts = led_facts setup ok t.moment (earlier_run setup past t.moment run t.earlier) q.key s.shard s.is_in s.inside in
    let v : Version = point q.branch q.timestamp in
    let w : Version = point p.branch p.timestamp in
    let version_is : facts.version ≡ v = some_inner facts.version v (sym facts.version_is ∙ t.version_is) in
    let there : IsIn (points t.moment) p = subst (λ (l : List Point). IsIn l p) (sym t.points_are) (IsIn-left first (q ∷ []) p i) in
    let then : is_on (history_of setup lead t.moment) g q.key v w ≡ true =
    subst (λ (u : Version). is_on (history_of setup lead t.moment) g q.key u w ≡ true) version_is (facts.points_on p there same) in
    let all = teller_has_all setup ok past run q.key t.moment t.earlier in
    ap (λ (bs : Branches). is_on bs g q.key v w) (told.told ∙ all.is)
    ∙ points_stay all.newer (history_of setup lead t.moment) g q.key v w (subst IsHistory all.is (is_history setup past run told.n)) then
