-- In every run, each branch that is registered after that of a decided point goes on from the point: so what was answered stays.
use Rattle.std.proofs.Common.{◌≡◌, ◌⊎◌, ℕ, ◌≤◌, ◌<◌, Bool, true, false, cond, List, [], ◌∷◌, ◌++◌, filter, Some, is_some, inl, inr, sym, ap, ◌∙◌, subst, arith, append_assoc}
use Rattle.std.proofs.lemmas.Bool.{cases_lt, and_from}
use Rattle.path_facts.specs.Paths.{Birth}
use Rattle.path_facts.specs.Paths as paths
use Rattle.path_facts.specs.Decided.{Decided, DecidedPoint}
use Rattle.path_facts.proofs.Held.{on_versions, ordered}
use Rattle.path_facts.proofs.Staying.{decided_stays}
use Rattle.key_births.specs.Births.{birth_at, births_at}
use Rattle.row_runs.specs.runs.region_map.declared.id.Id.{Id}
use Rattle.row_runs.specs.runs.region_map.Keys.{hash_of}
use Rattle.row_runs.specs.runs.region_map.Regions.{in_region}
use Rattle.row_runs.specs.runs.region_map.Equal.{same_id}
use Rattle.row_runs.specs.runs.branch_history.declared.version.Version.{Version}
use Rattle.row_runs.specs.runs.branch_history.declared.history.BranchBirth.{BranchBirth}
use Rattle.row_runs.specs.runs.branch_history.Paths.{Branches, origin_at, is_on, whole}
use Rattle.row_runs.specs.runs.branch_history.Histories.{knows, birth_of, IsHistory}
use Rattle.row_runs.proofs.runs.branch_history.Births.{origin_known}
use Rattle.row_runs.proofs.runs.branch_history.Grown.{paths_stay, points_stay}
use Rattle.row_runs.specs.runs.contract_types.Setup.{SetupState, IsSetup}
use Rattle.row_runs.specs.runs.contract_types.Tables.{branch_at}
use Rattle.row_runs.specs.runs.store_api.Versions.{point}
use Rattle.row_runs.specs.runs.node_core.declared.journal.Entry.{Entry}
use Rattle.row_runs.specs.runs.DonePoints.{IsDoneAt, StaysIn, StaysInAll}
use Rattle.row_runs.specs.runs.Latest.{told_table}
use Rattle.row_runs.specs.runs.Run.{IsRun}
use Rattle.row_runs.specs.runs.Story.{Point, IsIn, points, same_key, is_on_branch, is_on_path, path}
use Rattle.row_runs.proofs.change_runs.Asked.{history_of}
use Rattle.row_runs.proofs.change_runs.LedHistories.{some_inner, newer_apart, birth_longer, stands}
use Rattle.row_runs.proofs.key_runs.KeyedRequests.{same_key-self}
use Rattle.row_runs.proofs.StoredFirsts.{some_node}
use Rattle.row_runs.proofs.step_runs.PointBranches.{all_at}
use Rattle.row_runs.proofs.change_runs.LedMaps.{some_of}
use Rattle.row_runs.proofs.lead_runs.LedAsked.{current_some}
use Rattle.row_runs.proofs.path_runs.OnPathPoints.{IsShort, points_short}
use Rattle.row_runs.proofs.path_runs.OnPath.{Current, current, birth_there}
use Rattle.row_runs.proofs.path_runs.OnPathTables.{tells}
use Rattle.fact_runs.specs.KeyRuns.{told_index, key_run}
use Rattle.fact_runs.proofs.ToldLog.{told_history}
use Rattle.fact_runs.proofs.Contracts.{hash_within}
use Rattle.fact_runs.proofs.Branches.{Born, born, births_in, whole_history, key_history, paths_told}
use Rattle.fact_runs.proofs.Versions.{facts}
use Rattle.decided_runs.specs.Decided.{IsDecided, GoesOnAt}
use Rattle.decided_runs.proofs.DonePoints.{done_decided}

module _ (setup : SetupState) (ok : IsSetup setup) (past : List Entry) (run : IsRun setup past) (key : List ℕ) where
  abbrev h : ℕ
  h = hash_of key setup.hashes

  abbrev told : Branches
  told = (told_table setup past).history

  abbrev at : Branches → List (Birth Id)
  at bs = births_at (told_index setup past) bs (hash_of key setup.hashes) key

  pub history : IsHistory (told_table setup past).history
  history = subst IsHistory (sym (told_history setup ok past run)) (whole_history setup ok past run)

  -- the branches of a key that stand below another one
  rest_at : (newer bs : Branches) → paths.IsHistory same_id (at (newer ++ bs)) → paths.IsHistory same_id (at bs)
  rest_at [] bs k = k
  rest_at (n ∷ newer) bs k =
      elim (in_region n.1.region h key) as (λ c. paths.IsHistory same_id (cond c (birth_at (told_index setup past) n h key ∷ at (newer ++ bs)) (at (newer ++ bs))) → paths.IsHistory same_id (at bs)) [
        | true ↦ λ l. rest_at newer bs l.1
        | false ↦ λ l. rest_at newer bs l
      ] k

  history_rest : (newer bs : Branches) → IsHistory (newer ++ bs) → IsHistory bs
  history_rest [] bs k = k
  history_rest (n ∷ newer) bs k = history_rest newer bs k.3

  module _ (newer older : Branches) (b : Id × BranchBirth) (is : (told_table setup past).history ≡ newer ++ b ∷ older) (inside : in_region b.1.region (hash_of key setup.hashes) key ≡ true) where
    abbrev y : Birth Id
    y = birth_at (told_index setup past) b (hash_of key setup.hashes) key

    y_in : paths.IsIn (key_run setup past key).births y
    y_in = subst (λ (bs : Branches). paths.IsIn (at bs) y) (sym is) (births_in (told_index setup past) newer older b h key inside)

    split : told ≡ (newer ++ b ∷ []) ++ older
    split = is ∙ sym (append_assoc newer (b ∷ []) older)

    -- what was known before it was registered before it
    before : (z : Birth Id) → paths.IsIn (key_run setup past key).births z → knows older z.branch ≡ true → z.registered < told_index setup past b.0
    before z i known =
        let r : Born (told_index setup past) told h key z = born (told_index setup past) told h key z i in
        let name : z.branch ≡ r.id = ap (λ (x : Birth Id). x.branch) r.birth_is in
        let there : birth_of told r.id ≡ Some r.birth = ap (λ (bs : Branches). birth_of bs r.id) r.is ∙ birth_there r.newer r.older r.id r.birth (subst IsHistory r.is history) in
        let old : birth_of older r.id ≡ Some r.birth =
        sym (birth_longer (newer ++ b ∷ []) older r.id (newer_apart (newer ++ b ∷ []) older r.id (subst IsHistory split history) (subst (λ (x : Id). knows older x ≡ true) name known)))
        ∙ ap (λ (bs : Branches). birth_of bs r.id) (sym split) ∙ there in
        let s = stands older r.id r.birth old in
        let in_older : paths.IsIn (at older) z =
        subst (paths.IsIn (at older)) (sym r.birth_is) (subst (λ (bs : Branches). paths.IsIn (at bs) (birth_at (told_index setup past) (r.id, r.birth) h key)) (sym s.is)
        (births_in (told_index setup past) s.newer s.older (r.id, r.birth) h key r.inside)) in
        let below : paths.IsHistory same_id (at (b ∷ older)) = rest_at newer (b ∷ older) (subst (λ (bs : Branches). paths.IsHistory same_id (at bs)) is (key_history setup ok past run key)) in
        (subst (λ c. paths.IsHistory same_id (cond c (y ∷ at older) (at older))) inside below).0.later z in_older

    -- a branch that was registered later goes on from it
    goes_on : (z : Birth Id) (t : ℕ) → paths.IsIn (key_run setup past key).births z → Decided (key_run setup past key) z t → knows older z.branch ≡ true
        → is_on older (hash_of key setup.hashes) key (origin_at b.1 (hash_of key setup.hashes) key) (point z.branch t) ≡ true
    goes_on z t i d known =
        let o : Version = origin_at b.1 h key in
        let all : is_on told h key o (point z.branch t) ≡ true =
        paths_told setup ok past run key o (point z.branch t) ∙ decided_stays (key_run setup past key) (facts setup ok past run key) z t i d y y_in (before z i known) in
        let own : IsHistory (b ∷ older) = history_rest newer (b ∷ older) (subst IsHistory is history) in
        sym (paths_stay (newer ++ b ∷ []) older h key o (point z.branch t) (subst IsHistory split history) (origin_known older b.1.origin.pieces h key own.1))
        ∙ subst (λ (bs : Branches). is_on bs h key o (point z.branch t) ≡ true) split all

  -- no branch of the key was registered behind the current one
  newest : (bs : Branches) → paths.IsHistory same_id (at bs) → (v : Id) → branch_at bs h key ≡ Some v → (z : Birth Id) → paths.IsIn (at bs) z → z.registered ≤ told_index setup past v
  newest [] k v e z i = absurd i
  newest (b ∷ bs) k v e z i =
      let first : Birth Id = birth_at (told_index setup past) b h key in
      elim (in_region b.1.region h key) as (λ c. paths.IsHistory same_id (cond c (first ∷ at bs) (at bs)) → cond c (Some b.0) (branch_at bs h key) ≡ Some v → paths.IsIn (cond c (first ∷ at bs) (at bs)) z → z.registered ≤ told_index setup past v) [
        | true ↦ λ l f j.
            let now : told_index setup past b.0 ≡ told_index setup past v = ap (told_index setup past) (some_inner b.0 v f) in
            elim j [
              | inl s ↦ let same : told_index setup past b.0 ≡ z.registered = ap (λ (x : Birth Id). x.registered) s in omega (arith, same, now)
              | inr m ↦ let older = l.0.later z m in omega (arith, older, now)
            ]
        | false ↦ λ l f j. newest bs l v f z j
      ] k e i

  -- and the current one goes on from it, or is its own
  on_current : (z : Birth Id) (t : ℕ) → paths.IsIn (key_run setup past key).births z → Decided (key_run setup past key) z t → t ≤ 18446744073709551615
      → (v : Id) → branch_at (told_table setup past).history (hash_of key setup.hashes) key ≡ Some v → is_on (told_table setup past).history (hash_of key setup.hashes) key (whole v) (point z.branch t) ≡ true
  on_current z t i d low v now =
      let c : Current told h key v = current told h key v now in
      let b : Id × BranchBirth = (v, c.birth) in
      let x : Birth Id = birth_at (told_index setup past) b h key in
      let x_in : paths.IsIn (key_run setup past key).births x = subst (λ (bs : Branches). paths.IsIn (at bs) x) (sym c.is) (births_in (told_index setup past) c.newer c.older b h key c.inside) in
      let most = newest told (key_history setup ok past run key) v now z i in
      let order : (z.registered < x.registered) ⊎ ((z.registered ≡ x.registered) × (t ≤ 18446744073709551615)) = elim (cases_lt z.registered (told_index setup past v)) [
        | inl less ↦ inl less
        | inr more ↦ inr (omega (arith, most, more), low)
      ] in
      paths_told setup ok past run key (whole v) (point z.branch t) ∙ on_versions (key_run setup past key) (facts setup ok past run key) z t i d x 18446744073709551615 x_in order

-- ---- decided points

pub decided_goes_on : (setup : SetupState) → IsSetup setup → (past : List Entry) → IsRun setup past → (key : List ℕ) (d : DecidedPoint (key_run setup past key)) → GoesOnAt setup past key d
decided_goes_on setup ok past run key d newer older b is known has = goes_on setup ok past run key newer older b is has d.birth d.timestamp d.is_in d.decided known

pub decided_ordered : (setup : SetupState) → IsSetup setup → (past : List Entry) → IsRun setup past → (key : List ℕ) (d e : DecidedPoint (key_run setup past key))
    → (is_on (told_table setup past).history (hash_of key setup.hashes) key (point d.birth.branch d.timestamp) (point e.birth.branch e.timestamp) ≡ true)
    ⊎ (is_on (told_table setup past).history (hash_of key setup.hashes) key (point e.birth.branch e.timestamp) (point d.birth.branch d.timestamp) ≡ true)
decided_ordered setup ok past run key d e =
    let v : Version = point d.birth.branch d.timestamp in
    let w : Version = point e.birth.branch e.timestamp in
    elim (ordered (key_run setup past key) (facts setup ok past run key) d e) [
      | inl on ↦ inl (paths_told setup ok past run key v w ∙ on)
      | inr on ↦ inr (paths_told setup ok past run key w v ∙ on)
    ]

-- ---- what was answered

member_kept : (f : Point → Bool) (ps : List Point) (q : Point) → IsIn ps q → f q ≡ true → IsIn (filter f ps) q
member_kept f [] q i e = absurd i
member_kept f (p ∷ ps) q i e =
    elim i [
      | inl same ↦
          let here : f p ≡ true = subst (λ (x : Point). f x ≡ true) (sym same) e in
          subst (λ c. IsIn (cond c (p ∷ filter f ps) (filter f ps)) q) (sym here) (inl same)
      | inr j ↦ let rest = member_kept f ps q j e in elim (f p) as (λ c. IsIn (cond c (p ∷ filter f ps) (filter f ps)) q) [ true ↦ inr rest | false ↦ rest ]
    ]

module _ (setup : SetupState) (ok : IsSetup setup) (past : List Entry) (run : IsRun setup past) (q : Point) (done : IsDoneAt past q) where
  abbrev g : ℕ
  g = hash_of q.key setup.hashes

  decides : IsDecided setup past q
  decides = done_decided setup ok past run q done

  abbrev d : DecidedPoint (key_run setup past q.key)
  d = decides.0

  name : d.birth.branch ≡ q.branch
  name = some_inner d.birth.branch q.branch (ap (λ (v : paths.Version Id). v.branch) decides.1)

  time : d.timestamp ≡ q.timestamp
  time = ap (λ (v : paths.Version Id). v.timestamp) decides.1

  pub done_goes_on : StaysIn setup.hashes (told_table setup past).history q
  done_goes_on newer older b is known has =
      subst (λ t. is_on older g q.key (origin_at b.1 g q.key) (point q.branch t) ≡ true) time
      (subst (λ (i : Id). is_on older g q.key (origin_at b.1 g q.key) (point i d.timestamp) ≡ true) name
      (goes_on setup ok past run q.key newer older b is has d.birth d.timestamp d.is_in d.decided (subst (λ (i : Id). knows older i ≡ true) (sym name) known)))

  pub done_goes_on_in_all : StaysInAll setup.hashes (told_table setup past).history q
  done_goes_on_in_all newer older b is known has =
      let all : (told_table setup past).history ≡ (newer ++ b ∷ []) ++ older = is ∙ sym (append_assoc newer (b ∷ []) older) in
      ap (λ (bs : Branches). is_on bs g q.key (origin_at b.1 g q.key) (point q.branch q.timestamp)) all
      ∙ points_stay (newer ++ b ∷ []) older g q.key (origin_at b.1 g q.key) (point q.branch q.timestamp) (subst IsHistory all (history setup ok past run q.key)) (done_goes_on newer older b is known has)

  pub done_goes_on_at : (n : ℕ) → n < setup.nodes → StaysIn setup.hashes (history_of setup n past) q
  done_goes_on_at n below newer older b is known has =
      let t = tells setup past run n below in
      done_goes_on (t.newer ++ newer) older b (t.told ∙ t.is ∙ ap (λ (bs : Branches). t.newer ++ bs) is ∙ sym (append_assoc t.newer newer (b ∷ older))) known has

  pub done_on_current : IsIn (path setup past q.key) q
  done_on_current =
      let t = tells setup past run 0 (some_node setup ok) in
      let now = some_of (branch_at (told_table setup past).history g q.key)
      (ap (λ (bs : Branches). is_some (branch_at bs g q.key)) t.told ∙ current_some setup ok past run t.n g q.key (hash_within setup ok past run q.key)) in
      let low = all_at IsShort (points past) (points_short setup past run) q done.taken in
      let on : is_on (told_table setup past).history g q.key (whole now.0) (point q.branch q.timestamp) ≡ true =
      subst (λ t. is_on (told_table setup past).history g q.key (whole now.0) (point q.branch t) ≡ true) time
      (subst (λ (i : Id). is_on (told_table setup past).history g q.key (whole now.0) (point i d.timestamp) ≡ true) name
      (on_current setup ok past run q.key d.birth d.timestamp d.is_in d.decided (omega (arith, low, time)) now.0 now.1)) in
      member_kept (is_on_path setup (told_table setup past) q.key) (points past) q done.taken
      (and_from (same_key q.key q.key) (is_on_branch setup (told_table setup past) q.key (branch_at (told_table setup past).history g q.key) (point q.branch q.timestamp)) (same_key-self q.key)
      (ap (λ o. is_on_branch setup (told_table setup past) q.key o (point q.branch q.timestamp)) now.1 ∙ on))
