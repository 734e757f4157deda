-- What every run keeps of the versions and the rows of nodes, in the table that the journal tells.
use Rattle.std.proofs.Common.{◌≡◌, ◌⊎◌, ℕ, zero, suc, ◌≤◌, Bool, true, false, ◌&&◌, nat_le, List, ◌++◌, Option, Some, None, is_some, inl, inr, refl, sym, ap, ◌∙◌, subst, arith, sum}
use Rattle.std.proofs.Math.Nat.{mod-lt}
use Rattle.std.proofs.lemmas.Bool.{cases_eq}
use Rattle.std.specs.List.{list_any}
use Rattle.path_runs.specs.runs.region_map.declared.id.Id.{Id}
use Rattle.path_runs.specs.runs.region_map.Keys.{hash_of}
use Rattle.path_runs.specs.runs.region_map.Maps.{value_at}
use Rattle.path_runs.specs.runs.branch_history.declared.version.Version.{Version}
use Rattle.path_runs.specs.runs.branch_history.declared.history.BranchBirth.{BranchBirth}
use Rattle.path_runs.specs.runs.branch_history.Paths.{Branches, zero as zero_version, is_on}
use Rattle.path_runs.specs.runs.branch_history.Histories.{birth_of, IsHistory}
use Rattle.path_runs.proofs.runs.branch_history.Births.{none_on}
use Rattle.path_runs.proofs.runs.branch_history.Grown.{points_stay}
use Rattle.path_runs.proofs.runs.branch_history.PathLaws.{version_same}
use Rattle.path_runs.specs.runs.contract_types.Setup.{SetupState, IsSetup}
use Rattle.path_runs.specs.runs.store_api.Rows.{has_key, row_of}
use Rattle.path_runs.specs.runs.store_api.Versions.{point, version_of}
use Rattle.path_runs.specs.runs.node_core.declared.journal.Entry.{Entry}
use Rattle.path_runs.specs.runs.node_core.Parts.{is_for}
use Rattle.path_runs.specs.runs.node_core.Step.{NodeState, is_led, serves}
use Rattle.path_runs.specs.runs.Latest.{told_table}
use Rattle.path_runs.specs.runs.Run.{state, IsRun}
use Rattle.path_runs.specs.runs.Story.{Point, IsIn, points, same_key, path}
use Rattle.path_runs.specs.runs.Stored.{CameAbout, row_after, is_on_path_to, path_row, IsOfBranch}
use Rattle.path_runs.specs.runs.Stored.{Begun, Taken}
use Rattle.path_runs.proofs.change_runs.Asked.{is_keyed, history_of}
use Rattle.path_runs.proofs.step_runs.Begun.{begun_branch, is_branch}
use Rattle.path_runs.proofs.key_runs.KeyedRoles.{led}
use Rattle.path_runs.proofs.key_runs.KeyedRuns.{some_hash}
use Rattle.path_runs.proofs.change_runs.LedHistories.{some_inner, newer_apart, birth_known, birth_longer}
use Rattle.path_runs.proofs.lead_runs.LedRuns.{is_history}
use Rattle.path_runs.proofs.step_runs.Nodes.{some_holds}
use Rattle.path_runs.proofs.OnPath.{all_on_path}
use Rattle.path_runs.proofs.OnPathTables.{Tells as Told, tells}
use Rattle.path_runs.proofs.step_runs.PointBranches.{all_from}
use Rattle.path_runs.proofs.change_runs.StoredPaths.{is_up_to, is_keyed_to, IsReached, IsReachedBy, filter-same}
use Rattle.row_runs.proofs.StoredMoves.{kept_row}
use Rattle.row_runs.proofs.StoredFirsts.{is_begun, on_begun, leading, leader_below, some_node, leads_key, keyed_node}
use Rattle.row_runs.proofs.StoredSetups.{Away}
use Rattle.row_runs.proofs.StoredRuns.{run_kept}

positive : (m : ℕ) → (m ≡ 0 → ⊥) → 1 ≤ m
positive zero f = absurd (f refl)
positive (suc m) f = omega arith

-- each key has a version
pub has_version : (setup : SetupState) → IsSetup setup → (past : List Entry) → IsRun setup past → (n : ℕ) (key : List ℕ) → is_some (version_of (state setup n past).versions key) ≡ true
has_version setup ok past run n key =
    let f = (keyed_node setup ok past run n).filled in
    ap (λ c. is_some (value_at (state setup n past).versions.pieces (hash_of key c) key)) f.hashes_are ∙ f.some (hash_of key setup.hashes) key (mod-lt (sum key) (some_hash setup ok))

module _ (setup : SetupState) (ok : IsSetup setup) (past : List Entry) (run : IsRun setup past) (n : ℕ) (key : List ℕ) where
  abbrev h : ℕ
  h = hash_of key setup.hashes

  abbrev s : NodeState
  s = state setup n past

  abbrev all : List Point
  all = points past

  abbrev is_told : Version → Point → Bool
  is_told version p = is_on (told_table setup past).history h key version (point p.branch p.timestamp)

  module _ (version : Version) (stands : version_of s.versions key ≡ Some version) where
    -- at the node that leads the key all points of the key are on the path
    led_row : 1 ≤ led n setup.shards h key → row_of s.rows key ≡ path_row setup past key version
    led_row here =
        let f = keyed_node setup ok past run n in
        let l = leading setup ok past run n key here in
        let t = tells setup past run n (leader_below setup ok n h key here) in
        let same : l.version ≡ version = some_inner l.version version (sym l.version_is ∙ ap (λ c. value_at s.versions.pieces (hash_of key c) key) (sym f.filled.hashes_are) ∙ stands) in
        let on = λ (p : Point) (i : IsIn all p) (keyed : is_keyed key p ≡ true).
        ap (λ (bs : Branches). is_on bs h key version (point p.branch p.timestamp)) (t.told ∙ t.is)
        ∙ points_stay t.newer (history_of setup n past) h key version (point p.branch p.timestamp) (subst IsHistory t.is (is_history setup past run t.n))
        (subst (λ (v : Version). is_on (history_of setup n past) h key v (point p.branch p.timestamp) ≡ true) same (l.points_on p i keyed)) in
        f.store key here
        ∙ ap (row_after None)
        (filter-same (IsIn all) (is_keyed key) (is_on_path_to setup (told_table setup past) key version) (λ p i. test p (on p i)) all (all_from (IsIn all) all (λ p i. i)))
      where
        test : (p : Point) → (is_keyed key p ≡ true → is_told version p ≡ true) → is_keyed key p ≡ is_on_path_to setup (told_table setup past) key version p
        test p on =
            elim (same_key p.key key) as (λ b. same_key p.key key ≡ b → b ≡ (b && is_told version p)) [
              | true ↦ λ e. sym (on e)
              | false ↦ λ _. refl
            ] refl

    -- at any other node those of the branch with which its shard begins
    other_row : Away setup n key → row_of s.rows key ≡ path_row setup past key version
    other_row away =
        let k = ((run_kept setup ok past run).nodes n).kept key away in
        let same : k.version ≡ version = some_inner k.version version (sym k.stands ∙ stands) in
        let t = tells setup past run 0 (some_node setup ok) in
        let first = subst (λ (v : Version). (v.branch ≡ None) ⊎ (v.branch ≡ begun_branch setup key)) same k.first in
        kept_row setup all s.rows s.versions key version k stands
        ∙ ap (row_after None)
        (filter-same (IsIn all) (is_keyed_to key version) (is_on_path_to setup (told_table setup past) key version) (λ p i. ap (λ c. same_key p.key key && c) (on t first p)) all
        (all_from (IsIn all) all (λ p i. i)))
      where
        without : version.branch ≡ None → (p : Point) → is_up_to version p ≡ is_told version p
        without none p =
            ap (λ (o : Option Id). is_branch o p.branch && nat_le p.timestamp version.timestamp) none
            ∙ sym (none_on (told_table setup past).history h key version (point p.branch p.timestamp) none)

        on : Told setup past 0 → (version.branch ≡ None) ⊎ (version.branch ≡ begun_branch setup key) → (p : Point) → is_up_to version p ≡ is_told version p
        on t (inl none) p = without none p
        on t (inr is) p =
            elim (begun_branch setup key) as (λ o. begun_branch setup key ≡ o → is_up_to version p ≡ is_told version p) [
              | None ↦ λ e. without (is ∙ e) p
              | Some b ↦ λ e.
                  sym (on_begun setup ok past run t.n key b version p e (is ∙ e)) ∙ ap (λ (bs : Branches). is_on bs h key version (point p.branch p.timestamp)) (sym t.told)
            ] refl

    path_is : row_of s.rows key ≡ path_row setup past key version
    path_is =
        elim (cases_eq (led n setup.shards h key) 0) [
          | inl none ↦ other_row none
          | inr some ↦ led_row (positive (led n setup.shards h key) some)
        ]

    -- at the node that leads the key the version is of a branch that the node knows
    led_version : 1 ≤ led n setup.shards h key → IsOfBranch (points past) (told_table setup past) setup.hashes key version
    led_version here =
        let f = keyed_node setup ok past run n in
        let l = leading setup ok past run n key here in
        let t = tells setup past run n (leader_below setup ok n h key here) in
        let same : l.version ≡ version = some_inner l.version version (sym l.version_is ∙ ap (λ c. value_at s.versions.pieces (hash_of key c) key) (sym f.filled.hashes_are) ∙ stands) in
        let own : Branches = history_of setup n past in
        let hist : IsHistory (t.newer ++ own) = subst IsHistory t.is (is_history setup past run t.n) in
        record {
          branch = l.branch;
          birth = l.birth;
          branch_is = ap (λ (v : Version). v.branch) (sym same) ∙ l.branch_is;
          registered = ap (λ (bs : Branches). birth_of bs l.branch) (t.told ∙ t.is)
              ∙ birth_longer t.newer own l.branch (newer_apart t.newer own l.branch hist (birth_known own l.branch l.birth l.registered)) ∙ l.registered;
          inside = l.inside;
          later = subst (λ (v : Version). l.birth.initial ≤ v.timestamp) same l.initial;
          came = subst (λ (v : Version). CameAbout all l.branch l.birth v.timestamp) same l.came;
        }

    -- at any other node it is zero, or of the branch with which the shard of the key begins
    other_version : Away setup n key → (version ≡ zero_version) ⊎ IsOfBranch (points past) (told_table setup past) setup.hashes key version
    other_version away =
        let k = ((run_kept setup ok past run).nodes n).kept key away in
        let same : k.version ≡ version = some_inner k.version version (sym k.stands ∙ stands) in
        let t = tells setup past run 0 (some_node setup ok) in
        by t (subst (λ (v : Version). (v.branch ≡ None) ⊎ (v.branch ≡ begun_branch setup key)) same k.first) (subst (λ (v : Version). IsReached all v) same k.reached)
      where
        none_is : IsReached all version → version.branch ≡ None → version ≡ zero_version
        none_is low none = version_same version zero_version none (subst (λ (o : Option Id). IsReachedBy all o version.timestamp) none low)

        came_about : (b : Id) (birth : BranchBirth) → b.life ≡ 1 → IsReachedBy all (Some b) version.timestamp → CameAbout all b birth version.timestamp
        came_about b birth life (inl none) = Begun life none
        came_about b birth life (inr t) = Taken t.by t.is_in t.branch_is t.time

        by : Told setup past 0 → (version.branch ≡ None) ⊎ (version.branch ≡ begun_branch setup key) → IsReached all version → (version ≡ zero_version) ⊎ IsOfBranch (points past) (told_table setup past) setup.hashes key version
        by t (inl none) low = inl (none_is low none)
        by t (inr is) low =
            elim (begun_branch setup key) as (λ o. begun_branch setup key ≡ o → (version ≡ zero_version) ⊎ IsOfBranch (points past) (told_table setup past) setup.hashes key version) [
              | None ↦ λ e. inl (none_is low (is ∙ e))
              | Some b ↦ λ e.
                  let i = is_begun setup ok past run t.n key b e in
                  inr (record {
                    branch = b;
                    birth = i.birth;
                    branch_is = is ∙ e;
                    registered = ap (λ (bs : Branches). birth_of bs b) t.told ∙ i.registered;
                    inside = i.inside;
                    later = let zero_is = i.initial in omega (arith, zero_is);
                    came = came_about b i.birth i.life (subst (λ (o : Option Id). IsReachedBy all o version.timestamp) (is ∙ e) low);
                  })
            ] refl

    version_is : (version ≡ zero_version) ⊎ IsOfBranch (points past) (told_table setup past) setup.hashes key version
    version_is =
        elim (cases_eq (led n setup.shards h key) 0) [
          | inl none ↦ other_version none
          | inr some ↦ inr (led_version (positive (led n setup.shards h key) some))
        ]

  -- at the node that leads the key the row is what all points on the path of the key's branch leave
  led_path : 1 ≤ led n setup.shards h key → row_of s.rows key ≡ row_after None (path setup past key)
  led_path here = (keyed_node setup ok past run n).store key here ∙ ap (row_after None) (sym (all_on_path setup ok past run key))

  -- as that which serves the key does
  served_path : serves s key ≡ true → row_of s.rows key ≡ row_after None (path setup past key)
  served_path served =
      let f = keyed_node setup ok past run n in
      let some : list_any (is_for setup.hashes key) s.executions ≡ true = ap (λ (v : SetupState). list_any (is_for v.hashes key) s.executions) (sym f.begun) ∙ served in
      let held = some_holds setup.hashes key s.executions some in
      let leads = f.leads h key in
      led_path (omega (arith, held, leads))

-- the row of a key is what the path of its version leaves
pub stored_row : (setup : SetupState) → IsSetup setup → (past : List Entry) → IsRun setup past → (n : ℕ) (key : List ℕ) (version : Version) → version_of (state setup n past).versions key ≡ Some version
    → row_of (state setup n past).rows key ≡ path_row setup past key version
stored_row setup ok past run n key version stands = path_is setup ok past run n key version stands

pub served_row : (setup : SetupState) → IsSetup setup → (past : List Entry) → IsRun setup past → (n : ℕ) (key : List ℕ) → serves (state setup n past) key ≡ true
    → row_of (state setup n past).rows key ≡ row_after None (path setup past key)
served_row setup ok past run n key served = served_path setup ok past run n key served

pub leading_row : (setup : SetupState) → IsSetup setup → (past : List Entry) → IsRun setup past → (n : ℕ) (key : List ℕ) → list_any (λ s. is_led n s && has_key s.region setup.hashes key) setup.shards ≡ true
    → row_of (state setup n past).rows key ≡ row_after None (path setup past key)
leading_row setup ok past run n key leads = led_path setup ok past run n key (leads_key n setup.hashes key setup.shards leads)

-- a version is zero, or of a branch that is known
pub stored_version : (setup : SetupState) → IsSetup setup → (past : List Entry) → IsRun setup past → (n : ℕ) (key : List ℕ) (version : Version) → version_of (state setup n past).versions key ≡ Some version
    → (version ≡ zero_version) ⊎ IsOfBranch (points past) (told_table setup past) setup.hashes key version
stored_version setup ok past run n key version stands = version_is setup ok past run n key version stands
