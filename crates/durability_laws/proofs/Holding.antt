-- Which nodes hold a point: the one that leads its key, and each that came to it on the branch with which the key begins.
use Rattle.std.proofs.Common.{◌≡◌, ℕ, zero, suc, ◌≤◌, true, ◌&&◌, nat_le, List, [], ◌∷◌, ◌++◌, Option, Some, None, inl, inr, refl, sym, ap, ◌∙◌, subst, arith}
use Rattle.std.proofs.lemmas.Bool.{false≢true, and_parts, and_from, cases_eq, leb-true, le-leb}
use Rattle.row_runs.specs.runs.region_map.declared.id.Id.{Id}
use Rattle.row_runs.specs.runs.region_map.Keys.{hash_of}
use Rattle.row_runs.specs.runs.region_map.Maps.{value_at}
use Rattle.row_runs.specs.runs.region_map.Equal.{same_id}
use Rattle.row_runs.specs.runs.branch_history.declared.version.Version.{Version}
use Rattle.row_runs.specs.runs.branch_history.Paths.{Branches, is_on}
use Rattle.row_runs.specs.runs.branch_history.Histories.{IsHistory}
use Rattle.row_runs.proofs.runs.branch_history.Births.{none_on}
use Rattle.row_runs.proofs.runs.branch_history.Grown.{points_stay}
use Rattle.row_runs.proofs.runs.branch_history.PathLaws.{version_same}
use Rattle.row_runs.specs.runs.contract_types.Setup.{SetupState, IsSetup}
use Rattle.row_runs.specs.runs.store_api.Versions.{point, version_of}
use Rattle.row_runs.specs.runs.node_core.declared.journal.Entry.{Entry}
use Rattle.row_runs.specs.runs.node_core.Step.{NodeState}
use Rattle.row_runs.specs.runs.Latest.{told_table}
use Rattle.row_runs.specs.runs.Run.{state, IsRun}
use Rattle.row_runs.specs.runs.Story.{Point, IsIn, points, points_of}
use Rattle.row_runs.proofs.change_runs.Asked.{history_of}
use Rattle.row_runs.proofs.step_runs.Begun.{begun_branch, is_branch}
use Rattle.row_runs.proofs.key_runs.KeyedRequests.{same_key-self}
use Rattle.row_runs.proofs.key_runs.KeyedRoles.{led}
use Rattle.row_runs.proofs.lead_runs.LedRuns.{is_history}
use Rattle.row_runs.proofs.path_runs.OnPathTables.{tells}
use Rattle.row_runs.proofs.StoredFirsts.{on_begun, leading, leader_below, some_node, keyed_node}
use Rattle.row_runs.proofs.change_runs.StoredPaths.{same_id-true, same_id-self}
use Rattle.row_runs.proofs.StoredRuns.{run_kept}
use Rattle.row_runs.proofs.StoredSetups.{Away}
use Rattle.row_runs.proofs.step_runs.Told.{IsIn-left}
use Rattle.durability_laws.specs.Held.{has_on, holds}
use Rattle.durability_laws.proofs.Reached.{Reaches, reaches_more}

positive : (m : ℕ) → (m ≡ 0 → ⊥) → 1 ≤ m
positive zero f = absurd (f refl)
positive (suc m) f = omega arith

-- ---- one moment

module _ (setup : SetupState) (ok : IsSetup setup) (past : List Entry) (run : IsRun setup past) (n : ℕ) (q : Point) where
  abbrev key : List ℕ
  key = q.key

  abbrev h : ℕ
  h = hash_of q.key setup.hashes

  abbrev s : NodeState
  s = state setup n past

  abbrev told : Branches
  told = (told_table setup past).history

  abbrev x : Version
  x = point q.branch q.timestamp

  -- the node that leads the key holds each point of it
  pub led_holds : IsIn (points past) q → 1 ≤ led n setup.shards (hash_of q.key setup.hashes) q.key → holds setup past q n ≡ true
  led_holds i here =
      let f = keyed_node setup ok past run n in
      let l = leading setup ok past run n key here in
      let t = tells setup past run n (leader_below setup ok n h key here) in
      let stands : version_of s.versions key ≡ Some l.version = ap (λ c. value_at s.versions.pieces (hash_of key c) key) f.filled.hashes_are ∙ l.version_is in
      ap (has_on told setup.hashes q) stands ∙ ap (λ (bs : Branches). is_on bs h key l.version x) (t.told ∙ t.is)
      ∙ points_stay t.newer (history_of setup n past) h key l.version x (subst IsHistory t.is (is_history setup past run t.n)) (l.points_on q i (same_key-self q.key))

  -- a version of the branch with which the key begins has the points of that branch up to its timestamp
  begun_on : (b : Id) (v : Version) → begun_branch setup key ≡ Some b → v.branch ≡ Some b → is_on told h key v x ≡ (same_id b q.branch && nat_le q.timestamp v.timestamp)
  begun_on b v begun of =
      let t = tells setup past run 0 (some_node setup ok) in
      ap (λ (bs : Branches). is_on bs h key v x) t.told ∙ on_begun setup ok past run t.n key b v q begun of
      ∙ ap (λ (o : Option Id). is_branch o q.branch && nat_le q.timestamp v.timestamp) of

  pub reached_holds : Reaches setup past n q.key q.branch q.timestamp → holds setup past q n ≡ true
  reached_holds r =
      ap (has_on told setup.hashes q) r.version_is ∙ begun_on q.branch (point q.branch r.to) r.begun refl
      ∙ and_from (same_id q.branch q.branch) (nat_le q.timestamp r.to) (same_id-self q.branch) (le-leb q.timestamp r.to r.up)

  -- a node that does not lead the key holds no other points
  pub holds_reached : Away setup n q.key → holds setup past q n ≡ true → Reaches setup past n q.key q.branch q.timestamp
  holds_reached away is =
      let k = ((run_kept setup ok past run).nodes n).kept key away in
      let on : is_on told h key k.version x ≡ true = sym (ap (has_on told setup.hashes q) k.stands) ∙ is in
      elim k.first [
        | inl none ↦ absurd (false≢true (sym (none_on told h key k.version x none) ∙ on))
        | inr first ↦
            elim (begun_branch setup key) as (λ o. begun_branch setup key ≡ o → Reaches setup past n q.key q.branch q.timestamp) [
              | None ↦ λ e. absurd (false≢true (sym (none_on told h key k.version x (first ∙ e)) ∙ on))
              | Some b ↦ λ e.
                  let both = and_parts (same_id b q.branch) (nat_le q.timestamp k.version.timestamp) (sym (begun_on b k.version e (first ∙ e)) ∙ on) in
                  let same : b ≡ q.branch = same_id-true b q.branch both.0 in
                  record {
                    away = away;
                    begun = e ∙ ap Some same;
                    to = k.version.timestamp;
                    version_is = k.stands ∙ ap Some (version_same k.version (point q.branch k.version.timestamp) (first ∙ e ∙ ap Some same) refl);
                    up = leb-true q.timestamp k.version.timestamp both.1;
                  }
            ] refl
      ]

-- ---- later moments

points_more : (later m : List Entry) (q : Point) → IsIn (points m) q → IsIn (points (later ++ m)) q
points_more [] m q i = i
points_more (e ∷ later) m q i = IsIn-left (points (later ++ m)) (points_of e.input e.outputs) q (points_more later m q i)

earlier : (setup : SetupState) (later m : List Entry) → IsRun setup (later ++ m) → IsRun setup m
earlier setup [] m r = r
earlier setup (e ∷ later) m r = earlier setup later m r.1

reaches_later : (setup : SetupState) → IsSetup setup → (later m : List Entry) → IsRun setup (later ++ m) → (n : ℕ) (k : List ℕ) (b : Id) (at : ℕ) → Reaches setup m n k b at → Reaches setup (later ++ m) n k b at
reaches_later setup ok [] m run n k b at r = r
reaches_later setup ok (e ∷ later) m run n k b at r = reaches_more setup ok (later ++ m) e run.1 n k b at (reaches_later setup ok later m run.1 n k b at r)

holds_later : (setup : SetupState) → IsSetup setup → (later m : List Entry) → IsRun setup (later ++ m) → (q : Point) → IsIn (points m) q → (n : ℕ) → holds setup m q n ≡ true → holds setup (later ++ m) q n ≡ true
holds_later setup ok later m run q i n is =
    elim (cases_eq (led n setup.shards (hash_of q.key setup.hashes) q.key) 0) [
      | inl away ↦
          reached_holds setup ok (later ++ m) run n q
          (reaches_later setup ok later m run n q.key q.branch q.timestamp (holds_reached setup ok m (earlier setup later m run) n q away is))
      | inr some ↦ led_holds setup ok (later ++ m) run n q (points_more later m q i) (positive (led n setup.shards (hash_of q.key setup.hashes) q.key) some)
    ]

-- a node that holds a point goes on holding it
pub held_lasts : (setup : SetupState) → IsSetup setup → (past : List Entry) → IsRun setup past → (later before : List Entry) → past ≡ later ++ before → (q : Point) → IsIn (points before) q
    → (n : ℕ) → holds setup before q n ≡ true → holds setup past q n ≡ true
held_lasts setup ok past run later before is q i n h =
    subst (λ (l : List Entry). holds setup l q n ≡ true) (sym is) (holds_later setup ok later before (subst (IsRun setup) is run) q i n h)
