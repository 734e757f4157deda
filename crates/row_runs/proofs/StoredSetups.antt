-- What a table begins with: no row, each version at timestamp 0, zero or of the branch with which its shard begins, and a branch of
-- its own for each execution.
use Rattle.std.proofs.Common.{◌≡◌, ◌⊎◌, ◌==◌, ℕ, ◌+◌, ◌≤◌, ◌<◌, Bool, true, false, cond, ◌&&◌, not, List, [], ◌∷◌, Some, None, is_some, inl, inr, refl, sym, ap, ◌∙◌, subst, arith, sum}
use Rattle.std.proofs.Math.Nat.{mod-lt}
use Rattle.std.proofs.lemmas.Bool.{cond_both, cond-true, and_parts}
use Rattle.std.specs.List.{AllByRecursion}
use Rattle.path_runs.specs.runs.region_map.declared.id.NodeId.{NodeId}
use Rattle.path_runs.specs.runs.region_map.Nodes.{node_id, has}
use Rattle.path_runs.specs.runs.region_map.Keys.{hash_of}
use Rattle.path_runs.specs.runs.region_map.Regions.{in_region}
use Rattle.path_runs.specs.runs.region_map.Maps.{Pieced, value_at}
use Rattle.path_runs.specs.runs.branch_history.declared.version.Version.{Version}
use Rattle.path_runs.specs.runs.branch_history.Paths.{Branches}
use Rattle.path_runs.specs.runs.contract_types.declared.config.ShardConfig.{ShardConfig}
use Rattle.path_runs.specs.runs.contract_types.declared.contract.Contract.{Contract}
use Rattle.path_runs.specs.runs.contract_types.Configs.{shard_region}
use Rattle.path_runs.specs.runs.contract_types.Tilings.{holders}
use Rattle.path_runs.specs.runs.contract_types.Setup.{SetupState, IsSetup}
use Rattle.path_runs.specs.runs.contract_types.Tables.{branch_at, setup_id, first_id, first_birth, first_branches, first_contract}
use Rattle.path_runs.specs.runs.exec_types.Sessions.{setup_session_name}
use Rattle.path_runs.specs.runs.store_api.Versions.{point, replaced_map, zero_map}
use Rattle.path_runs.proofs.runs.store_api.VersionMaps.{replaced_map_hashes, replaced_map_at, zero_map_hashes, zero_map_at}
use Rattle.path_runs.specs.runs.secondary_exec.declared.following.Following.{Following}
use Rattle.path_runs.specs.runs.secondary_exec.Stream.{setup_following}
use Rattle.path_runs.specs.runs.primary_exec.Execution.{Execution, joined, begun, join_all, setup_execution}
use Rattle.path_runs.specs.runs.node_core.Parts.{is_for}
use Rattle.path_runs.specs.runs.node_core.Step.{is_led, is_followed, executions_from, followings_from, versions_from, begin_node}
use Rattle.path_runs.proofs.step_runs.Begun.{begun_branch}
use Rattle.path_runs.proofs.key_runs.KeyedRoles.{led, one_role, followings_followed}
use Rattle.path_runs.proofs.key_runs.KeyedRuns.{some_hash}
use Rattle.path_runs.proofs.change_runs.LedHistories.{some_inner}
use Rattle.path_runs.proofs.lead_runs.LedRoles.{some_there}
use Rattle.path_runs.proofs.step_runs.PointBranches.{all_at, all_from, all_append}
use Rattle.path_runs.proofs.step_runs.Setups.{following_region, setup_branch, setup_last, branches_begin, nothing_begun, one_shard}
use Rattle.path_runs.proofs.change_runs.StoredPaths.{reached_zero}
use Rattle.row_runs.proofs.StoredSteps.{IsSessionOf, Runs, Follows, NodeKept}

-- ---- executions

joined_sessions : (place : ℕ) (me : NodeId) (x : Execution) (ns : List ℕ) → x.me ≡ me → AllByRecursion (IsSessionOf (setup_id place me) 0) x.sessions
    → AllByRecursion (IsSessionOf (setup_id place me) 0) (join_all place x ns).sessions
joined_sessions place me x [] same all = all
joined_sessions place me x (n ∷ ns) same all =
    let y : Execution = joined x (node_id n) (setup_session_name place x.me (node_id n)) in
    let here = cond_both (n == x.me.0) x y (λ (z : Execution). (z.me ≡ me) × AllByRecursion (IsSessionOf (setup_id place me) 0) z.sessions) (λ _. (same, all))
    (λ _. (same, all_append (IsSessionOf (setup_id place me) 0) x.sessions (record { server = node_id n; name = setup_session_name place x.me (node_id n); sent = 1; acked = 1 } ∷ []) all ((refl, ap (setup_id place) same), tt))) in
    joined_sessions place me (cond (n == x.me.0) x y) ns here.0 here.1

-- the sessions of an execution
abbrev AreSessions : Execution → Type 0
AreSessions x = AllByRecursion (IsSessionOf x.branch x.last) x.sessions

sessions_from : (n place : ℕ) (ss : List ShardConfig) → AllByRecursion AreSessions (executions_from n place ss)
sessions_from n place [] = tt
sessions_from n place (s ∷ ss) =
    let c : Contract = first_contract place s in
    let x : Execution = setup_execution c s.primary place in
    let rest : List Execution = executions_from n (place + 1) ss in
    let branch = setup_branch c s.primary place in
    let sessions : AllByRecursion (IsSessionOf (setup_id place s.primary) 0) x.sessions = joined_sessions place s.primary (begun c s.primary (setup_id place s.primary)) c.replicas refl tt in
    cond_both (is_led n s) (x ∷ rest) rest (AllByRecursion AreSessions)
    (λ _. (
      subst (λ b. AllByRecursion (IsSessionOf b x.last) x.sessions) (sym branch)
          (subst (λ l. AllByRecursion (IsSessionOf (setup_id place s.primary) l) x.sessions) (sym (setup_last c s.primary place)) sessions),
      sessions_from n (place + 1) ss,
    ))
    (λ _. sessions_from n (place + 1) ss)

-- ---- versions

-- a map with a version at timestamp 0 at each pair with a hash of the table
record IsFresh (hashes : ℕ) (m : Pieced Version) : Type 0 where
  hashes_are : m.hashes ≡ hashes
  zeros : (h : ℕ) (k : List ℕ) → h < hashes → (v : Version) × (value_at m.pieces h k ≡ Some v) × (v.timestamp ≡ 0)

zero_fresh : (hashes : ℕ) → IsFresh hashes (zero_map hashes)
zero_fresh hashes = record { hashes_are = zero_map_hashes hashes; zeros = λ h k l. (record { branch = None; timestamp = 0 }, zero_map_at hashes h k l, refl) }

-- the versions of a node after one shard
abbrev after_shard : ℕ → ℕ → ShardConfig → Pieced Version → Pieced Version
after_shard n place s m = cond (has s.replicas n) (replaced_map s.region (point (first_id place s) 0) m) m

module _ (n hashes : ℕ) where
  replaced_at : (place : ℕ) (s : ShardConfig) (m : Pieced Version) (h : ℕ) (k : List ℕ) → m.hashes ≡ hashes → h < hashes
      → value_at (replaced_map s.region (point (first_id place s) 0) m).pieces h k ≡ cond (in_region s.region h k && is_some (value_at m.pieces h k)) (Some (point (first_id place s) 0)) (value_at m.pieces h k)
  replaced_at place s m h k same l = replaced_map_at s.region (point (first_id place s) 0) m h k (omega (arith, same, l))

  shard_fresh : (place : ℕ) (s : ShardConfig) (m : Pieced Version) → IsFresh hashes m → IsFresh hashes (after_shard n place s m)
  shard_fresh place s m f =
      let new : Version = point (first_id place s) 0 in
      cond_both (has s.replicas n) (replaced_map s.region new m) m (IsFresh hashes)
      (λ _. record {
        hashes_are = replaced_map_hashes s.region new m ∙ f.hashes_are;
        zeros = λ h k l.
            subst (λ o. (v : Version) × (o ≡ Some v) × (v.timestamp ≡ 0)) (sym (replaced_at place s m h k f.hashes_are l))
            (cond_both (in_region s.region h k && is_some (value_at m.pieces h k)) (Some new) (value_at m.pieces h k) (λ o. (v : Version) × (o ≡ Some v) × (v.timestamp ≡ 0)) (λ _. (new, refl, refl)) (λ _. f.zeros h k l));
      })
      (λ _. f)

  versions_fresh : (place : ℕ) (ss : List ShardConfig) (m : Pieced Version) → IsFresh hashes m → IsFresh hashes (versions_from n place ss m)
  versions_fresh place [] m f = f
  versions_fresh place (s ∷ ss) m f = versions_fresh (place + 1) ss (after_shard n place s m) (shard_fresh place s m f)

  -- shards that do not have a pair leave it its version
  untouched : (place : ℕ) (ss : List ShardConfig) (m : Pieced Version) (h : ℕ) (k : List ℕ) → IsFresh hashes m → h < hashes → holders shard_region ss h k ≡ 0
      → value_at (versions_from n place ss m).pieces h k ≡ value_at m.pieces h k
  untouched place [] m h k f l none = refl
  untouched place (s ∷ ss) m h k f l none =
      let new : Version = point (first_id place s) 0 in
      let parts = outside (in_region s.region h k) (holders shard_region ss h k) none in
      untouched (place + 1) ss (after_shard n place s m) h k (shard_fresh place s m f) l parts.1
      ∙ cond_both (has s.replicas n) (replaced_map s.region new m) m (λ r. value_at r.pieces h k ≡ value_at m.pieces h k)
      (λ _. replaced_at place s m h k f.hashes_are l ∙ ap (λ c. cond (c && is_some (value_at m.pieces h k)) (Some new) (value_at m.pieces h k)) parts.0) (λ _. refl)
    where
      outside : (c : Bool) (t : ℕ) → ◌≡◌ {A = ℕ} (cond c (1 + t) t) 0 → (c ≡ false) × (t ≡ 0)
      outside true t e = absurd (omega arith)
      outside false t e = (refl, e)

  -- a replica beside the primary stands at the branch of its shard
  abbrev pub BeginsAt : Pieced Version → Following → Type 0
  BeginsAt versions f = (h : ℕ) (k : List ℕ) → h < hashes → in_region f.region h k ≡ true → value_at versions.pieces h k ≡ Some (point f.branch 0)

  abbrev pub BeginsWell : Pieced Version → Following → Type 0
  BeginsWell versions f = (f.got ≡ f.position + 1) × (f.session.opened ≡ f.branch) × (f.position ≡ 0) × BeginsAt versions f

  followings_begin : (place : ℕ) (ss : List ShardConfig) (m : Pieced Version) → IsFresh hashes m → ((h : ℕ) (k : List ℕ) → holders shard_region ss h k ≤ 1)
      → AllByRecursion (BeginsWell (versions_from n place ss m)) (followings_from n place ss)
  followings_begin place [] m f few = tt
  followings_begin place (s ∷ ss) m f few =
      let x : Following = setup_following (first_contract place s) s.primary (node_id n) place in
      let rest : List Following = followings_from n (place + 1) ss in
      let new : Version = point (first_id place s) 0 in
      let next : Pieced Version = after_shard n place s m in
      let all = followings_begin (place + 1) ss next (shard_fresh place s m f) (λ h k. fewer (in_region s.region h k) (holders shard_region ss h k) (few h k)) in
      let here : is_followed n s ≡ true → BeginsAt (versions_from n (place + 1) ss next) x = λ followed h k l i.
      let there = f.zeros h k l in
      untouched (place + 1) ss next h k (shard_fresh place s m f) l (inside (in_region s.region h k) (holders shard_region ss h k) i (few h k))
      ∙ ap (λ (r : Pieced Version). value_at r.pieces h k) (cond-true (has s.replicas n) (replaced_map s.region new m) m (and_parts (has s.replicas n) (not (is_led n s)) followed).0)
      ∙ replaced_at place s m h k f.hashes_are l
      ∙ ap (λ c. cond (c && is_some (value_at m.pieces h k)) (Some new) (value_at m.pieces h k)) i
      ∙ ap (λ o. cond (is_some o) (Some new) o) there.1 in
      cond_both (is_followed n s) (x ∷ rest) rest (λ (l : List Following). AllByRecursion (BeginsWell (versions_from n (place + 1) ss next)) l)
      (λ followed. ((refl, refl, refl, here followed), all)) (λ _. all)
    where
      fewer : (c : Bool) (t : ℕ) → cond c (1 + t) t ≤ 1 → t ≤ 1
      fewer true t l = omega arith
      fewer false t l = l

      inside : (c : Bool) (t : ℕ) → c ≡ true → cond c (1 + t) t ≤ 1 → t ≡ 0
      inside true t e l = omega arith
      inside false t e l = absurd (cc)

  -- each version is zero, or of the branch with which a shard of the pair begins
  abbrev IsOfShards : List ShardConfig → Branches → Pieced Version → Type 0
  IsOfShards ss older m = (h : ℕ) (k : List ℕ) → h < hashes → holders shard_region ss h k ≤ 1 → (v : Version) → value_at m.pieces h k ≡ Some v
      → (v.branch ≡ None) ⊎ ((v.branch ≡ branch_at older h k) × (holders shard_region ss h k ≡ 0))

  zero_of_shards : (ss : List ShardConfig) → IsOfShards ss [] (zero_map hashes)
  zero_of_shards ss h k l few v e = inl (ap (λ (x : Version). x.branch) (some_inner v (record { branch = None; timestamp = 0 }) (sym e ∙ zero_map_at hashes h k l)))

  one_of_shards : (place : ℕ) (s : ShardConfig) (ss : List ShardConfig) (older : Branches) (m : Pieced Version) → IsFresh hashes m → IsOfShards (s ∷ ss) older m
      → ((h : ℕ) (k : List ℕ) → holders shard_region (s ∷ ss) h k ≤ 1) → IsOfShards ss ((first_id place s, first_birth hashes s) ∷ older) (after_shard n place s m)
  one_of_shards place s ss older m f all few h k l low v e =
      let new : Version = point (first_id place s) 0 in
      let count : ℕ = holders shard_region ss h k in
      elim (in_region s.region h k) as (λ c. in_region s.region h k ≡ c → cond c (1 + count) count ≤ 1
      → ((w : Version) → value_at m.pieces h k ≡ Some w → (w.branch ≡ None) ⊎ ((w.branch ≡ branch_at older h k) × (cond c (1 + count) count ≡ 0)))
      → (v.branch ≡ None) ⊎ ((v.branch ≡ cond c (Some (first_id place s)) (branch_at older h k)) × (count ≡ 0))) [
        | true ↦ λ i one before. in_shard i (omega (arith, one)) (λ w g. elim (before w g) [ inl none ↦ none | inr b ↦ absurd (omega (arith, b.1)) ])
        | false ↦ λ out one before. before v (sym (outside out) ∙ e)
      ] refl (few h k) (λ w g. all h k l (few h k) w g)
    where
      -- a pair of another shard keeps its version
      outside : in_region s.region h k ≡ false → value_at (after_shard n place s m).pieces h k ≡ value_at m.pieces h k
      outside out =
          let new : Version = point (first_id place s) 0 in
          cond_both (has s.replicas n) (replaced_map s.region new m) m (λ (r : Pieced Version). value_at r.pieces h k ≡ value_at m.pieces h k)
          (λ _. replaced_at place s m h k f.hashes_are l ∙ ap (λ c. cond (c && is_some (value_at m.pieces h k)) (Some new) (value_at m.pieces h k)) out) (λ _. refl)

      in_shard : in_region s.region h k ≡ true → holders shard_region ss h k ≡ 0 → ((w : Version) → value_at m.pieces h k ≡ Some w → w.branch ≡ None)
          → (v.branch ≡ None) ⊎ ((v.branch ≡ Some (first_id place s)) × (holders shard_region ss h k ≡ 0))
      in_shard i none before =
          let new : Version = point (first_id place s) 0 in
          let z = f.zeros h k l in
          cond_both (has s.replicas n) (replaced_map s.region new m) m
          (λ (r : Pieced Version). value_at r.pieces h k ≡ Some v → (v.branch ≡ None) ⊎ ((v.branch ≡ Some (first_id place s)) × (holders shard_region ss h k ≡ 0)))
          (λ _ g.
          let now : value_at (replaced_map s.region new m).pieces h k ≡ Some new =
          replaced_at place s m h k f.hashes_are l ∙ ap (λ c. cond (c && is_some (value_at m.pieces h k)) (Some new) (value_at m.pieces h k)) i
          ∙ ap (λ o. cond (is_some o) (Some new) o) z.1 in
          inr (ap (λ (x : Version). x.branch) (some_inner v new (sym g ∙ now)), none))
          (λ _ g. inl (before v g)) e

  all_of_shards : (place : ℕ) (ss : List ShardConfig) (older : Branches) (m : Pieced Version) → IsFresh hashes m → ((h : ℕ) (k : List ℕ) → holders shard_region ss h k ≤ 1) → IsOfShards ss older m
      → IsOfShards [] (first_branches hashes place ss older) (versions_from n place ss m)
  all_of_shards place [] older m f few all = all
  all_of_shards place (s ∷ ss) older m f few all =
      all_of_shards (place + 1) ss ((first_id place s, first_birth hashes s) ∷ older) (after_shard n place s m) (shard_fresh place s m f) (λ h k. fewer (in_region s.region h k) (holders shard_region ss h k) (few h k))
      (one_of_shards place s ss older m f all few)
    where
      fewer : (c : Bool) (t : ℕ) → cond c (1 + t) t ≤ 1 → t ≤ 1
      fewer true t l = omega arith
      fewer false t l = l

-- ---- a node

-- a key that a node does not lead
abbrev pub Away : SetupState → ℕ → List ℕ → Type 0
Away setup n key = led n setup.shards (hash_of key setup.hashes) key ≡ 0

pub begin_kept : (setup : SetupState) → IsSetup setup → (n : ℕ) → NodeKept (Away setup n) setup [] [] (begin_node setup n).versions (executions_from n 0 setup.shards) (followings_from n 0 setup.shards)
begin_kept setup ok n =
    let versions : Pieced Version = (begin_node setup n).versions in
    let xs : List Execution = executions_from n 0 setup.shards in
    let fs : List Following = followings_from n 0 setup.shards in
    let zeros : IsFresh setup.hashes (zero_map setup.hashes) = zero_fresh setup.hashes in
    let fresh : IsFresh setup.hashes versions = versions_fresh n setup.hashes 0 setup.shards (zero_map setup.hashes) zeros in
    let of = all_of_shards n setup.hashes 0 setup.shards [] (zero_map setup.hashes) zeros (one_shard setup ok) (zero_of_shards n setup.hashes setup.shards) in
    let hash_below = λ (key : List ℕ). mod-lt (sum key) (some_hash setup ok) in
    let begins = followings_begin n setup.hashes 0 setup.shards (zero_map setup.hashes) zeros (one_shard setup ok) in
    record {
      kept = λ key away.
          let h : ℕ = hash_of key setup.hashes in
          let z = fresh.zeros h key (hash_below key) in
          record {
            version = z.0;
            stands = ap (λ c. value_at versions.pieces (hash_of key c) key) fresh.hashes_are ∙ z.1;
            row = refl;
            reached = reached_zero [] z.0.branch z.0.timestamp z.2;
            first = elim (of h key (hash_below key) (omega arith) z.0 z.1) [ inl none ↦ inl none | inr b ↦ inr b.0 ];
          };
      runs = all_from (Runs setup []) xs (λ x i. record {
        first = inr (
          λ key has. all_at (λ (y : Execution). is_for setup.hashes key y ≡ true → begun_branch setup key ≡ Some y.branch) xs (branches_begin setup ok n key) x i has,
          inl (all_at (λ (y : Execution). (y.last ≡ 0) × (y.dispatch.waiting ≡ [])) xs (nothing_begun n 0 setup.shards) x i).0,
        );
        sessions = all_at AreSessions xs (sessions_from n 0 setup.shards) x i;
      });
      follows = all_from (Follows (Away setup n) setup.hashes versions) fs (λ f i.
          let b : BeginsWell n setup.hashes versions f = all_at (BeginsWell n setup.hashes versions) fs begins f i in
          record {
            got = b.0;
            opened = b.1;
            stands = λ key has.
                ap (λ c. value_at versions.pieces (hash_of key c) key) fresh.hashes_are ∙ b.3 (hash_of key setup.hashes) key (hash_below key) has
                ∙ ap (λ p. Some (point f.branch p)) (sym b.2);
            away = λ key has.
                let here = some_there following_region fs (hash_of key setup.hashes) key f i has in
                let count = followings_followed n 0 setup.shards (hash_of key setup.hashes) key in
                let role = one_role setup ok n (hash_of key setup.hashes) key in
                omega (arith, here, count, role);
          });
    }
