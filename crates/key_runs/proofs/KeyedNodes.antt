-- What holds of each node of a run, of all operations on the keys that it leads.
use Rattle.std.proofs.Common.{◌≡◌, ◌==◌, ℕ, ◌+◌, ◌≤◌, ◌<◌, Bool, true, false, cond, ◌&&◌, List, [], ◌∷◌, ◌++◌, map, filter, Option, Some, None, is_some, refl, sym, ap, ◌∙◌, subst, inl, inr, arith, append-nil}
use Rattle.std.proofs.lemmas.Bool.{cond_both}
use Rattle.std.specs.List.{AllByRecursion}
use Rattle.change_runs.specs.runs.region_map.declared.id.NodeId.{NodeId}
use Rattle.change_runs.specs.runs.region_map.declared.region.Region.{Region}
use Rattle.change_runs.specs.runs.region_map.Nodes.{node_id, has}
use Rattle.change_runs.specs.runs.region_map.Keys.{hash_of}
use Rattle.change_runs.specs.runs.region_map.Regions.{in_region}
use Rattle.change_runs.specs.runs.region_map.Maps.{Pieced, value_at}
use Rattle.change_runs.specs.runs.branch_history.declared.version.Version.{Version}
use Rattle.change_runs.specs.runs.contract_types.declared.config.ShardConfig.{ShardConfig}
use Rattle.change_runs.specs.runs.contract_types.Tables.{first_id}
use Rattle.change_runs.specs.runs.contract_types.Setup.{SetupState, IsSetup}
use Rattle.change_runs.specs.runs.contract_types.Tilings.{holders}
use Rattle.change_runs.specs.runs.store_api.Rows.{Rows, row_of}
use Rattle.change_runs.specs.runs.store_api.Versions.{point, replaced_map, zero_map}
use Rattle.change_runs.proofs.runs.store_api.VersionMaps.{replaced_map_hashes, replaced_map_at, zero_map_hashes, zero_map_at}
use Rattle.change_runs.specs.runs.secondary_exec.declared.following.Following.{Following}
use Rattle.change_runs.specs.runs.secondary_exec.declared.waiting.Waiting.{Waiting}
use Rattle.change_runs.specs.runs.primary_exec.declared.asking.Asking.{Asking}
use Rattle.change_runs.specs.runs.primary_exec.Execution.{Execution}
use Rattle.change_runs.specs.runs.node_core.declared.journal.Entry.{Entry}
use Rattle.change_runs.specs.runs.node_core.Step.{NodeState, executions_from, versions_from, begin_node}
use Rattle.change_runs.specs.runs.Story.{Point, IsIn, points_of}
use Rattle.change_runs.specs.runs.Stored.{row_after}
use Rattle.change_runs.proofs.Asked.{is_keyed, key_path}
use Rattle.change_runs.proofs.step_runs.RegisterStory.{same_key-true}
use Rattle.change_runs.proofs.step_runs.Setups.{exec_region, following_region, nothing_begun, versions_begin}
use Rattle.change_runs.proofs.step_runs.Nodes.{holders-in, holders-rest}
pub use Rattle.change_runs.proofs.runs.list_laws.All.{all_append, all_split}
use Rattle.key_runs.proofs.Keyed.{key_path-cons}
use Rattle.key_runs.proofs.KeyedFacts.{WaitsKeyed, WaitsKeyed-more}
use Rattle.key_runs.proofs.KeyedRoles.{asking_region, waiting_region, led, followed, one_leads, executions_led, followings_followed}

-- ---- the facts

-- what a node has of the table
pub record Holding : Type 0 where
  pub setup : SetupState
  pub me : NodeId
  pub rows : Rows
  pub versions : Pieced Version
  pub asking : List Asking
  pub executions : List Execution
  pub waiting : List Waiting
  pub followings : List Following

abbrev pub holding : NodeState → Holding
holding s =
    record {
      setup = s.setup;
      me = s.me;
      rows = s.rows;
      versions = s.versions;
      asking = s.asking;
      executions = s.executions;
      waiting = s.waiting;
      followings = s.followings;
    }

-- a map with a version at each pair with a hash of the table
pub record IsFilled (hashes : ℕ) (m : Pieced Version) : Type 0 where
  pub hashes_are : m.hashes ≡ hashes
  pub some : (h : ℕ) (k : List ℕ) → h < hashes → is_some (value_at m.pieces h k) ≡ true

-- the region of an execution stands at the last point of its branch, and what is pending waits well
pub record Runs (hashes : ℕ) (past : List Entry) (versions : Pieced Version) (x : Execution) : Type 0 where
  pub stands : (h : ℕ) (k : List ℕ) → h < hashes → in_region x.contract.region h k ≡ true → value_at versions.pieces h k ≡ Some (point x.branch x.last)
  pub waiting : AllByRecursion (WaitsKeyed past) x.dispatch.waiting

abbrev pub AllRun : ℕ → List Entry → Pieced Version → List Execution → Type 0
AllRun hashes past versions xs = AllByRecursion (Runs hashes past versions) xs

-- a node executes or asks for what it leads alone, and follows or waits for what it follows alone; and its rows of the
-- keys that it leads, executing or not, are what all operations on them left
pub record KeyedNode (setup : SetupState) (past : List Entry) (n : ℕ) (s : Holding) : Type 0 where
  pub begun : s.setup ≡ setup
  pub me_is : s.me ≡ node_id n
  pub filled : IsFilled setup.hashes s.versions
  pub leads : (h : ℕ) (k : List ℕ) → holders exec_region s.executions h k + holders asking_region s.asking h k ≤ led n setup.shards h k
  pub follows : (h : ℕ) (k : List ℕ) → holders following_region s.followings h k + holders waiting_region s.waiting h k ≤ followed n setup.shards h k
  pub store : (key : List ℕ) → 1 ≤ led n setup.shards (hash_of key setup.hashes) key → row_of s.rows key ≡ row_after None (key_path past key)
  pub runs : AllRun setup.hashes past s.versions s.executions

-- ---- lists of executions

pub all_weaker : {A : Type 0} (P Q : A → Type 0) → ((x : A) → P x → Q x) → (xs : List A) → AllByRecursion P xs → AllByRecursion Q xs
all_weaker P Q step [] h = tt
all_weaker P Q step (x ∷ xs) h = (step x h.0, all_weaker P Q step xs h.1)

pub all_map : (P Q : Execution → Type 0) (f : Execution → Execution) → ((x : Execution) → P x → Q (f x)) → (xs : List Execution) → AllByRecursion P xs → AllByRecursion Q (map f xs)
all_map P Q f step [] h = tt
all_map P Q f step (x ∷ xs) h = (step x h.0, all_map P Q f step xs h.1)

-- what changes no contract keeps the regions
pub regions_map : (f : Execution → Execution) → ((x : Execution) → exec_region (f x) ≡ exec_region x) → (xs : List Execution) → (h : ℕ) (k : List ℕ)
    → holders exec_region (map f xs) h k ≡ holders exec_region xs h k
regions_map f same [] h k = refl
regions_map f same (x ∷ xs) h k = λ i. cond (in_region (same x i) h k) (1 + regions_map f same xs h k i) (regions_map f same xs h k i)

-- what waits goes on to wait
pub run_more : (hashes : ℕ) (past : List Entry) (e : Entry) (versions : Pieced Version) (x : Execution) → Runs hashes past versions x → Runs hashes (e ∷ past) versions x
run_more hashes past e versions x r = record { stands = r.stands; waiting = WaitsKeyed-more past e x.dispatch.waiting r.waiting }

-- executions stand where they stood as long as no version of their regions changes
pub all_stand : (hashes : ℕ) (past : List Entry) (count : ℕ → List ℕ → ℕ) (versions newer : Pieced Version) (xs : List Execution)
    → ((h : ℕ) (k : List ℕ) → holders exec_region xs h k + count h k ≤ 1)
    → ((h : ℕ) (k : List ℕ) → h < hashes → count h k ≡ 0 → value_at newer.pieces h k ≡ value_at versions.pieces h k)
    → AllRun hashes past versions xs → AllRun hashes past newer xs
all_stand hashes past count versions newer [] one stay r = tt
all_stand hashes past count versions newer (x ∷ xs) one stay r = (
  record {
    stands = λ h k l i.
        let few = one h k in
        let own = holders-in exec_region x xs h k i in
        stay h k l (omega (arith, few, own)) ∙ r.0.stands h k l i;
    waiting = r.0.waiting;
  },
  all_stand hashes past count versions newer xs (λ h k. let few = one h k in let own = holders-rest exec_region x xs h k in omega (arith, few, own)) stay r.1,
)

-- ---- entries without a point

module _ (past : List Entry) (e : Entry) where
  pub path_still : points_of e.input e.outputs ≡ [] → (key : List ℕ) → key_path (e ∷ past) key ≡ key_path past key
  path_still none key = key_path-cons past e key ∙ ap (λ (l : List Point). key_path past key ++ filter (is_keyed key) l) none ∙ append-nil (key_path past key)

  pub still : (setup : SetupState) (n : ℕ) (s : Holding) → points_of e.input e.outputs ≡ [] → KeyedNode setup past n s → KeyedNode setup (e ∷ past) n s
  still setup n s none f =
      record {
        begun = f.begun;
        me_is = f.me_is;
        filled = f.filled;
        leads = f.leads;
        follows = f.follows;
        store = λ key l. f.store key l ∙ ap (row_after None) (sym (path_still none key));
        runs = all_weaker (Runs setup.hashes past s.versions) (Runs setup.hashes (e ∷ past) s.versions) (run_more setup.hashes past e s.versions) s.executions f.runs;
      }

-- ---- the entry of another node

-- none of some passes
none_pass : {A : Type 0} (q : A → Bool) (xs : List A) → ((x : A) → IsIn xs x → q x ≡ false) → filter q xs ≡ []
none_pass q [] h = refl
none_pass q (x ∷ xs) h = ap (λ c. cond c (x ∷ filter q xs) (filter q xs)) (h x (inl refl)) ∙ none_pass q xs (λ y i. h y (inr i))

-- the node that takes a point leads its key
abbrev pub LeadsPoints : SetupState → ℕ → List Point → Type 0
LeadsPoints setup n ps = (p : Point) → IsIn ps p → 1 ≤ led n setup.shards (hash_of p.key setup.hashes) p.key

pub other : (setup : SetupState) → IsSetup setup → (past : List Entry) (e : Entry) (n m : ℕ) (s : Holding) → (n == m) ≡ false → LeadsPoints setup n (points_of e.input e.outputs)
    → KeyedNode setup past m s → KeyedNode setup (e ∷ past) m s
other setup ok past e n m s apart theirs f =
    record {
      begun = f.begun;
      me_is = f.me_is;
      filled = f.filled;
      leads = f.leads;
      follows = f.follows;
      store = λ key l. f.store key l ∙ ap (row_after None) (sym (same_path key l));
      runs = all_weaker (Runs setup.hashes past s.versions) (Runs setup.hashes (e ∷ past) s.versions) (run_more setup.hashes past e s.versions) s.executions f.runs;
    }
  where
    of_another : (key : List ℕ) → 1 ≤ led m setup.shards (hash_of key setup.hashes) key → (p : Point) → IsIn (points_of e.input e.outputs) p → is_keyed key p ≡ false
    of_another key l p i =
        elim (is_keyed key p) as (λ c. is_keyed key p ≡ c → c ≡ false) [
          | true ↦ λ is.
              let there : 1 ≤ led n setup.shards (hash_of key setup.hashes) key = subst (λ (k : List ℕ). 1 ≤ led n setup.shards (hash_of k setup.hashes) k) (same_key-true p.key key is) (theirs p i) in
              let few = one_leads setup ok n m (hash_of key setup.hashes) key apart in
              absurd (omega (arith, l, there, few))
          | false ↦ λ _. refl
        ] refl

    same_path : (key : List ℕ) → 1 ≤ led m setup.shards (hash_of key setup.hashes) key → key_path (e ∷ past) key ≡ key_path past key
    same_path key l =
        key_path-cons past e key ∙ ap (λ (x : List Point). key_path past key ++ x) (none_pass (is_keyed key) (points_of e.input e.outputs) (of_another key l)) ∙ append-nil (key_path past key)

-- ---- what a node begins with

zero_filled : (hashes : ℕ) → IsFilled hashes (zero_map hashes)
zero_filled hashes = record { hashes_are = zero_map_hashes hashes; some = λ h k l. ap is_some (zero_map_at hashes h k l) }

-- a version for a region fills what was filled
pub replaced_filled : (hashes : ℕ) (part : Region) (new : Version) (m : Pieced Version) → IsFilled hashes m → IsFilled hashes (replaced_map part new m)
replaced_filled hashes part new m f =
    record {
      hashes_are = replaced_map_hashes part new m ∙ f.hashes_are;
      some = λ h k l.
          let same = f.hashes_are in
          ap is_some (replaced_map_at part new m h k (omega (arith, same, l)))
          ∙ cond_both (in_region part h k && is_some (value_at m.pieces h k)) (Some new) (value_at m.pieces h k) (λ (o : Option Version). is_some o ≡ true) (λ _. refl) (λ _. f.some h k l);
    }

begin_filled : (n place hashes : ℕ) (ss : List ShardConfig) (m : Pieced Version) → IsFilled hashes m → IsFilled hashes (versions_from n place ss m)
begin_filled n place hashes [] m f = f
begin_filled n place hashes (s ∷ ss) m f =
    let new : Version = point (first_id place s) 0 in
    begin_filled n (place + 1) hashes ss (cond (has s.replicas n) (replaced_map s.region new m) m)
    (cond_both (has s.replicas n) (replaced_map s.region new m) m (IsFilled hashes) (λ _. replaced_filled hashes s.region new m f) (λ _. f))

begin_runs : (hashes : ℕ) (versions : Pieced Version) (xs : List Execution) → AllByRecursion (λ x. (x.last ≡ 0) × (x.dispatch.waiting ≡ [])) xs
    → AllByRecursion (λ x. (h : ℕ) (k : List ℕ) → h < hashes → in_region x.contract.region h k ≡ true → value_at versions.pieces h k ≡ Some (point x.branch 0)) xs
    → AllRun hashes [] versions xs
begin_runs hashes versions [] w v = tt
begin_runs hashes versions (x ∷ xs) w v = (
  record {
    stands = λ h k l i. v.0 h k l i ∙ ap (λ n. Some (point x.branch n)) (sym w.0.0);
    waiting = subst (AllByRecursion (WaitsKeyed [])) (sym w.0.1) tt;
  },
  begin_runs hashes versions xs w.1 v.1,
)

pub begin_facts : (setup : SetupState) → IsSetup setup → (n : ℕ) → KeyedNode setup [] n (holding (begin_node setup n))
begin_facts setup ok n =
    record {
      begun = refl;
      me_is = refl;
      filled = begin_filled n 0 setup.hashes setup.shards (zero_map setup.hashes) (zero_filled setup.hashes);
      leads = λ h k. let e = executions_led n 0 setup.shards h k in omega (arith, e);
      follows = λ h k. let e = followings_followed n 0 setup.shards h k in omega (arith, e);
      store = λ key l. refl;
      runs = begin_runs setup.hashes (begin_node setup n).versions (executions_from n 0 setup.shards) (nothing_begun n 0 setup.shards) (versions_begin setup ok n);
    }
