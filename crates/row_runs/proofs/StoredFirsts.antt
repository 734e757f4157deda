-- The path of a branch with which a shard begins has the points of that branch alone. At a node that executes it these are all
-- points of the key.
use Rattle.std.proofs.Common.{◌≡◌, ℕ, ◌+◌, ◌≤◌, ◌<◌, Bool, true, false, cond, ◌&&◌, ◌||◌, nat_lt, nat_le, List, [], ◌∷◌, Option, Some, None, inl, inr, refl, sym, ap, ◌∙◌, subst, arith, append-nil, sum}
use Rattle.std.proofs.Math.Nat.{mod-lt}
use Rattle.std.proofs.lemmas.Bool.{false≢true, cases_Bool, both_ways, cond_both, and_parts, eqb-true, false_from_ne_true, ltb-true, le-leb}
use Rattle.std.specs.List.{list_any}
use Rattle.path_runs.specs.runs.region_map.declared.id.Id.{Id}
use Rattle.path_runs.specs.runs.region_map.Equal.{id_decides, same_id}
use Rattle.path_runs.specs.runs.region_map.Keys.{hash_of}
use Rattle.path_runs.specs.runs.region_map.Regions.{in_region}
use Rattle.path_runs.specs.runs.region_map.Maps.{value_at}
use Rattle.path_runs.specs.runs.branch_history.declared.version.Version.{Version}
use Rattle.path_runs.specs.runs.branch_history.declared.history.BranchBirth.{BranchBirth}
use Rattle.path_runs.specs.runs.branch_history.Paths.{Branches, zero, or_zero, origin_at, is_on}
use Rattle.path_runs.specs.runs.branch_history.Histories.{birth_of, IsHistory}
use Rattle.path_runs.proofs.runs.branch_history.PathLaws.{id_same, id_self, on_zero}
use Rattle.path_runs.proofs.runs.branch_history.Births.{inside_birth}
use Rattle.path_runs.specs.runs.contract_types.declared.config.ShardConfig.{ShardConfig}
use Rattle.path_runs.specs.runs.contract_types.Setup.{SetupState, IsSetup, is_hashes}
use Rattle.path_runs.specs.runs.contract_types.Tables.{first_id, first_birth, first_branches}
use Rattle.path_runs.proofs.runs.table_apply.Tables.{registered}
use Rattle.path_runs.specs.runs.store_api.Rows.{has_key, row_of}
use Rattle.path_runs.specs.runs.store_api.Versions.{point}
use Rattle.path_runs.specs.runs.primary_exec.Execution.{Execution}
use Rattle.path_runs.specs.runs.node_core.declared.journal.Entry.{Entry}
use Rattle.path_runs.specs.runs.node_core.Parts.{is_for}
use Rattle.path_runs.specs.runs.node_core.Step.{NodeState, is_led}
use Rattle.path_runs.specs.runs.Run.{state, IsRun}
use Rattle.path_runs.specs.runs.Story.{Point, IsIn, points, same_key}
use Rattle.path_runs.specs.runs.Stored.{row_after}
use Rattle.path_runs.proofs.change_runs.Asked.{is_keyed, history_of, LedFacts}
use Rattle.path_runs.proofs.change_runs.AskedRuns.{contracts_stay}
use Rattle.path_runs.proofs.step_runs.Begun.{begun_branch, is_branch}
use Rattle.path_runs.proofs.key_runs.KeyedNodes.{Runs, KeyedNode, holding}
use Rattle.path_runs.proofs.key_runs.KeyedRoles.{led}
use Rattle.path_runs.proofs.key_runs.KeyedRuns.{keyed_nodes, some_hash}
use Rattle.path_runs.proofs.change_runs.LedHistories.{some_inner, newer_apart, birth_known, birth_longer}
use Rattle.path_runs.proofs.lead_runs.LedKeys.{led_facts}
use Rattle.path_runs.proofs.lead_runs.LedRoles.{some_there}
use Rattle.path_runs.proofs.lead_runs.LedRuns.{history_grows, is_history}
use Rattle.path_runs.proofs.step_runs.PointBranches.{all_at, all_from}
use Rattle.path_runs.proofs.step_runs.Setups.{exec_region}
use Rattle.path_runs.proofs.step_runs.ShardRoles.{HasRoles, setup_roles, member_below}
use Rattle.path_runs.proofs.change_runs.StoredPaths.{is_up_to, is_keyed_to, row_at, filter-same}

-- ---- the branches with which a table begins

-- a branch is of a first life, begins at timestamp 0, and goes on from nothing
abbrev BeginsPlain : Id → BranchBirth → Type 0
BeginsPlain id b = (b.initial ≡ 0) × ((h : ℕ) (k : List ℕ) → origin_at b h k ≡ zero) × (id.life ≡ 1)

plain_births : (hashes place : ℕ) (ss : List ShardConfig) (older : Branches) (id : Id) (b : BranchBirth) → ((i : Id) (c : BranchBirth) → birth_of older i ≡ Some c → BeginsPlain i c)
    → birth_of (first_branches hashes place ss older) id ≡ Some b → BeginsPlain id b
plain_births hashes place [] older id b all e = all id b e
plain_births hashes place (s ∷ ss) older id b all e =
    plain_births hashes (place + 1) ss ((first_id place s, first_birth hashes s) ∷ older) id b
    (λ i c f. elim (same_id (first_id place s) i) as (λ v. same_id (first_id place s) i ≡ v → cond v (Some (first_birth hashes s)) (birth_of older i) ≡ Some c → BeginsPlain i c) [
      | true ↦ λ is g.
          subst (BeginsPlain i) (some_inner (first_birth hashes s) c g) (
            refl,
            λ h k. cond_both (in_region s.region h k) (Some zero) None (λ (o : Option Version). or_zero o ≡ zero) (λ _. refl) (λ _. refl),
            ap (λ (b : Id). b.life) (sym (id_same (first_id place s) i is)),
          )
      | false ↦ λ _ g. all i c g
    ] refl f) e

same_turned : (a b : Id) → same_id a b ≡ same_id b a
same_turned a b =
    elim (cases_Bool (same_id a b)) [
      | inl t ↦ t ∙ sym ((id_decides b a).1 (sym (id_same a b t)))
      | inr f ↦ f ∙ sym (false_from_ne_true (same_id b a) (λ e. both_ways (same_id a b) f (subst (λ (i : Id). same_id a i ≡ true) (sym ((id_decides b a).0 e)) (id_self a))))
    ]

without_rest : (a d i c r : Bool) → a ≡ d → i ≡ true → r ≡ false → cond (a && (i && c)) true r ≡ (d && c)
without_rest a d i c r ea ei er = (λ j. cond (ea j && (ei j && c)) true (er j)) ∙ itself (d && c)
  where
    itself : (b : Bool) → cond b true false ≡ b
    itself true = refl
    itself false = refl

-- the birth of such a branch, in the table of a node
pub record IsBegun (setup : SetupState) (past : List Entry) (n : ℕ) (key : List ℕ) (b : Id) : Type 0 where
  pub birth : BranchBirth
  pub registered : birth_of (history_of setup n past) b ≡ Some birth
  pub inside : in_region birth.region (hash_of key setup.hashes) key ≡ true
  pub initial : birth.initial ≡ 0
  pub life : b.life ≡ 1
  pub origin : origin_at birth (hash_of key setup.hashes) key ≡ zero

pub is_begun : (setup : SetupState) → IsSetup setup → (past : List Entry) → IsRun setup past → (n : ℕ) (key : List ℕ) (b : Id) → begun_branch setup key ≡ Some b → IsBegun setup past n key b
is_begun setup ok past run n key b begun =
    let h : ℕ = hash_of key setup.hashes in
    let first : Branches = history_of setup n [] in
    let reg = registered setup [] 0 h key b begun in
    let plain = plain_births setup.hashes 0 setup.shards [] b reg.0 (λ i c e. absurd (cc e)) reg.1 in
    let longer = history_grows setup past [] run (record { later = past; is = sym (append-nil past) }) n in
    let hist = is_history setup past run n in
    record {
      birth = reg.0;
      registered =
          ap (λ (l : Branches). birth_of l b) longer.is
          ∙ birth_longer longer.newer first b (newer_apart longer.newer first b (subst IsHistory longer.is hist) (birth_known first b reg.0 reg.1)) ∙ reg.1;
      inside = reg.2;
      initial = plain.0;
      life = plain.2;
      origin = plain.1 h key;
    }

-- a point lies on the path of a version of such a branch where it is one of the branch up to its timestamp
pub on_begun : (setup : SetupState) → IsSetup setup → (past : List Entry) → IsRun setup past → (n : ℕ) (key : List ℕ) (b : Id) (v : Version) (p : Point) → begun_branch setup key ≡ Some b → v.branch ≡ Some b
    → is_on (history_of setup n past) (hash_of key setup.hashes) key v (point p.branch p.timestamp) ≡ is_up_to v p
on_begun setup ok past run n key b v p begun of =
    let h : ℕ = hash_of key setup.hashes in
    let x : Version = point p.branch p.timestamp in
    let bs : Branches = history_of setup n past in
    let i = is_begun setup ok past run n key b begun in
    let start : nat_le i.birth.initial p.timestamp ≡ true = let zero_is = i.initial in le-leb i.birth.initial p.timestamp (omega (arith, zero_is)) in
    let rest : is_on bs h key (origin_at i.birth h key) x ≡ false = ap (λ (o : Version). is_on bs h key o x) i.origin ∙ on_zero bs h key x in
    inside_birth bs h key b i.birth v x (is_history setup past run n) i.registered of i.inside
    ∙ without_rest (same_id p.branch b) (same_id b p.branch) (nat_le i.birth.initial p.timestamp) (nat_le p.timestamp v.timestamp) (is_on bs h key (origin_at i.birth h key) x) (same_turned p.branch b) start rest
    ∙ ap (λ (o : Option Id). is_branch o p.branch && nat_le p.timestamp v.timestamp) (sym of)

-- ---- the node that leads a key

record LedShard (n : ℕ) (ss : List ShardConfig) (h : ℕ) (k : List ℕ) : Type 0 where
  shard : ShardConfig
  is_in : IsIn ss shard
  node_is : shard.primary.0 ≡ n
  inside : in_region shard.region h k ≡ true

led_shard : (n : ℕ) (ss : List ShardConfig) (h : ℕ) (k : List ℕ) → 1 ≤ led n ss h k → LedShard n ss h k
led_shard n [] h k l = absurd (omega (arith, l))
led_shard n (s ∷ ss) h k l =
    elim (is_led n s && in_region s.region h k) as (λ c. (is_led n s && in_region s.region h k) ≡ c → 1 ≤ cond c 1 0 + led n ss h k → LedShard n (s ∷ ss) h k) [
      | true ↦ λ e _. let both = and_parts (is_led n s) (in_region s.region h k) e in record { shard = s; is_in = inl refl; node_is = eqb-true s.primary.0 n both.0; inside = both.1 }
      | false ↦ λ _ m. let r = led_shard n ss h k (omega (arith, m)) in record { shard = r.shard; is_in = inr r.is_in; node_is = r.node_is; inside = r.inside }
    ] refl l

pub leading : (setup : SetupState) → IsSetup setup → (past : List Entry) → IsRun setup past → (n : ℕ) (key : List ℕ) → 1 ≤ led n setup.shards (hash_of key setup.hashes) key → LedFacts setup past (hash_of key setup.hashes) key n
leading setup ok past run n key l =
    let s = led_shard n setup.shards (hash_of key setup.hashes) key l in
    subst (LedFacts setup past (hash_of key setup.hashes) key) s.node_is (led_facts setup ok past run key s.shard s.is_in s.inside)

-- it is a node of the table
pub leader_below : (setup : SetupState) → IsSetup setup → (n h : ℕ) (k : List ℕ) → 1 ≤ led n setup.shards h k → n < setup.nodes
leader_below setup ok n h k l =
    let s = led_shard n setup.shards h k l in
    let roles : HasRoles setup.nodes s.shard = all_at (HasRoles setup.nodes) setup.shards (setup_roles setup ok) s.shard s.is_in in
    subst (λ m. m < setup.nodes) s.node_is (ltb-true s.shard.primary.0 setup.nodes (member_below setup.nodes s.shard.replicas s.shard.primary.0 roles.replicas roles.primary))

-- as the first one is
pub some_node : (setup : SetupState) → IsSetup setup → 0 < setup.nodes
some_node setup ok =
    ltb-true 0 setup.nodes (and_parts (nat_lt 0 setup.nodes) (nat_le setup.nodes 7) (and_parts (nat_lt 0 setup.nodes && nat_le setup.nodes 7) (is_hashes setup.hashes) ok.fits).0).0

-- who leads a shard of the key
pub leads_key : (n hashes : ℕ) (key : List ℕ) (ss : List ShardConfig) → list_any (λ s. is_led n s && has_key s.region hashes key) ss ≡ true → 1 ≤ led n ss (hash_of key hashes) key
leads_key n hashes key [] e = absurd (false≢true e)
leads_key n hashes key (s ∷ ss) e =
    elim (is_led n s && has_key s.region hashes key) as (λ c. (c || list_any (λ t. is_led n t && has_key t.region hashes key) ss) ≡ true → 1 ≤ cond c 1 0 + led n ss (hash_of key hashes) key) [
      | true ↦ λ _. omega arith
      | false ↦ λ r. let more = leads_key n hashes key ss r in omega (arith, more)
    ] e

pub keyed_node : (setup : SetupState) → IsSetup setup → (past : List Entry) → IsRun setup past → (n : ℕ) → KeyedNode setup past n (holding (state setup n past))
keyed_node setup ok past run n = (keyed_nodes setup ok (contracts_stay setup ok) past run).1 n

-- what an execution of a first branch has written is the path of its last point
pub first_row : (setup : SetupState) → IsSetup setup → (past : List Entry) → IsRun setup past → (n : ℕ) (x : Execution) → IsIn (state setup n past).executions x → (key : List ℕ) → is_for setup.hashes key x ≡ true
    → begun_branch setup key ≡ Some x.branch → row_of (state setup n past).rows key ≡ row_at (points past) key (point x.branch x.last)
first_row setup ok past run n x i key has begun =
    let s : NodeState = state setup n past in
    let h : ℕ = hash_of key setup.hashes in
    let v : Version = point x.branch x.last in
    let f = keyed_node setup ok past run n in
    let there = some_there exec_region s.executions h key x i has in
    let leads = f.leads h key in
    let here : 1 ≤ led n setup.shards h key = omega (arith, there, leads) in
    let l = leading setup ok past run n key here in
    let stands : value_at s.versions.pieces h key ≡ Some v = (all_at (Runs setup.hashes past s.versions) s.executions f.runs x i).stands h key (mod-lt (sum key) (some_hash setup ok)) has in
    let same : l.version ≡ v = some_inner l.version v (sym l.version_is ∙ stands) in
    let on = λ (p : Point) (j : IsIn (points past) p) (keyed : is_keyed key p ≡ true).
    sym (on_begun setup ok past run n key x.branch v p begun refl)
    ∙ subst (λ (w : Version). is_on (history_of setup n past) h key w (point p.branch p.timestamp) ≡ true) same (l.points_on p j keyed) in
    f.store key here
    ∙ ap (row_after None)
    (filter-same (IsIn (points past)) (is_keyed key) (is_keyed_to key v) (λ p j. test p v (on p j)) (points past) (all_from (IsIn (points past)) (points past) (λ p j. j)))
  where
    test : (p : Point) (v : Version) → (is_keyed key p ≡ true → is_up_to v p ≡ true) → is_keyed key p ≡ is_keyed_to key v p
    test p v up =
        elim (same_key p.key key) as (λ b. same_key p.key key ≡ b → b ≡ (b && is_up_to v p)) [
          | true ↦ λ e. sym (up e)
          | false ↦ λ _. refl
        ] refl
