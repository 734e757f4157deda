-- What a table begins with: each pair lies in one shard at most, and a primary stands at its branch.
use Rattle.std.proofs.Common.{◌≡◌, ◌==◌, ℕ, ◌+◌, ◌<◌, ◌≤◌, Bool, true, false, cond, ◌&&◌, not, nat_lt, List, [], ◌∷◌, Option, Some, is_some, inl, inr, refl, sym, ap, ◌∙◌, arith}
use Rattle.std.proofs.lemmas.Bool.{eqb-true, cases_lt, cond_both, cond-true}
use Rattle.std.specs.List.{AllByRecursion}
use Rattle.runs.specs.region_map.declared.id.Id.{Id}
use Rattle.runs.specs.region_map.declared.id.NodeId.{NodeId}
use Rattle.runs.specs.region_map.declared.region.Region.{Region}
use Rattle.runs.specs.region_map.Nodes.{node_id, has}
use Rattle.runs.specs.region_map.Keys.{hash_of}
use Rattle.runs.specs.region_map.Regions.{in_region}
use Rattle.runs.specs.region_map.Maps.{Pieced, value_at}
use Rattle.runs.specs.branch_history.declared.version.Version.{Version}
use Rattle.runs.specs.branch_history.Paths.{Branches}
use Rattle.runs.specs.contract_types.declared.config.ShardConfig.{ShardConfig}
use Rattle.runs.specs.contract_types.declared.contract.Contract.{Contract}
use Rattle.runs.specs.contract_types.Tilings.{holders}
use Rattle.runs.specs.contract_types.Configs.{shard_region}
use Rattle.runs.specs.contract_types.Setup.{SetupState, IsSetup}
use Rattle.runs.specs.contract_types.Tables.{setup_id, first_id, first_birth, first_contract, first_branches, branch_at}
use Rattle.runs.specs.store_api.Versions.{point, replaced_map, zero_map}
use Rattle.runs.proofs.store_api.VersionMaps.{replaced_map_hashes, replaced_map_at, zero_map_hashes, zero_map_at}
use Rattle.runs.specs.exec_types.Sessions.{setup_session_name}
use Rattle.runs.specs.exec_types.declared.message.SessionName.{SessionName}
use Rattle.runs.specs.secondary_exec.declared.following.Following.{Following}
use Rattle.runs.specs.secondary_exec.Stream.{setup_following}
use Rattle.runs.specs.primary_exec.declared.session.Session.{Session}
use Rattle.runs.specs.primary_exec.Execution.{Execution, joined, begun, join_all, setup_execution}
use Rattle.runs.specs.node_core.Parts.{is_for}
use Rattle.runs.specs.node_core.Step.{is_led, is_followed, executions_from, followings_from, versions_from, begin_node}
use Rattle.runs.proofs.list_laws.All.{all_push}
use Rattle.step_runs.proofs.Begun.{begun_branch}
use Rattle.step_runs.proofs.ShardRoles.{HasRoles, setup_roles, member_below}

abbrev pub exec_region : Execution → Region
exec_region x = x.contract.region

abbrev pub following_region : Following → Region
following_region f = f.region

-- ---- one execution

-- what a server that joins leaves as it was
joins_keep : {A : Type 0} (f : Execution → A) → ((x : Execution) (server : NodeId) (name : SessionName) → f (joined x server name) ≡ f x)
    → (place : ℕ) (x : Execution) (ns : List ℕ) → f (join_all place x ns) ≡ f x
joins_keep f keeps place x [] = refl
joins_keep f keeps place x (n ∷ ns) =
    let y : Execution = joined x (node_id n) (setup_session_name place x.me (node_id n)) in
    joins_keep f keeps place (cond (n == x.me.0) x y) ns
    ∙ cond_both (n == x.me.0) x y (λ (z : Execution). f z ≡ f x) (λ _. refl) (λ _. keeps x (node_id n) (setup_session_name place x.me (node_id n)))

pub setup_contract : (contract : Contract) (me : NodeId) (place : ℕ) → (setup_execution contract me place).contract ≡ contract
setup_contract contract me place = joins_keep (λ x. x.contract) (λ x server name. refl) place (begun contract me (setup_id place me)) contract.replicas

pub setup_branch : (contract : Contract) (me : NodeId) (place : ℕ) → (setup_execution contract me place).branch ≡ setup_id place me
setup_branch contract me place = joins_keep (λ x. x.branch) (λ x server name. refl) place (begun contract me (setup_id place me)) contract.replicas

pub setup_last : (contract : Contract) (me : NodeId) (place : ℕ) → (setup_execution contract me place).last ≡ 0
setup_last contract me place = joins_keep (λ x. x.last) (λ x server name. refl) place (begun contract me (setup_id place me)) contract.replicas

pub setup_waiting : (contract : Contract) (me : NodeId) (place : ℕ) → (setup_execution contract me place).dispatch.waiting ≡ []
setup_waiting contract me place = joins_keep (λ x. x.dispatch.waiting) (λ x server name. refl) place (begun contract me (setup_id place me)) contract.replicas

-- the region is that of the shard
led_region : (place : ℕ) (s : ShardConfig) (h : ℕ) (k : List ℕ) → in_region (exec_region (setup_execution (first_contract place s) s.primary place)) h k ≡ in_region s.region h k
led_region place s h k = ap (λ (c : Contract). in_region c.region h k) (setup_contract (first_contract place s) s.primary place)

abbrev IsServer : ℕ → Session → Type 0
IsServer nodes s = nat_lt s.server.0 nodes ≡ true

joined_servers : (nodes place : ℕ) (x : Execution) (ns : List ℕ) → AllByRecursion (IsServer nodes) x.sessions → AllByRecursion (λ n. nat_lt n nodes ≡ true) ns
    → AllByRecursion (IsServer nodes) (join_all place x ns).sessions
joined_servers nodes place x [] all more = all
joined_servers nodes place x (n ∷ ns) all more =
    let name : SessionName = setup_session_name place x.me (node_id n) in
    let y : Execution = joined x (node_id n) name in
    joined_servers nodes place (cond (n == x.me.0) x y) ns
    (cond_both (n == x.me.0) x y (λ (z : Execution). AllByRecursion (IsServer nodes) z.sessions) (λ _. all)
    (λ _. all_push (IsServer nodes) x.sessions (record { server = node_id n; name = name; sent = 1; acked = 1 }) all more.0))
    more.1

-- the servers of its sessions are among its replicas
pub setup_servers : (nodes : ℕ) (contract : Contract) (me : NodeId) (place : ℕ) → AllByRecursion (λ n. nat_lt n nodes ≡ true) contract.replicas
    → AllByRecursion (λ s. nat_lt s.server.0 nodes ≡ true) (setup_execution contract me place).sessions
setup_servers nodes contract me place all = joined_servers nodes place (begun contract me (setup_id place me)) contract.replicas tt all

-- ---- which pairs a node holds

count_one : (c : Bool) (t : ℕ) → cond c (1 + t) t ≡ cond c 1 0 + t
count_one true t = refl
count_one false t = omega arith

-- one shard more
led_more : (n place : ℕ) (s : ShardConfig) (ss : List ShardConfig) (h : ℕ) (k : List ℕ)
    → holders exec_region (executions_from n place (s ∷ ss)) h k ≡ cond (is_led n s && in_region s.region h k) 1 0 + holders exec_region (executions_from n (place + 1) ss) h k
led_more n place s ss h k =
    let x : Execution = setup_execution (first_contract place s) s.primary place in
    let rest : List Execution = executions_from n (place + 1) ss in
    let t : ℕ = holders exec_region rest h k in
    elim (is_led n s) as (λ b. holders exec_region (cond b (x ∷ rest) rest) h k ≡ cond (b && in_region s.region h k) 1 0 + t) [
      | true ↦ ap (λ c. cond c (1 + t) t) (led_region place s h k) ∙ count_one (in_region s.region h k) t
      | false ↦ count_one false t
    ]

followed_more : (n place : ℕ) (s : ShardConfig) (ss : List ShardConfig) (h : ℕ) (k : List ℕ)
    → holders following_region (followings_from n place (s ∷ ss)) h k
    ≡ cond (is_followed n s && in_region s.region h k) 1 0 + holders following_region (followings_from n (place + 1) ss) h k
followed_more n place s ss h k =
    let f : Following = setup_following (first_contract place s) s.primary (node_id n) place in
    let rest : List Following = followings_from n (place + 1) ss in
    let t : ℕ = holders following_region rest h k in
    elim (is_followed n s) as (λ b. holders following_region (cond b (f ∷ rest) rest) h k ≡ cond (b && in_region s.region h k) 1 0 + t) [
      | true ↦ count_one (in_region s.region h k) t
      | false ↦ count_one false t
    ]

-- a shard that two parts do not both take
pub counts_apart : (a b c : Bool) (e f t : ℕ) → (a && b) ≡ false → e + f ≤ t → (cond (a && c) 1 0 + e) + (cond (b && c) 1 0 + f) ≤ cond c (1 + t) t
counts_apart true true c e f t apart l = absurd (cc)
counts_apart true false true e f t apart l = omega arith
counts_apart true false false e f t apart l = omega arith
counts_apart false true true e f t apart l = omega arith
counts_apart false true false e f t apart l = omega arith
counts_apart false false true e f t apart l = omega arith
counts_apart false false false e f t apart l = omega arith

pub led_or_followed : (a b : Bool) → (a && (b && not a)) ≡ false
led_or_followed true true = refl
led_or_followed true false = refl
led_or_followed false b = refl

pub at_one_node : (n place : ℕ) (ss : List ShardConfig) (h : ℕ) (k : List ℕ)
    → holders exec_region (executions_from n place ss) h k + holders following_region (followings_from n place ss) h k ≤ holders shard_region ss h k
at_one_node n place [] h k = omega arith
at_one_node n place (s ∷ ss) h k =
    let e : ℕ = holders exec_region (executions_from n (place + 1) ss) h k in
    let f : ℕ = holders following_region (followings_from n (place + 1) ss) h k in
    let c = counts_apart (is_led n s) (is_followed n s) (in_region s.region h k) e f (holders shard_region ss h k) (led_or_followed (is_led n s) (has s.replicas n)) (at_one_node n (place + 1) ss h k) in
    rw (led_more n place s ss h k, followed_more n place s ss h k) c

pub one_shard : (setup : SetupState) → IsSetup setup → (h : ℕ) (k : List ℕ) → holders shard_region setup.shards h k ≤ 1
one_shard setup ok h k =
    elim (cases_lt 1 (holders shard_region setup.shards h k)) [
      | inl two ↦ absurd (ok.config.apart (h, k, two))
      | inr few ↦ few
    ]

-- ---- with which branch and timestamp a node begins

rest_few : (c : Bool) (t : ℕ) → cond c (1 + t) t ≤ 1 → t ≤ 1
rest_few true t l = omega arith
rest_few false t l = l

rest_none : (c : Bool) (t : ℕ) → c ≡ true → cond c (1 + t) t ≤ 1 → t ≡ 0
rest_none true t e l = omega arith
rest_none false t e l = absurd (cc)

none_holds : (c : Bool) (t : ℕ) → cond c (1 + t) t ≡ 0 → (c ≡ false) × (t ≡ 0)
none_holds true t e = absurd (omega arith)
none_holds false t e = (refl, e)

-- shards that do not have a pair leave it its branch
branch_older : (hashes place : ℕ) (ss : List ShardConfig) (older : Branches) (h : ℕ) (k : List ℕ) → holders shard_region ss h k ≡ 0
    → branch_at (first_branches hashes place ss older) h k ≡ branch_at older h k
branch_older hashes place [] older h k none = refl
branch_older hashes place (s ∷ ss) older h k none =
    let parts = none_holds (in_region s.region h k) (holders shard_region ss h k) none in
    branch_older hashes (place + 1) ss ((first_id place s, first_birth hashes s) ∷ older) h k parts.1
    ∙ ap (λ c. cond c (Some (first_id place s)) (branch_at older h k)) parts.0

branches_at : (n hashes place : ℕ) (ss : List ShardConfig) (older : Branches) (h : ℕ) (k : List ℕ) → holders shard_region ss h k ≤ 1
    → AllByRecursion (λ x. in_region x.contract.region h k ≡ true → branch_at (first_branches hashes place ss older) h k ≡ Some x.branch) (executions_from n place ss)
branches_at n hashes place [] older h k few = tt
branches_at n hashes place (s ∷ ss) older h k few =
    let x : Execution = setup_execution (first_contract place s) s.primary place in
    let rest : List Execution = executions_from n (place + 1) ss in
    let newer : Branches = (first_id place s, first_birth hashes s) ∷ older in
    let P : Execution → Type 0 = λ x. in_region x.contract.region h k ≡ true → branch_at (first_branches hashes (place + 1) ss newer) h k ≡ Some x.branch in
    let all : AllByRecursion P rest = branches_at n hashes (place + 1) ss newer h k (rest_few (in_region s.region h k) (holders shard_region ss h k) few) in
    let here : P x = λ i.
    let in_shard : in_region s.region h k ≡ true = sym (led_region place s h k) ∙ i in
    branch_older hashes (place + 1) ss newer h k (rest_none (in_region s.region h k) (holders shard_region ss h k) in_shard few)
    ∙ ap (λ c. cond c (Some (first_id place s)) (branch_at older h k)) in_shard
    ∙ ap Some (sym (setup_branch (first_contract place s) s.primary place)) in
    cond_both (is_led n s) (x ∷ rest) rest (λ (l : List Execution). AllByRecursion P l) (λ _. (here, all)) (λ _. all)

pub branches_begin : (setup : SetupState) → IsSetup setup → (n : ℕ) (key : List ℕ)
    → AllByRecursion (λ x. is_for setup.hashes key x ≡ true → begun_branch setup key ≡ Some x.branch) (executions_from n 0 setup.shards)
branches_begin setup ok n key =
    branches_at n setup.hashes 0 setup.shards [] (hash_of key setup.hashes) key (one_shard setup ok (hash_of key setup.hashes) key)

pub nothing_begun : (n place : ℕ) (ss : List ShardConfig) → AllByRecursion (λ x. (x.last ≡ 0) × (x.dispatch.waiting ≡ [])) (executions_from n place ss)
nothing_begun n place [] = tt
nothing_begun n place (s ∷ ss) =
    let c : Contract = first_contract place s in
    let rest : List Execution = executions_from n (place + 1) ss in
    let all = nothing_begun n (place + 1) ss in
    cond_both (is_led n s) (setup_execution c s.primary place ∷ rest) rest (λ (l : List Execution). AllByRecursion (λ x. (x.last ≡ 0) × (x.dispatch.waiting ≡ [])) l)
    (λ _. ((setup_last c s.primary place, setup_waiting c s.primary place), all)) (λ _. all)

-- ---- at which versions a node begins

-- the versions of a node after one shard
abbrev shard_versions : ℕ → ℕ → ShardConfig → Pieced Version → Pieced Version
shard_versions n place s m = cond (has s.replicas n) (replaced_map s.region (point (first_id place s) 0) m) m

shard_hashes : (n place : ℕ) (s : ShardConfig) (m : Pieced Version) → (shard_versions n place s m).hashes ≡ m.hashes
shard_hashes n place s m =
    let new : Version = point (first_id place s) 0 in
    cond_both (has s.replicas n) (replaced_map s.region new m) m (λ (r : Pieced Version). r.hashes ≡ m.hashes) (λ _. replaced_map_hashes s.region new m) (λ _. refl)

pub versions_hashes : (n place : ℕ) (ss : List ShardConfig) (m : Pieced Version) → (versions_from n place ss m).hashes ≡ m.hashes
versions_hashes n place [] m = refl
versions_hashes n place (s ∷ ss) m = versions_hashes n (place + 1) ss (shard_versions n place s m) ∙ shard_hashes n place s m

pub begin_hashes : (setup : SetupState) (n : ℕ) → (begin_node setup n).versions.hashes ≡ setup.hashes
begin_hashes setup n = versions_hashes n 0 setup.shards (zero_map setup.hashes) ∙ zero_map_hashes setup.hashes

-- a map with a version at each pair with a hash of the table
record IsFilled (hashes : ℕ) (m : Pieced Version) : Type 0 where
  hashes_are : m.hashes ≡ hashes
  some : (h : ℕ) (k : List ℕ) → h < hashes → is_some (value_at m.pieces h k) ≡ true

zero_filled : (hashes : ℕ) → IsFilled hashes (zero_map hashes)
zero_filled hashes = record { hashes_are = zero_map_hashes hashes; some = λ h k l. ap is_some (zero_map_at hashes h k l) }

replaced_at : (m : Pieced Version) (hashes : ℕ) (part : Region) (new : Version) (h : ℕ) (k : List ℕ) → IsFilled hashes m → h < hashes
    → value_at (replaced_map part new m).pieces h k ≡ cond (in_region part h k) (Some new) (value_at m.pieces h k)
replaced_at m hashes part new h k filled l =
    let e = filled.hashes_are in
    replaced_map_at part new m h k (omega arith) ∙ ap (λ b. cond (in_region part h k && b) (Some new) (value_at m.pieces h k)) (filled.some h k l) ∙ ap (λ b. cond b (Some new) (value_at m.pieces h k)) (and_true (in_region part h k))
  where
    and_true : (b : Bool) → (b && true) ≡ b
    and_true true = refl
    and_true false = refl

shard_filled : (n place hashes : ℕ) (s : ShardConfig) (m : Pieced Version) → IsFilled hashes m → IsFilled hashes (shard_versions n place s m)
shard_filled n place hashes s m filled =
    let new : Version = point (first_id place s) 0 in
    cond_both (has s.replicas n) (replaced_map s.region new m) m (IsFilled hashes)
    (λ _. record {
      hashes_are = replaced_map_hashes s.region new m ∙ filled.hashes_are;
      some = λ h k l. ap is_some (replaced_at m hashes s.region new h k filled l)
          ∙ cond_both (in_region s.region h k) (Some new) (value_at m.pieces h k) (λ (o : Option Version). is_some o ≡ true) (λ _. refl) (λ _. filled.some h k l);
    })
    (λ _. filled)

-- shards that do not have a pair leave it its version
versions_keep : (n place hashes : ℕ) (ss : List ShardConfig) (m : Pieced Version) (h : ℕ) (k : List ℕ) → IsFilled hashes m → h < hashes → holders shard_region ss h k ≡ 0
    → value_at (versions_from n place ss m).pieces h k ≡ value_at m.pieces h k
versions_keep n place hashes [] m h k filled l none = refl
versions_keep n place hashes (s ∷ ss) m h k filled l none =
    let new : Version = point (first_id place s) 0 in
    let parts = none_holds (in_region s.region h k) (holders shard_region ss h k) none in
    versions_keep n (place + 1) hashes ss (shard_versions n place s m) h k (shard_filled n place hashes s m filled) l parts.1
    ∙ cond_both (has s.replicas n) (replaced_map s.region new m) m (λ (r : Pieced Version). value_at r.pieces h k ≡ value_at m.pieces h k)
    (λ _. replaced_at m hashes s.region new h k filled l ∙ ap (λ c. cond c (Some new) (value_at m.pieces h k)) parts.0) (λ _. refl)

-- ---- a primary stands at the branch of its shard

led_replica : (nodes n : ℕ) (s : ShardConfig) → HasRoles nodes s → is_led n s ≡ true → has s.replicas n ≡ true
led_replica nodes n s roles led = ap (has s.replicas) (sym (eqb-true s.primary.0 n led)) ∙ roles.primary

versions_at : (n place nodes hashes : ℕ) (ss : List ShardConfig) (m : Pieced Version) → IsFilled hashes m → AllByRecursion (HasRoles nodes) ss
    → ((h : ℕ) (k : List ℕ) → holders shard_region ss h k ≤ 1)
    → AllByRecursion (λ x. (h : ℕ) (k : List ℕ) → h < hashes → in_region x.contract.region h k ≡ true → value_at (versions_from n place ss m).pieces h k ≡ Some (point x.branch 0)) (executions_from n place ss)
versions_at n place nodes hashes [] m filled roles few = tt
versions_at n place nodes hashes (s ∷ ss) m filled roles few =
    let x : Execution = setup_execution (first_contract place s) s.primary place in
    let rest : List Execution = executions_from n (place + 1) ss in
    let new : Version = point (first_id place s) 0 in
    let next : Pieced Version = shard_versions n place s m in
    let now_filled : IsFilled hashes next = shard_filled n place hashes s m filled in
    let P : Execution → Type 0 = λ x. (h : ℕ) (k : List ℕ) → h < hashes → in_region x.contract.region h k ≡ true → value_at (versions_from n (place + 1) ss next).pieces h k ≡ Some (point x.branch 0) in
    let all : AllByRecursion P rest = versions_at n (place + 1) nodes hashes ss next now_filled roles.1
    (λ h k. rest_few (in_region s.region h k) (holders shard_region ss h k) (few h k)) in
    let here : is_led n s ≡ true → P x = λ led h k l i.
    let in_shard : in_region s.region h k ≡ true = sym (led_region place s h k) ∙ i in
    versions_keep n (place + 1) hashes ss next h k now_filled l (rest_none (in_region s.region h k) (holders shard_region ss h k) in_shard (few h k))
    ∙ ap (λ (r : Pieced Version). value_at r.pieces h k) (cond-true (has s.replicas n) (replaced_map s.region new m) m (led_replica nodes n s roles.0 led))
    ∙ replaced_at m hashes s.region new h k filled l
    ∙ ap (λ c. cond c (Some new) (value_at m.pieces h k)) in_shard
    ∙ ap (λ (b : Id). Some (point b 0)) (sym (setup_branch (first_contract place s) s.primary place)) in
    cond_both (is_led n s) (x ∷ rest) rest (λ (l : List Execution). AllByRecursion P l) (λ led. (here led, all)) (λ _. all)

pub versions_begin : (setup : SetupState) → IsSetup setup → (n : ℕ)
    → AllByRecursion (λ x. (h : ℕ) (k : List ℕ) → h < setup.hashes → in_region x.contract.region h k ≡ true
    → value_at (versions_from n 0 setup.shards (zero_map setup.hashes)).pieces h k ≡ Some (point x.branch 0)) (executions_from n 0 setup.shards)
versions_begin setup ok n =
    versions_at n 0 setup.nodes setup.hashes setup.shards (zero_map setup.hashes) (zero_filled setup.hashes) (setup_roles setup ok) (one_shard setup ok)

-- ---- the nodes of a table

-- the servers of sessions and the primaries of followings are nodes of the table
abbrev pub AreServersWithin : ℕ → List Execution → Type 0
AreServersWithin nodes xs = AllByRecursion (λ x. AllByRecursion (λ s. nat_lt s.server.0 nodes ≡ true) x.sessions) xs

abbrev pub ArePrimariesWithin : ℕ → List Following → Type 0
ArePrimariesWithin nodes fs = AllByRecursion (λ f. nat_lt f.primary.0 nodes ≡ true) fs

servers_within : (nodes n place : ℕ) (ss : List ShardConfig) → AllByRecursion (HasRoles nodes) ss → AreServersWithin nodes (executions_from n place ss)
servers_within nodes n place [] roles = tt
servers_within nodes n place (s ∷ ss) roles =
    let c : Contract = first_contract place s in
    let all = servers_within nodes n (place + 1) ss roles.1 in
    cond_both (is_led n s) (setup_execution c s.primary place ∷ executions_from n (place + 1) ss) (executions_from n (place + 1) ss) (AreServersWithin nodes)
    (λ _. (setup_servers nodes c s.primary place roles.0.replicas, all)) (λ _. all)

primaries_within : (nodes n place : ℕ) (ss : List ShardConfig) → AllByRecursion (HasRoles nodes) ss → ArePrimariesWithin nodes (followings_from n place ss)
primaries_within nodes n place [] roles = tt
primaries_within nodes n place (s ∷ ss) roles =
    let f : Following = setup_following (first_contract place s) s.primary (node_id n) place in
    let all = primaries_within nodes n (place + 1) ss roles.1 in
    cond_both (is_followed n s) (f ∷ followings_from n (place + 1) ss) (followings_from n (place + 1) ss) (ArePrimariesWithin nodes)
    (λ _. (member_below nodes s.replicas s.primary.0 roles.0.replicas roles.0.primary, all)) (λ _. all)

pub begins_within : (setup : SetupState) → IsSetup setup → (n : ℕ) → n < setup.nodes
    → AreServersWithin setup.nodes (executions_from n 0 setup.shards) × ArePrimariesWithin setup.nodes (followings_from n 0 setup.shards)
begins_within setup ok n below =
    let roles = setup_roles setup ok in
    (servers_within setup.nodes n 0 setup.shards roles, primaries_within setup.nodes n 0 setup.shards roles)
