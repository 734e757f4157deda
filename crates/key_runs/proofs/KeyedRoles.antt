-- Which pairs of a hash and a key a node leads and follows, and that it has a part in no other ones.
use Rattle.std.proofs.Common.{◌≡◌, ◌==◌, ℕ, ◌+◌, ◌≤◌, Bool, true, false, cond, ◌&&◌, nat_lt, List, [], ◌∷◌, ◌++◌, Some, None, refl, ap, ◌∙◌, arith}
use Rattle.std.proofs.lemmas.Bool.{cond_both}
use Rattle.std.proofs.lemmas.Bool.Decides.{nat_tests}
use Rattle.change_runs.specs.runs.region_map.declared.id.NodeId.{NodeId}
use Rattle.change_runs.specs.runs.region_map.declared.region.Region.{Region}
use Rattle.change_runs.specs.runs.region_map.Nodes.{node_id, has}
use Rattle.change_runs.specs.runs.region_map.Regions.{in_region}
use Rattle.change_runs.specs.runs.contract_types.declared.config.ShardConfig.{ShardConfig}
use Rattle.change_runs.specs.runs.contract_types.declared.contract.Contract.{Contract}
use Rattle.change_runs.specs.runs.contract_types.Tilings.{holders}
use Rattle.change_runs.specs.runs.contract_types.Configs.{shard_region}
use Rattle.change_runs.specs.runs.contract_types.Setup.{SetupState, IsSetup}
use Rattle.change_runs.specs.runs.contract_types.Tables.{first_contract, first_contracts}
use Rattle.change_runs.specs.runs.secondary_exec.declared.following.Following.{Following}
use Rattle.change_runs.specs.runs.secondary_exec.declared.waiting.Waiting.{Waiting}
use Rattle.change_runs.specs.runs.secondary_exec.Stream.{setup_following}
use Rattle.change_runs.specs.runs.primary_exec.declared.asking.Asking.{Asking}
use Rattle.change_runs.specs.runs.primary_exec.Execution.{Execution, setup_execution}
use Rattle.change_runs.specs.runs.node_core.Starting.{place_of, placed}
use Rattle.change_runs.specs.runs.node_core.Step.{is_led, is_followed, executions_from, followings_from, id_in, askings_from, waiting_with, waitings_from}
use Rattle.change_runs.proofs.step_runs.Setups.{exec_region, following_region, setup_contract, one_shard, counts_apart, led_or_followed}

abbrev pub asking_region : Asking → Region
asking_region a = a.contract.region

abbrev pub waiting_region : Waiting → Region
waiting_region w = w.region

-- ---- counts

-- how many of some shards have the pair and the node as their primary
abbrev pub led : ℕ → List ShardConfig → ℕ → List ℕ → ℕ
led n [] h k = 0
led n (s ∷ ss) h k = cond (is_led n s && in_region s.region h k) 1 0 + led n ss h k

-- how many of them have the pair and the node as a replica beside their primary
abbrev pub followed : ℕ → List ShardConfig → ℕ → List ℕ → ℕ
followed n [] h k = 0
followed n (s ∷ ss) h k = cond (is_followed n s && in_region s.region h k) 1 0 + followed n ss h k

led_once : (n m : ℕ) (s : ShardConfig) → (n == m) ≡ false → (is_led n s && is_led m s) ≡ false
led_once n m s apart = grind (arith, nat_tests)

at_one_of : (n : ℕ) (ss : List ShardConfig) (h : ℕ) (k : List ℕ) → led n ss h k + followed n ss h k ≤ holders shard_region ss h k
at_one_of n [] h k = omega arith
at_one_of n (s ∷ ss) h k =
    counts_apart (is_led n s) (is_followed n s) (in_region s.region h k) (led n ss h k) (followed n ss h k) (holders shard_region ss h k)
    (led_or_followed (is_led n s) (has s.replicas n)) (at_one_of n ss h k)

at_two_of : (n m : ℕ) (ss : List ShardConfig) (h : ℕ) (k : List ℕ) → (n == m) ≡ false → led n ss h k + led m ss h k ≤ holders shard_region ss h k
at_two_of n m [] h k apart = omega arith
at_two_of n m (s ∷ ss) h k apart =
    counts_apart (is_led n s) (is_led m s) (in_region s.region h k) (led n ss h k) (led m ss h k) (holders shard_region ss h k)
    (led_once n m s apart) (at_two_of n m ss h k apart)

-- a node leads or follows one shard of a pair at most
pub one_role : (setup : SetupState) → IsSetup setup → (n h : ℕ) (k : List ℕ) → led n setup.shards h k + followed n setup.shards h k ≤ 1
one_role setup ok n h k =
    let a = at_one_of n setup.shards h k in
    let b = one_shard setup ok h k in
    omega (arith, a, b)

-- two nodes do not both lead a pair
pub one_leads : (setup : SetupState) → IsSetup setup → (n m h : ℕ) (k : List ℕ) → (n == m) ≡ false → led n setup.shards h k + led m setup.shards h k ≤ 1
one_leads setup ok n m h k apart =
    let a = at_two_of n m setup.shards h k apart in
    let b = one_shard setup ok h k in
    omega (arith, a, b)

-- ---- lists

pub holders-append : {T : Type 0} (place : T → Region) (xs ys : List T) (h : ℕ) (k : List ℕ) → holders place (xs ++ ys) h k ≡ holders place xs h k + holders place ys h k
holders-append place [] ys h k = omega arith
holders-append place (x ∷ xs) ys h k =
    let rest = holders-append place xs ys h k in
    elim (in_region (place x) h k) as (λ b. cond b (1 + holders place (xs ++ ys) h k) (holders place (xs ++ ys) h k) ≡ cond b (1 + holders place xs h k) (holders place xs h k) + holders place ys h k) [
      | true ↦ omega (arith, rest)
      | false ↦ rest
    ]

-- an execution that is put among others counts for its own region
pub holders-placed : (cs : List Contract) (x : Execution) (ys : List Execution) (h : ℕ) (k : List ℕ)
    → holders exec_region (placed cs x ys) h k ≡ holders exec_region (x ∷ []) h k + holders exec_region ys h k
holders-placed cs x [] h k = omega arith
holders-placed cs x (y ∷ ys) h k =
    let rest = holders-placed cs x ys h k in
    let two = holders-append exec_region (x ∷ []) (y ∷ ys) h k in
    let more = holders-append exec_region (y ∷ []) (placed cs x ys) h k in
    let least = holders-append exec_region (y ∷ []) ys h k in
    cond_both (nat_lt (place_of cs x.contract.id) (place_of cs y.contract.id)) (x ∷ y ∷ ys) (y ∷ placed cs x ys)
    (λ (l : List Execution). holders exec_region l h k ≡ holders exec_region (x ∷ []) h k + holders exec_region (y ∷ ys) h k)
    (λ _. two) (λ _. omega (arith, rest, more, least))

-- one that has a region, where it is taken
taken_one : (taken c : Bool) (more t : ℕ) → more ≡ t → cond taken (cond c (1 + more) more) more ≡ cond (taken && c) 1 0 + t
taken_one true true more t e = omega (arith, e)
taken_one true false more t e = omega (arith, e)
taken_one false c more t e = omega (arith, e)

pub executions_led : (n place : ℕ) (ss : List ShardConfig) (h : ℕ) (k : List ℕ) → holders exec_region (executions_from n place ss) h k ≡ led n ss h k
executions_led n place [] h k = refl
executions_led n place (s ∷ ss) h k =
    let x : Execution = setup_execution (first_contract place s) s.primary place in
    let rest : List Execution = executions_from n (place + 1) ss in
    let region : in_region (exec_region x) h k ≡ in_region s.region h k = ap (λ (c : Contract). in_region c.region h k) (setup_contract (first_contract place s) s.primary place) in
    elim (is_led n s) as (λ b. holders exec_region (cond b (x ∷ rest) rest) h k ≡ cond (b && in_region s.region h k) 1 0 + led n ss h k) [
      | true ↦ ap (λ c. cond c (1 + holders exec_region rest h k) (holders exec_region rest h k)) region
          ∙ taken_one true (in_region s.region h k) (holders exec_region rest h k) (led n ss h k) (executions_led n (place + 1) ss h k)
      | false ↦ taken_one false (in_region s.region h k) (holders exec_region rest h k) (led n ss h k) (executions_led n (place + 1) ss h k)
    ]

pub followings_followed : (n place : ℕ) (ss : List ShardConfig) (h : ℕ) (k : List ℕ) → holders following_region (followings_from n place ss) h k ≡ followed n ss h k
followings_followed n place [] h k = refl
followings_followed n place (s ∷ ss) h k =
    let f : Following = setup_following (first_contract place s) s.primary (node_id n) place in
    let rest : List Following = followings_from n (place + 1) ss in
    elim (is_followed n s) as (λ b. holders following_region (cond b (f ∷ rest) rest) h k ≡ cond (b && in_region s.region h k) 1 0 + followed n ss h k) [
      | true ↦ taken_one true (in_region s.region h k) (holders following_region rest h k) (followed n ss h k) (followings_followed n (place + 1) ss h k)
      | false ↦ taken_one false (in_region s.region h k) (holders following_region rest h k) (followed n ss h k) (followings_followed n (place + 1) ss h k)
    ]

-- ---- with which it comes up again, under the contracts with which its table began

pub askings_led : (me : NodeId) (life next place : ℕ) (ss : List ShardConfig) (h : ℕ) (k : List ℕ)
    → holders asking_region (askings_from me life next (first_contracts place ss)) h k ≡ led me.0 ss h k
askings_led me life next place [] h k = refl
askings_led me life next place (s ∷ ss) h k =
    let cs : List Contract = first_contracts (place + 1) ss in
    let a : Asking = record { contract = first_contract place s; branch = id_in me life next } in
    elim (is_led me.0 s) as (λ b. holders asking_region (cond b (a ∷ askings_from me life (next + 1) cs) (askings_from me life next cs)) h k ≡ cond (b && in_region s.region h k) 1 0 + led me.0 ss h k) [
      | true ↦ taken_one true (in_region s.region h k) (holders asking_region (askings_from me life (next + 1) cs) h k) (led me.0 ss h k) (askings_led me life (next + 1) (place + 1) ss h k)
      | false ↦ taken_one false (in_region s.region h k) (holders asking_region (askings_from me life next cs) h k) (led me.0 ss h k) (askings_led me life next (place + 1) ss h k)
    ]

pub waitings_followed : (me : NodeId) (life next place : ℕ) (ss : List ShardConfig) (h : ℕ) (k : List ℕ)
    → holders waiting_region (waitings_from me life next (first_contracts place ss)) h k ≡ followed me.0 ss h k
waitings_followed me life next place [] h k = refl
waitings_followed me life next place (s ∷ ss) h k =
    let c : Contract = first_contract place s in
    let rest : ℕ → List Waiting = λ n. waitings_from me life n (first_contracts (place + 1) ss) in
    elim (is_followed me.0 s) as (λ b. holders waiting_region (waiting_with me life next c (cond b (Some s.primary) None) rest) h k ≡ cond (b && in_region s.region h k) 1 0 + followed me.0 ss h k) [
      | true ↦ taken_one true (in_region s.region h k) (holders waiting_region (rest (next + 1)) h k) (followed me.0 ss h k) (waitings_followed me life (next + 1) (place + 1) ss h k)
      | false ↦ taken_one false (in_region s.region h k) (holders waiting_region (rest next) h k) (followed me.0 ss h k) (waitings_followed me life next (place + 1) ss h k)
    ]
