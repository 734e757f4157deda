-- The contracts, branches and regions of a node: they are those of the shards that it leads, or follows, and no two have a pair in common.
use Rattle.std.proofs.Common.{◌≡◌, ◌⊎◌, ℕ, ◌+◌, ◌≤◌, ◌<◌, not, true, false, cond, List, [], ◌∷◌, ◌++◌, nat_lt, Option, Some, None, inl, inr, refl, sym, ap, ◌∙◌, subst, arith}
use Rattle.std.proofs.lemmas.Bool.{cond_both, and_parts, not-true}
use Rattle.std.specs.List.{AllByRecursion}
use Rattle.change_runs.specs.runs.region_map.declared.id.NodeId.{NodeId}
use Rattle.change_runs.specs.runs.region_map.declared.region.Region.{Region}
use Rattle.change_runs.specs.runs.region_map.Regions.{in_region}
use Rattle.change_runs.specs.runs.region_map.Nodes.{node_id, has}
use Rattle.change_runs.specs.runs.contract_types.declared.config.ShardConfig.{ShardConfig}
use Rattle.change_runs.specs.runs.contract_types.declared.contract.Contract.{Contract}
use Rattle.change_runs.specs.runs.contract_types.declared.results.Viewed.{Viewed}
use Rattle.change_runs.specs.runs.contract_types.Setup.{SetupState, IsSetup}
use Rattle.change_runs.specs.runs.contract_types.Tables.{Table, first_contract, first_contracts}
use Rattle.change_runs.specs.runs.contract_types.Tilings.{holders}
use Rattle.change_runs.specs.runs.table_apply.Conditions.{contract_region, is_held_by}
use Rattle.change_runs.proofs.runs.table_apply.Tables.{few}
use Rattle.change_runs.specs.runs.table_log.Logs.{table_of, caught_up, viewed}
use Rattle.change_runs.specs.runs.store_api.Versions.{point, replaced_map}
use Rattle.change_runs.proofs.runs.store_api.VersionMaps.{advanced_map_hashes, replaced_map_hashes}
use Rattle.change_runs.specs.runs.primary_exec.declared.asking.Asking.{Asking}
use Rattle.change_runs.specs.runs.primary_exec.Execution.{Execution, setup_execution, started, decided}
use Rattle.change_runs.specs.runs.secondary_exec.declared.following.Following.{Following}
use Rattle.change_runs.specs.runs.secondary_exec.Stream.{setup_following}
use Rattle.change_runs.specs.runs.node_core.Starting.{Starting, place_of, placed, due, start_one, start_each}
use Rattle.change_runs.specs.runs.node_core.Step.{NodeState, Stepped, is_led, is_followed, executions_from, followings_from, begin_node, askings_from, id_in, act_on, act, end_step}
use Rattle.change_runs.specs.runs.Story.{Point, IsIn}
use Rattle.change_runs.proofs.step_runs.Nodes.{holders-in}
use Rattle.change_runs.proofs.step_runs.PointBranches.{all_weaker, all_append}
use Rattle.change_runs.proofs.step_runs.Setups.{exec_region, setup_contract, begin_hashes, at_one_node, one_shard}
use Rattle.lead_runs.proofs.LedRows.{Lead, lead_of, leads_of, regions_of, Kept, kept, Done, Still, Dispatches, GoesDown, ComesUp, decided_leads, Streams}

abbrev pub lead_region : Lead → Region
lead_region x = x.contract.region

abbrev pub asking_region : Asking → Region
asking_region a = a.contract.region

abbrev pub role_of : Lead → Asking
role_of x = record { contract = x.contract; branch = x.branch }

-- what a node asks for in a life
abbrev pub asked_from : SetupState → ℕ → ℕ → List Asking
asked_from setup n life = askings_from (node_id n) life 0 (first_contracts 0 setup.shards)

-- ---- what holds of each

-- a branch that a node asks for, in a life after its first
pub record IsAsking (setup : SetupState) (n life : ℕ) (a : Asking) : Type 0 where
  pub later : 1 < life
  pub of : IsIn (asked_from setup n life) a

-- a branch that it writes: one of its first life, or one that it asked for
pub record IsLed (setup : SetupState) (n life : ℕ) (x : Lead) : Type 0 where
  pub contract : IsIn (first_contracts 0 setup.shards) x.contract
  pub held : is_held_by x.contract.primary (node_id n) ≡ true
  pub of : (life ≡ 1) ⊎ IsIn (asked_from setup n life) (role_of x)

-- a region that it follows
pub record IsFollowed (setup : SetupState) (n : ℕ) (r : Region) : Type 0 where
  pub shard : ShardConfig
  pub is_in : IsIn setup.shards shard
  pub region_is : shard.region ≡ r
  pub led : is_led n shard ≡ false

pub record Roles (setup : SetupState) (n : ℕ) (k : Kept) : Type 0 where
  pub hashes_are : k.versions.hashes ≡ setup.hashes
  pub life : 1 ≤ k.life
  pub askings : AllByRecursion (IsAsking setup n k.life) k.asking
  pub leads : AllByRecursion (IsLed setup n k.life) k.leads
  pub followed : AllByRecursion (IsFollowed setup n) k.followed
  pub one : (h : ℕ) (b : List ℕ) → holders lead_region k.leads h b + holders asking_region k.asking h b ≤ 1

-- ---- what a node asks for as it comes up

pub asked_led : (me : NodeId) (life next : ℕ) (cs : List Contract) (a : Asking) → IsIn (askings_from me life next cs) a → IsIn cs a.contract × (is_held_by a.contract.primary me ≡ true)
asked_led me life next [] a i = absurd i
asked_led me life next (c ∷ cs) a i =
    let first : Asking = record { contract = c; branch = id_in me life next } in
    let rest = asked_led me life (next + 1) cs a in
    let later = asked_led me life next cs a in
    elim (is_held_by c.primary me) as (λ b. is_held_by c.primary me ≡ b → IsIn (cond b (first ∷ askings_from me life (next + 1) cs) (askings_from me life next cs)) a
    → IsIn (c ∷ cs) a.contract × (is_held_by a.contract.primary me ≡ true)) [
      | true ↦ λ held j. elim j [
        | inl e ↦ (inl (ap (λ (x : Asking). x.contract) e), subst (λ (x : Asking). is_held_by x.contract.primary me ≡ true) e held)
        | inr more ↦ let r = rest more in (inr r.0, r.1)
      ]
      | false ↦ λ _ j. let r = later j in (inr r.0, r.1)
    ] refl i

pub asked_count : (me : NodeId) (life next : ℕ) (cs : List Contract) (h : ℕ) (b : List ℕ) → holders asking_region (askings_from me life next cs) h b ≤ holders contract_region cs h b
asked_count me life next [] h b = omega arith
asked_count me life next (c ∷ cs) h b =
    let first : Asking = record { contract = c; branch = id_in me life next } in
    let taken = asked_count me life (next + 1) cs h b in
    let passed = asked_count me life next cs h b in
    cond_both (is_held_by c.primary me) (first ∷ askings_from me life (next + 1) cs) (askings_from me life next cs) (λ (l : List Asking). holders asking_region l h b ≤ holders contract_region (c ∷ cs) h b)
    (λ _. elim (in_region c.region h b) as (λ v. cond v (1 + holders asking_region (askings_from me life (next + 1) cs) h b) (holders asking_region (askings_from me life (next + 1) cs) h b)
    ≤ cond v (1 + holders contract_region cs h b) (holders contract_region cs h b)) [ true ↦ omega (arith, taken) | false ↦ taken ])
    (λ _. elim (in_region c.region h b) as (λ v. holders asking_region (askings_from me life next cs) h b ≤ cond v (1 + holders contract_region cs h b) (holders contract_region cs h b)) [
      | true ↦ omega (arith, passed)
      | false ↦ passed
    ])

pub contracts_few : (setup : SetupState) → IsSetup setup → (h : ℕ) (b : List ℕ) → holders contract_region (first_contracts 0 setup.shards) h b ≤ 1
contracts_few setup ok h b = few setup [] 0 h b ok.config

pub some_there : {T : Type 0} (place : T → Region) (xs : List T) (h : ℕ) (b : List ℕ) (x : T) → IsIn xs x → in_region (place x) h b ≡ true → 1 ≤ holders place xs h b
some_there place [] h b x i inside = absurd i
some_there place (y ∷ ys) h b x i inside =
    elim i [
      | inl e ↦ let c = holders-in place y ys h b (subst (λ z. in_region (place z) h b ≡ true) (sym e) inside) in omega (arith, c)
      | inr j ↦ let l = some_there place ys h b x j inside in elim (in_region (place y) h b) as (λ v. 1 ≤ cond v (1 + holders place ys h b) (holders place ys h b)) [
        | true ↦ omega arith
        | false ↦ l
      ]
    ]

-- two that have a pair are the same
pub one_of_few : {T : Type 0} (place : T → Region) (xs : List T) (h : ℕ) (b : List ℕ) → holders place xs h b ≤ 1 → (x y : T) → IsIn xs x → IsIn xs y → in_region (place x) h b ≡ true → in_region (place y) h b ≡ true → x ≡ y
one_of_few place [] h b le x y i j p q = absurd i
one_of_few place (z ∷ zs) h b le x y i j p q =
    let fewer : holders place zs h b ≤ 1 = elim (in_region (place z) h b) as (λ v. cond v (1 + holders place zs h b) (holders place zs h b) ≤ 1 → holders place zs h b ≤ 1) [
      | true ↦ λ e. omega (arith, e)
      | false ↦ λ e. e
    ] le in
    elim i [
      | inl e ↦ elim j [
        | inl f ↦ sym e ∙ f
        | inr m ↦
            let c = holders-in place z zs h b (subst (λ t. in_region (place t) h b ≡ true) (sym e) p) in
            let s = some_there place zs h b y m q in
            absurd (omega (arith, c, s, le))
      ]
      | inr k ↦ elim j [
        | inl f ↦
            let c = holders-in place z zs h b (subst (λ t. in_region (place t) h b ≡ true) (sym f) q) in
            let s = some_there place zs h b x k p in
            absurd (omega (arith, c, s, le))
        | inr m ↦ one_of_few place zs h b fewer x y k m p q
      ]
    ]

-- ---- rows

all_changed : (P : Lead → Type 0) (before after : List Lead) (x y : Lead) → (P x → P y) → AllByRecursion P (before ++ x ∷ after) → AllByRecursion P (before ++ y ∷ after)
all_changed P [] after x y f h = (f h.0, h.1)
all_changed P (z ∷ zs) after x y f h = (h.0, all_changed P zs after x y f h.1)

pub middle_count : (before after : List Lead) (x y : Lead) (h : ℕ) (b : List ℕ) → x.contract.region ≡ y.contract.region → holders lead_region (before ++ x ∷ after) h b ≡ holders lead_region (before ++ y ∷ after) h b
middle_count [] after x y h b e = ap (λ r. cond (in_region r h b) (1 + holders lead_region after h b) (holders lead_region after h b)) e
middle_count (z ∷ zs) after x y h b e = ap (λ n. cond (in_region z.contract.region h b) (1 + n) n) (middle_count zs after x y h b e)

pub roles_row : (setup : SetupState) → IsSetup setup → (n : ℕ) (k next : Kept) (qs : List Point) → Roles setup n k → Done (node_id n) setup.hashes (first_contracts 0 setup.shards) k next qs → Roles setup n next
roles_row setup ok n k next qs r (Still e _) = subst (Roles setup n) (sym e) r
roles_row setup ok n k next qs r (Dispatches before after x q these has branch time e _) =
    let y : Lead = record x { last = x.last + 1 } in
    subst (Roles setup n) (sym e) (record {
      hashes_are = advanced_map_hashes x.contract.region x.branch (x.last + 1) k.versions ∙ r.hashes_are;
      life = r.life;
      askings = r.askings;
      leads = all_changed (IsLed setup n k.life) before after x y (λ l. record { contract = l.contract; held = l.held; of = l.of }) (subst (AllByRecursion (IsLed setup n k.life)) these r.leads);
      followed = r.followed;
      one = λ h b.
          let c = ap (λ (l : List Lead). holders lead_region l h b) these ∙ middle_count before after x y h b refl in
          let o = r.one h b in
          omega (arith, c, o);
    })
roles_row setup ok n k next qs r (Streams region branch at i e _) =
    subst (Roles setup n) (sym e) (record {
      hashes_are = advanced_map_hashes region branch at k.versions ∙ r.hashes_are;
      life = r.life;
      askings = r.askings;
      leads = r.leads;
      followed = r.followed;
      one = r.one;
    })
roles_row setup ok n k next qs r (GoesDown e _) =
    subst (Roles setup n) (sym e) (record { hashes_are = r.hashes_are; life = r.life; askings = tt; leads = tt; followed = tt; one = λ h b. omega arith })
roles_row setup ok n k next qs r (ComesUp e _) =
    let here = r.life in
    subst (Roles setup n) (sym e) (record {
      hashes_are = r.hashes_are;
      life = omega (arith, here);
      askings = all_asking (asked_from setup n (k.life + 1)) (λ a i. i);
      leads = tt;
      followed = tt;
      one = λ h b.
          let c = asked_count (node_id n) (k.life + 1) 0 (first_contracts 0 setup.shards) h b in
          let f = contracts_few setup ok h b in
          omega (arith, c, f);
    })
  where
    all_asking : (waits : List Asking) → ((a : Asking) → IsIn waits a → IsIn (asked_from setup n (k.life + 1)) a) → AllByRecursion (IsAsking setup n (k.life + 1)) waits
    all_asking [] f = tt
    all_asking (a ∷ waits) f = (record { later = let here = r.life in omega (arith, here); of = f a (inl refl) }, all_asking waits (λ x i. f x (inr i)))

-- ---- starting

pub placed_all : (P : Lead → Type 0) (cs : List Contract) (x : Execution) (ys : List Execution) → P (lead_of x) → AllByRecursion P (leads_of ys) → AllByRecursion P (leads_of (placed cs x ys))
placed_all P cs x [] h k = (h, tt)
placed_all P cs x (y ∷ ys) h k =
    cond_both (nat_lt (place_of cs x.contract.id) (place_of cs y.contract.id)) (x ∷ y ∷ ys) (y ∷ placed cs x ys) (λ (l : List Execution). AllByRecursion P (leads_of l))
    (λ _. (h, k)) (λ _. (k.0, placed_all P cs x ys h k.1))

pub placed_there : (cs : List Contract) (x : Execution) (ys : List Execution) (l : Lead) → (lead_of x ≡ l) ⊎ IsIn (leads_of ys) l → IsIn (leads_of (placed cs x ys)) l
placed_there cs x [] l i = i
placed_there cs x (y ∷ ys) l i =
    cond_both (nat_lt (place_of cs x.contract.id) (place_of cs y.contract.id)) (x ∷ y ∷ ys) (y ∷ placed cs x ys) (λ (m : List Execution). IsIn (leads_of m) l)
    (λ _. i)
    (λ _. elim i [
      | inl e ↦ inr (placed_there cs x ys l (inl e))
      | inr j ↦ elim j [ inl e ↦ inl e | inr m ↦ inr (placed_there cs x ys l (inr m)) ]
    ])

pub count_first : {T : Type 0} (place : T → Region) (x : T) (xs : List T) (h : ℕ) (b : List ℕ) → holders place (x ∷ xs) h b ≡ cond (in_region (place x) h b) 1 0 + holders place xs h b
count_first place x xs h b =
    elim (in_region (place x) h b) as (λ v. cond v (1 + holders place xs h b) (holders place xs h b) ≡ cond v 1 0 + holders place xs h b) [ true ↦ refl | false ↦ omega arith ]

pub placed_count : (cs : List Contract) (x : Execution) (ys : List Execution) (h : ℕ) (b : List ℕ)
    → holders lead_region (leads_of (placed cs x ys)) h b ≡ cond (in_region x.contract.region h b) 1 0 + holders lead_region (leads_of ys) h b
placed_count cs x [] h b = count_first lead_region (lead_of x) [] h b
placed_count cs x (y ∷ ys) h b =
    let last = placed_count cs x ys h b in
    let own = count_first lead_region (lead_of y) (leads_of ys) h b in
    let other = count_first lead_region (lead_of y) (leads_of (placed cs x ys)) h b in
    cond_both (nat_lt (place_of cs x.contract.id) (place_of cs y.contract.id)) (x ∷ y ∷ ys) (y ∷ placed cs x ys)
    (λ (l : List Execution). holders lead_region (leads_of l) h b ≡ cond (in_region x.contract.region h b) 1 0 + holders lead_region (leads_of (y ∷ ys)) h b)
    (λ _. count_first lead_region (lead_of x) (leads_of (y ∷ ys)) h b)
    (λ _. omega (arith, last, own, other))

pub pushed_count : (waits : List Asking) (a : Asking) (h : ℕ) (b : List ℕ) → holders asking_region (waits ++ a ∷ []) h b ≡ cond (in_region a.contract.region h b) 1 0 + holders asking_region waits h b
pushed_count [] a h b = count_first asking_region a [] h b
pushed_count (x ∷ waits) a h b =
    let rest = pushed_count waits a h b in
    let own = count_first asking_region x waits h b in
    let other = count_first asking_region x (waits ++ a ∷ []) h b in
    omega (arith, rest, own, other)

pub record AreStarting (setup : SetupState) (n life : ℕ) (s : Starting) (rest : List Asking) : Type 0 where
  pub hashes_are : s.versions.hashes ≡ setup.hashes
  pub askings : AllByRecursion (IsAsking setup n life) s.asking
  pub rest_are : AllByRecursion (IsAsking setup n life) rest
  pub leads : AllByRecursion (IsLed setup n life) (leads_of s.executions)
  pub one : (h : ℕ) (b : List ℕ) → holders lead_region (leads_of s.executions) h b + holders asking_region s.asking h b + holders asking_region rest h b ≤ 1

pub one_starting : (setup : SetupState) (n life : ℕ) (me : NodeId) (cs : List Contract) (a : Asking) (rest : List Asking) (initial : Option ℕ) (s : Starting) → AreStarting setup n life s (a ∷ rest)
    → AreStarting setup n life (start_one me cs a initial s) rest
one_starting setup n life me cs a rest None s h =
    record {
      hashes_are = h.hashes_are;
      askings = all_append (IsAsking setup n life) s.asking (a ∷ []) h.askings (h.rest_are.0, tt);
      rest_are = h.rest_are.1;
      leads = h.leads;
      one = λ g b.
          let o = h.one g b in
          let c = pushed_count s.asking a g b in
          let d = count_first asking_region a rest g b in
          omega (arith, o, c, d);
    }
one_starting setup n life me cs a rest (Some initial) s h =
    let new = asked_led (node_id n) life 0 (first_contracts 0 setup.shards) a h.rest_are.0.of in
    record {
      hashes_are =
          advanced_map_hashes a.contract.region a.branch (initial + 1) (replaced_map a.contract.region (point a.branch initial) s.versions)
          ∙ replaced_map_hashes a.contract.region (point a.branch initial) s.versions ∙ h.hashes_are;
      askings = h.askings;
      rest_are = h.rest_are.1;
      leads = placed_all (IsLed setup n life) cs (started a me initial) s.executions (record { contract = new.0; held = new.1; of = inr h.rest_are.0.of }) h.leads;
      one = λ g b.
          let o = h.one g b in
          let c = placed_count cs (started a me initial) s.executions g b in
          let d = count_first asking_region a rest g b in
          omega (arith, o, c, d);
    }

all_starting : (setup : SetupState) (n life : ℕ) (me : NodeId) (t : Table) (rest : List Asking) (s : Starting) → AreStarting setup n life s rest → AreStarting setup n life (start_each me t rest s) []
all_starting setup n life me t [] s h = h
all_starting setup n life me t (a ∷ rest) s h = all_starting setup n life me t rest (start_one me t.contracts a (due t a) s) (one_starting setup n life me t.contracts a rest (due t a) s h)

pub begins_starting : (setup : SetupState) (n : ℕ) (s : NodeState) → Roles setup n (kept s) → AreStarting setup n s.life (record { asking = []; executions = s.executions; versions = s.versions }) s.asking
begins_starting setup n s r =
    record { hashes_are = r.hashes_are; askings = tt; rest_are = r.askings; leads = r.leads; one = λ h b. let o = r.one h b in omega (arith, o) }

acts : (setup : SetupState) (n : ℕ) (step : Stepped) (v : Option Viewed) → Roles setup n (kept step.node) → Roles setup n (kept (act_on step v).node)
acts setup n step None r = r
acts setup n step (Some v) r =
    let s : NodeState = step.node in
    let e = all_starting setup n s.life s.me (table_of (caught_up s.log)) s.asking (record { asking = []; executions = s.executions; versions = s.versions }) (begins_starting setup n s r) in
    record { hashes_are = e.hashes_are; life = r.life; askings = e.askings; leads = e.leads; followed = r.followed; one = λ h b. let o = e.one h b in omega (arith, o) }

pub ends_kept : (step : Stepped) → kept (end_step step).node ≡ kept (act step).node
ends_kept step = decided_leads decided (λ x. refl) (act step).node

pub roles_end : (setup : SetupState) (n : ℕ) (step : Stepped) → Roles setup n (kept step.node) → Roles setup n (kept (end_step step).node)
roles_end setup n step r = subst (Roles setup n) (sym (ends_kept step)) (acts setup n step (viewed step.node.log) r)

-- ---- with which a node begins

begin_leads : (n place : ℕ) (ss : List ShardConfig) → AllByRecursion (λ x. IsIn (first_contracts place ss) x.contract × (is_held_by x.contract.primary (node_id n) ≡ true)) (leads_of (executions_from n place ss))
begin_leads n place [] = tt
begin_leads n place (s ∷ ss) =
    let c : Contract = first_contract place s in
    let x : Execution = setup_execution c s.primary place in
    let P : Lead → Type 0 = λ x. IsIn (first_contracts place (s ∷ ss)) x.contract × (is_held_by x.contract.primary (node_id n) ≡ true) in
    let is : x.contract ≡ c = setup_contract c s.primary place in
    let rest : AllByRecursion P (leads_of (executions_from n (place + 1) ss)) =
    all_weaker (λ (x : Lead). IsIn (first_contracts (place + 1) ss) x.contract × (is_held_by x.contract.primary (node_id n) ≡ true)) P (leads_of (executions_from n (place + 1) ss)) (λ x p. (inr p.0, p.1))
    (begin_leads n (place + 1) ss) in
    cond_both (is_led n s) (x ∷ executions_from n (place + 1) ss) (executions_from n (place + 1) ss) (λ (l : List Execution). AllByRecursion P (leads_of l))
    (λ led. ((inl (sym is), subst (λ (d : Contract). is_held_by d.primary (node_id n) ≡ true) (sym is) led), rest)) (λ _. rest)

begin_followed : (setup : SetupState) (n place : ℕ) (ss : List ShardConfig) → ((s : ShardConfig) → IsIn ss s → IsIn setup.shards s) → AllByRecursion (IsFollowed setup n) (regions_of (followings_from n place ss))
begin_followed setup n place [] f = tt
begin_followed setup n place (s ∷ ss) f =
    let g : Following = setup_following (first_contract place s) s.primary (node_id n) place in
    let rest = begin_followed setup n (place + 1) ss (λ t i. f t (inr i)) in
    cond_both (is_followed n s) (g ∷ followings_from n (place + 1) ss) (followings_from n (place + 1) ss) (λ (l : List Following). AllByRecursion (IsFollowed setup n) (regions_of l))
    (λ is. (record { shard = s; is_in = f s (inl refl); region_is = refl; led = not-true (is_led n s) (and_parts (has s.replicas n) (not (is_led n s)) is).1 }, rest)) (λ _. rest)

leads_count : (xs : List Execution) (h : ℕ) (b : List ℕ) → holders lead_region (leads_of xs) h b ≡ holders exec_region xs h b
leads_count [] h b = refl
leads_count (x ∷ xs) h b = ap (λ n. cond (in_region x.contract.region h b) (1 + n) n) (leads_count xs h b)

pub roles_begin : (setup : SetupState) → IsSetup setup → (n : ℕ) → Roles setup n (kept (begin_node setup n))
roles_begin setup ok n =
    record {
      hashes_are = begin_hashes setup n;
      life = omega arith;
      askings = tt;
      leads =
          all_weaker (λ (x : Lead). IsIn (first_contracts 0 setup.shards) x.contract × (is_held_by x.contract.primary (node_id n) ≡ true)) (IsLed setup n 1) (leads_of (executions_from n 0 setup.shards))
          (λ x p. record { contract = p.0; held = p.1; of = inl refl }) (begin_leads n 0 setup.shards);
      followed = begin_followed setup n 0 setup.shards (λ s i. i);
      one = λ h b.
          let c = leads_count (executions_from n 0 setup.shards) h b in
          let d = at_one_node n 0 setup.shards h b in
          let f = one_shard setup ok h b in
          omega (arith, c, d, f);
    }
