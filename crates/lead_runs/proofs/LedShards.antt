-- The one node that leads the shard of a key, and with which version it begins.
use Rattle.std.proofs.Common.{◌≡◌, ℕ, ◌+◌, ◌<◌, true, false, cond, List, [], ◌∷◌, ◌++◌, Option, Some, None, inl, inr, refl, sym, ap, ◌∙◌, subst, arith}
use Rattle.std.proofs.lemmas.Bool.{cond_both, both_ways, false_from_ne_true, eqb-true, eq-eqb}
use Rattle.change_runs.specs.runs.region_map.declared.id.Id.{Id}
use Rattle.change_runs.specs.runs.region_map.declared.region.Region.{Region}
use Rattle.change_runs.specs.runs.region_map.Keys.{hash_of}
use Rattle.change_runs.specs.runs.region_map.Regions.{in_region}
use Rattle.change_runs.specs.runs.region_map.Nodes.{node_id}
use Rattle.change_runs.specs.runs.region_map.Maps.{value_at}
use Rattle.change_runs.specs.runs.region_map.Equal.{same_id}
use Rattle.change_runs.specs.runs.branch_history.declared.version.Version.{Version}
use Rattle.change_runs.specs.runs.branch_history.declared.history.BranchBirth.{BranchBirth}
use Rattle.change_runs.specs.runs.branch_history.Paths.{Branches}
use Rattle.change_runs.specs.runs.branch_history.Histories.{birth_of}
use Rattle.change_runs.specs.runs.contract_types.declared.config.ShardConfig.{ShardConfig}
use Rattle.change_runs.specs.runs.contract_types.declared.contract.Contract.{Contract}
use Rattle.change_runs.specs.runs.contract_types.declared.contract.Holder.{Holder}
use Rattle.change_runs.specs.runs.contract_types.Configs.{shard_region}
use Rattle.change_runs.specs.runs.contract_types.Setup.{SetupState, IsSetup}
use Rattle.change_runs.specs.runs.contract_types.Tables.{branch_at, first_contract, first_contracts, first_id, first_birth, first_branches}
use Rattle.change_runs.specs.runs.table_apply.Conditions.{contract_region, is_held_by}
use Rattle.change_runs.proofs.runs.table_apply.Tables.{registered}
use Rattle.change_runs.specs.runs.store_api.Versions.{point, zero_map}
use Rattle.change_runs.specs.runs.primary_exec.Execution.{Execution, setup_execution}
use Rattle.change_runs.specs.runs.node_core.Step.{is_led, executions_from, versions_from, begin_node}
use Rattle.change_runs.specs.runs.Story.{Point, IsIn}
use Rattle.change_runs.specs.runs.Stored.{Begun}
use Rattle.change_runs.proofs.Asked.{is_keyed, history_of}
use Rattle.change_runs.proofs.step_runs.PointBranches.{all_at}
use Rattle.change_runs.proofs.step_runs.RegisterStory.{same_key-true}
use Rattle.change_runs.proofs.step_runs.Setups.{setup_contract, branches_begin, nothing_begun, versions_begin, one_shard}
use Rattle.change_runs.proofs.LedHistories.{some_inner}
use Rattle.lead_runs.proofs.LedRows.{Lead, lead_of, leads_of, Kept, kept, Done, Still, Dispatches, Streams, GoesDown, ComesUp}
use Rattle.lead_runs.proofs.LedRoles.{lead_region, IsLed, IsFollowed, Roles, contracts_few, one_of_few}
use Rattle.lead_runs.proofs.LedRuns.{run_roles}
use Rattle.lead_runs.proofs.LedAsked.{lead_own}
use Rattle.lead_runs.proofs.LedMoves.{Led}

-- ---- the contract of a shard

record OfShard (cs : List Contract) (shard : ShardConfig) : Type 0 where
  contract : Contract
  is_in : IsIn cs contract
  region_is : contract.region ≡ shard.region
  primary_is : contract.primary ≡ Some (record { server = shard.primary; hand_over = None })

of_shard : (place : ℕ) (ss : List ShardConfig) (shard : ShardConfig) → IsIn ss shard → OfShard (first_contracts place ss) shard
of_shard place [] shard i = absurd i
of_shard place (s ∷ ss) shard i =
    elim i [
      | inl e ↦ record {
        contract = first_contract place s;
        is_in = inl refl;
        region_is = ap (λ (x : ShardConfig). x.region) e;
        primary_is = ap (λ (x : ShardConfig). Some (record { server = x.primary; hand_over = None })) e;
      }
      | inr j ↦ let r = of_shard (place + 1) ss shard j in record { contract = r.contract; is_in = inr r.is_in; region_is = r.region_is; primary_is = r.primary_is }
    ]

module _ (setup : SetupState) (ok : IsSetup setup) (shard : ShardConfig) (i : IsIn setup.shards shard) (g : ℕ) (key : List ℕ) (inside : in_region shard.region g key ≡ true) where
  -- who holds a contract that has the pair leads the shard
  pub holder_is : (c : Contract) (n : ℕ) → IsIn (first_contracts 0 setup.shards) c → in_region c.region g key ≡ true → is_held_by c.primary (node_id n) ≡ true → shard.primary.0 ≡ n
  holder_is c n j has held =
      let s = of_shard 0 setup.shards shard i in
      let is : c ≡ s.contract =
      one_of_few contract_region (first_contracts 0 setup.shards) g key (contracts_few setup ok g key) c s.contract j s.is_in has (subst (λ (r : Region). in_region r g key ≡ true) (sym s.region_is) inside) in
      eqb-true shard.primary.0 n (subst (λ (h : Option Holder). is_held_by h (node_id n) ≡ true) (ap (λ (x : Contract). x.primary) is ∙ s.primary_is) held)

  -- that node follows no region that has the pair
  pub not_followed : (r : Region) → IsFollowed setup shard.primary.0 r → in_region r g key ≡ false
  not_followed r f =
      false_from_ne_true _ (λ has.
      let same : f.shard ≡ shard =
      one_of_few shard_region setup.shards g key (one_shard setup ok g key) f.shard shard f.is_in i (subst (λ (q : Region). in_region q g key ≡ true) (sym f.region_is) has) inside in
      both_ways _ (subst (λ (s : ShardConfig). is_led shard.primary.0 s ≡ false) same f.led) (eq-eqb shard.primary.0 shard.primary.0 refl))

-- another node takes no point of the key
pub none_keyed : (setup : SetupState) → IsSetup setup → (shard : ShardConfig) → IsIn setup.shards shard → (key : List ℕ) → in_region shard.region (hash_of key setup.hashes) key ≡ true
    → (n : ℕ) (k next : Kept) (qs : List Point) → Roles setup n k → (shard.primary.0 ≡ n → ⊥) → Done (node_id n) setup.hashes (first_contracts 0 setup.shards) k next qs
    → (q : Point) → IsIn qs q → is_keyed key q ≡ true → ⊥
none_keyed setup ok shard i key inside n k next qs r other (Still e none) q j keyed = subst (λ (t : List Point). IsIn t q) none j
none_keyed setup ok shard i key inside n k next qs r other (Dispatches before after x p these has from time e one) q j keyed =
    let same : p ≡ q = first (subst (λ (t : List Point). IsIn t q) one j) in
    let of_key : p.key ≡ key = ap (λ (t : Point). t.key) same ∙ same_key-true q.key key keyed in
    let has_too : in_region x.contract.region (hash_of key setup.hashes) key ≡ true = subst (λ (t : List ℕ). in_region x.contract.region (hash_of t setup.hashes) t ≡ true) of_key has in
    let led : IsLed setup n k.life x = all_at (IsLed setup n k.life) k.leads r.leads x (subst (λ (t : List Lead). IsIn t x) (sym these) (middle before)) in
    other (holder_is setup ok shard i (hash_of key setup.hashes) key inside x.contract n led.contract has_too led.held)
  where
    first : IsIn (p ∷ []) q → p ≡ q
    first m = elim m [ inl e ↦ e | inr no' ↦ absurd no' ]

    middle : (before : List Lead) → IsIn (before ++ x ∷ after) x
    middle [] = inl refl
    middle (b ∷ before) = inr (middle before)
none_keyed setup ok shard i key inside n k next qs r other (Streams region b at m e none) q j keyed = subst (λ (t : List Point). IsIn t q) none j
none_keyed setup ok shard i key inside n k next qs r other (GoesDown e none) q j keyed = subst (λ (t : List Point). IsIn t q) none j
none_keyed setup ok shard i key inside n k next qs r other (ComesUp e none) q j keyed = subst (λ (t : List Point). IsIn t q) none j

-- ---- with which version it begins

record Begins (n : ℕ) (place : ℕ) (ss : List ShardConfig) (shard : ShardConfig) : Type 0 where
  x : Execution
  is_in : IsIn (executions_from n place ss) x
  region_is : x.contract.region ≡ shard.region

led_begins : (n place : ℕ) (ss : List ShardConfig) (shard : ShardConfig) → IsIn ss shard → is_led n shard ≡ true → Begins n place ss shard
led_begins n place [] shard i led = absurd i
led_begins n place (s ∷ ss) shard i led =
    let x : Execution = setup_execution (first_contract place s) s.primary place in
    let rest : List Execution = executions_from n (place + 1) ss in
    elim i [
      | inl e ↦
          let own : is_led n s ≡ true = subst (λ (t : ShardConfig). is_led n t ≡ true) (sym e) led in
          record {
            x = x;
            is_in = subst (λ b. IsIn (cond b (x ∷ rest) rest) x) (sym own) (inl refl);
            region_is = ap (λ (c : Contract). c.region) (setup_contract (first_contract place s) s.primary place) ∙ ap (λ (t : ShardConfig). t.region) e;
          }
      | inr j ↦
          let r = led_begins n (place + 1) ss shard j led in
          record { x = r.x; is_in = cond_both (is_led n s) (x ∷ rest) rest (λ (l : List Execution). IsIn l r.x) (λ _. inr r.is_in) (λ _. r.is_in); region_is = r.region_is }
    ]

-- the first branches begin at 0
starts_at_0 : (hashes place : ℕ) (ss : List ShardConfig) (older : Branches) (id : Id) (b : BranchBirth) → ((i : Id) (c : BranchBirth) → birth_of older i ≡ Some c → c.initial ≡ 0)
    → birth_of (first_branches hashes place ss older) id ≡ Some b → b.initial ≡ 0
starts_at_0 hashes place [] older id b all e = all id b e
starts_at_0 hashes place (s ∷ ss) older id b all e =
    starts_at_0 hashes (place + 1) ss ((first_id place s, first_birth hashes s) ∷ older) id b
    (λ i c f. elim (same_id (first_id place s) i) as (λ v. cond v (Some (first_birth hashes s)) (birth_of older i) ≡ Some c → c.initial ≡ 0) [
      | true ↦ λ g. ap (λ (x : BranchBirth). x.initial) (sym (some_inner (first_birth hashes s) c g))
      | false ↦ λ g. all i c g
    ] f) e

pub leads_in : (xs : List Execution) (x : Execution) → IsIn xs x → IsIn (leads_of xs) (lead_of x)
leads_in [] x i = i
leads_in (y ∷ ys) x i = elim i [ inl e ↦ inl (ap lead_of e) | inr j ↦ inr (leads_in ys x j) ]

pub record BeginsLed (setup : SetupState) (key : List ℕ) (p : ℕ) : Type 0 where
  pub version : Version
  pub branch : Id
  pub led : Led (history_of setup p []) (hash_of key setup.hashes) key [] version branch (kept (begin_node setup p))

pub begins_led : (setup : SetupState) → IsSetup setup → (shard : ShardConfig) → IsIn setup.shards shard → (key : List ℕ) → hash_of key setup.hashes < setup.hashes
    → in_region shard.region (hash_of key setup.hashes) key ≡ true → BeginsLed setup key shard.primary.0
begins_led setup ok shard i key within inside =
    let g : ℕ = hash_of key setup.hashes in
    let p : ℕ = shard.primary.0 in
    let xs : List Execution = executions_from p 0 setup.shards in
    let b = led_begins p 0 setup.shards shard i (eq-eqb p p refl) in
    let x : Execution = b.x in
    let has : in_region x.contract.region g key ≡ true = subst (λ (r : Region). in_region r g key ≡ true) (sym b.region_is) inside in
    let none = all_at (λ (y : Execution). (y.last ≡ 0) × (y.dispatch.waiting ≡ [])) xs (nothing_begun p 0 setup.shards) x b.is_in in
    let stands = all_at (λ (y : Execution). (h : ℕ) (k : List ℕ) → h < setup.hashes → in_region y.contract.region h k ≡ true
    → value_at (versions_from p 0 setup.shards (zero_map setup.hashes)).pieces h k ≡ Some (point y.branch 0)) xs (versions_begin setup ok p) x b.is_in in
    let current = all_at (λ (y : Execution). in_region y.contract.region g key ≡ true → branch_at (history_of setup p []) g key ≡ Some y.branch) xs (branches_begin setup ok p key) x b.is_in has in
    let reg = registered setup [] 0 g key x.branch current in
    let roles : Roles setup p (kept (begin_node setup p)) = (run_roles setup ok [] tt p).roles in
    let lead_in : IsIn (leads_of xs) (lead_of x) = leads_in xs x b.is_in in
    let own = lead_own setup [] tt p (lead_of x) lead_in in
    let life = own.life_is in
    let zero = starts_at_0 setup.hashes 0 setup.shards [] x.branch reg.0 (λ j c e. absurd (cc e)) reg.1 in
    record {
      version = point x.branch 0;
      branch = x.branch;
      led = record {
        version_is = stands g key within has;
        branch_is = refl;
        birth = reg.0;
        registered = reg.1;
        inside = reg.2;
        initial = omega (arith, zero);
        came = Begun life refl;
        points_on = λ q j e. absurd j;
        life = omega (arith, life);
        earlier = λ a j e. absurd j;
        stands = λ y j e.
            let o = roles.one g key in
            let same : lead_of x ≡ y = one_of_few lead_region (leads_of xs) g key (omega (arith, o)) (lead_of x) y lead_in j has e in
            ap (λ t. point x.branch t) (sym none.0) ∙ ap (λ (w : Lead). point w.branch w.last) same;
      };
    }
