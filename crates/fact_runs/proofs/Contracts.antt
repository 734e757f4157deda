-- The contract of a key in a run. So far it is that of the setup, at each index; where plans replace contracts, this file has a case for each plan.
use Rattle.std.proofs.Common.{◌≡◌, ◌⊎◌, ℕ, zero, suc, ◌+◌, ◌≤◌, ◌<◌, ◌==◌, true, false, cond, ◌||◌, not, nat_lt, List, [], ◌∷◌, length, Option, Some, None, inl, inr, refl, sym, ap, ◌∙◌, subst, arith, sum}
use Rattle.std.proofs.Math.Nat.{mod-lt}
use Rattle.std.proofs.lemmas.Bool.{cases_Bool, both_ways, and_parts, or_parts, or_cases, not-true, eqb-true, ltb-false}
use Rattle.std.specs.List.{AllByRecursion}
use Rattle.path_facts.specs.Runs.{Contract, has}
use Rattle.path_facts.specs.Invariant.{GoesOver, Elected}
use Rattle.row_runs.specs.runs.region_map.Keys.{hash_of}
use Rattle.row_runs.specs.runs.region_map.Regions.{in_region}
use Rattle.row_runs.specs.runs.region_map.Nodes.{without}
use Rattle.row_runs.specs.runs.region_map.Nodes as nodes
use Rattle.row_runs.specs.runs.contract_types.declared.change.Change.{Change}
use Rattle.row_runs.specs.runs.contract_types.declared.config.ShardConfig.{ShardConfig}
use Rattle.row_runs.specs.runs.contract_types.declared.contract.Contract.{Contract as TableContract}
use Rattle.row_runs.specs.runs.contract_types.Configs.{has_bad_roles, has_replicas}
use Rattle.row_runs.specs.runs.contract_types.Setup.{SetupState, IsSetup}
use Rattle.row_runs.specs.runs.contract_types.Tables.{Table, first_contract, first_contracts}
use Rattle.row_runs.specs.runs.table_apply.Effects.{applied_at}
use Rattle.row_runs.specs.runs.table_apply.Runs.{change_at, table_at, contract_at}
use Rattle.row_runs.proofs.runs.table_apply.Steps.{table_after}
use Rattle.row_runs.specs.runs.table_log.Logs.{table_of}
use Rattle.row_runs.specs.runs.node_core.declared.journal.Entry.{Entry}
use Rattle.row_runs.specs.runs.Run.{IsRun}
use Rattle.row_runs.specs.runs.Story.{IsIn}
use Rattle.row_runs.proofs.change_runs.Asked.{IsAsked}
use Rattle.row_runs.proofs.change_runs.AskedRuns.{contracts_stay}
use Rattle.row_runs.proofs.step_runs.PointBranches.{all_at}
use Rattle.row_runs.proofs.step_runs.Runs.{some_hash}
use Rattle.row_runs.proofs.step_runs.ShardRoles.{HasRoles, setup_roles}
use Rattle.row_runs.proofs.path_runs.OnPath.{shard_of}
use Rattle.fact_runs.specs.KeyRuns.{moment, state_at, told_changes, key_contract, contract_or_none, key_run}
use Rattle.fact_runs.proofs.Moments.{moment_run}
use Rattle.fact_runs.proofs.ToldLog.{told_asked}

-- ---- voters are replicas

-- a member is no member that was left out
kept_member : (s t : List ℕ) (n : ℕ) → length (without s t) ≡ 0 → nodes.has s n ≡ true → nodes.has t n ≡ true
kept_member [] t n none i = absurd (cc)
kept_member (m ∷ ms) t n none i =
    elim (nodes.has t m) as (λ b. nodes.has t m ≡ b → length (cond (not b) (m ∷ without ms t) (without ms t)) ≡ 0 → nodes.has t n ≡ true) [
      | true ↦ λ e z.
          elim (or_cases (m == n) (nodes.has ms n) i) [
            | inl same ↦ ap (nodes.has t) (sym (eqb-true m n same)) ∙ e
            | inr later ↦ kept_member ms t n z later
          ]
      | false ↦ λ e z. absurd (omega arith)
    ] refl none

abbrev VotersReplicate : ShardConfig → Type 0
VotersReplicate s = (n : ℕ) → nodes.has s.voters n ≡ true → nodes.has s.replicas n ≡ true

voters_replicate : (ss : List ShardConfig) → has_bad_roles ss ≡ false → AllByRecursion VotersReplicate ss
voters_replicate [] good = tt
voters_replicate (s ∷ ss) good =
    let bad = nat_lt 0 (length (without s.voters s.replicas)) in
    let rest = or_parts (bad || not (nodes.has s.voters s.primary.0)) (has_bad_roles ss) good in
    let few = ltb-false 0 (length (without s.voters s.replicas)) (or_parts bad (not (nodes.has s.voters s.primary.0)) rest.0).0 in
    (λ n i. kept_member s.voters s.replicas n (omega (arith, few)) i, voters_replicate ss rest.1)

-- both words for members say the same
same_has : (s : List ℕ) (n : ℕ) → has s n ≡ nodes.has s n
same_has [] n = refl
same_has (m ∷ ms) n = ap (λ b. (m == n) || b) (same_has ms n)

-- ---- the contract that a pair begins with

pub record FirstOf (place : ℕ) (ss : List ShardConfig) (h : ℕ) (k : List ℕ) : Type 0 where
  pub shard : ShardConfig
  pub is_in : IsIn ss shard
  pub inside : in_region shard.region h k ≡ true
  pub at : ℕ
  pub is : contract_at (first_contracts place ss) h k ≡ Some (first_contract at shard)

first_of : (place : ℕ) (ss : List ShardConfig) (h : ℕ) (k : List ℕ) (shard : ShardConfig) → IsIn ss shard → in_region shard.region h k ≡ true → FirstOf place ss h k
first_of place [] h k shard i inside = absurd i
first_of place (s ∷ ss) h k shard i inside =
    elim (cases_Bool (in_region s.region h k)) [
      | inl here ↦ record {
        shard = s;
        is_in = inl refl;
        inside = here;
        at = place;
        is = ap (λ b. cond b (Some (first_contract place s)) (contract_at (first_contracts (place + 1) ss) h k)) here;
      }
      | inr out ↦ elim i [
        | inl e ↦ absurd (both_ways _ out (subst (λ (t : ShardConfig). in_region t.region h k ≡ true) (sym e) inside))
        | inr j ↦
            let r = first_of (place + 1) ss h k shard j inside in
            record {
              shard = r.shard;
              is_in = inr r.is_in;
              inside = r.inside;
              at = r.at;
              is = ap (λ b. cond b (Some (first_contract place s)) (contract_at (first_contracts (place + 1) ss) h k)) out ∙ r.is;
            }
      ]
    ]

-- a change that is asked for leaves the contracts
contracts_left : (setup : SetupState) (past : List Entry) (t : Table) (index : ℕ) (change : Change) → IsAsked setup past change → (applied_at t index change).table.contracts ≡ t.contracts
contracts_left setup past t index change asked =
    table_after (λ (u : Table). u.contracts ≡ t.contracts) t index change refl (λ config is. absurd (subst (IsAsked setup past) is asked))
    (λ removed added is a. absurd (subst (IsAsked setup past) is asked)) (λ branch region tenure maker based_on origin is j. refl)

module _ (setup : SetupState) (ok : IsSetup setup) (past : List Entry) (run : IsRun setup past) where
  pub told_contracts : (w : ℕ) → (table_at setup (told_changes setup past) w).contracts ≡ first_contracts 0 setup.shards
  told_contracts zero = refl
  told_contracts (suc w) =
      let t = table_at setup (told_changes setup past) w in
      contracts_left setup past t (suc w) (change_at (told_changes setup past) w) (told_asked setup ok past run w) ∙ told_contracts w

module _ (setup : SetupState) (ok : IsSetup setup) (past : List Entry) (run : IsRun setup past) (key : List ℕ) where
  pub hash_within : hash_of key setup.hashes < setup.hashes
  hash_within = mod-lt (sum key) (some_hash setup ok)

  -- the shard of the key
  pub key_first : FirstOf 0 setup.shards (hash_of key setup.hashes) key
  key_first =
      let s = shard_of setup ok (hash_of key setup.hashes) key hash_within in
      first_of 0 setup.shards (hash_of key setup.hashes) key s.shard s.is_in s.inside

  pub contract_is : (w : ℕ) → (key_run setup past key).contract w ≡ key_contract (first_contract key_first.at key_first.shard)
  contract_is w =
      ap (λ (cs : List TableContract). contract_or_none (contract_at cs (hash_of key setup.hashes) key)) (told_contracts setup ok past run w) ∙ ap contract_or_none key_first.is

  pub contracts_same : (w u : ℕ) → (key_run setup past key).contract u ≡ (key_run setup past key).contract w
  contracts_same w u = contract_is u ∙ sym (contract_is w)

  pub primary_is : (w : ℕ) → ((key_run setup past key).contract w).primary ≡ Some key_first.shard.primary.0
  primary_is w = ap (λ (c : Contract). c.primary) (contract_is w)

  pub tenure_is : (w : ℕ) → ((key_run setup past key).contract w).tenure ≡ 0
  tenure_is w = ap (λ (c : Contract). c.tenure) (contract_is w)

  second_is : (w : ℕ) → ((key_run setup past key).contract w).second ≡ None
  second_is w = ap (λ (c : Contract). c.second) (contract_is w)

  -- ---- the facts

  pub since_within : (w : ℕ) → ((key_run setup past key).contract w).since ≤ w
  since_within w = subst (λ (c : Contract). c.since ≤ w) (sym (contract_is w)) (omega arith)

  pub tenure_within : (w : ℕ) → ((key_run setup past key).contract w).tenure ≤ ((key_run setup past key).contract w).since
  tenure_within w = subst (λ (c : Contract). c.tenure ≤ c.since) (sym (contract_is w)) (omega arith)

  pub contracts_last : (w u : ℕ) → ((key_run setup past key).contract w).since ≤ u → u ≤ w → (key_run setup past key).contract u ≡ (key_run setup past key).contract w
  contracts_last w u from upto = contracts_same w u

  pub tenures_last : (w u p : ℕ) → ((key_run setup past key).contract w).primary ≡ Some p → ((key_run setup past key).contract w).tenure ≤ u → u ≤ w
      → (((key_run setup past key).contract u).primary ≡ Some p) × (((key_run setup past key).contract u).tenure ≡ ((key_run setup past key).contract w).tenure)
  tenures_last w u p is from upto = (ap (λ (c : Contract). c.primary) (contracts_same w u) ∙ is, ap (λ (c : Contract). c.tenure) (contracts_same w u))

  roles : HasRoles setup.nodes key_first.shard
  roles = all_at (HasRoles setup.nodes) setup.shards (setup_roles setup ok) key_first.shard key_first.is_in

  replicates : VotersReplicate key_first.shard
  replicates =
      let good = not-true (has_bad_roles setup.shards) (and_parts (has_replicas setup.nodes setup.hashes setup.shards) (not (has_bad_roles setup.shards)) ok.config.roles).1 in
      all_at VotersReplicate setup.shards (voters_replicate setup.shards good) key_first.shard key_first.is_in

  pub voters_are_replicas : (w q : ℕ) → has ((key_run setup past key).contract w).voters q ≡ true → has ((key_run setup past key).contract w).replicas q ≡ true
  voters_are_replicas w q =
      subst (λ (c : Contract). has c.voters q ≡ true → has c.replicas q ≡ true) (sym (contract_is w))
      (λ i. same_has key_first.shard.replicas q ∙ replicates q (sym (same_has key_first.shard.voters q) ∙ i))

  pub second_are_replicas : (w : ℕ) (set : List ℕ) (q : ℕ) → ((key_run setup past key).contract w).second ≡ Some set → has set q ≡ true → has ((key_run setup past key).contract w).replicas q ≡ true
  second_are_replicas w set q is i = absurd (none (sym (second_is w) ∙ is))
    where
      none : ◌≡◌ {A = Option (List ℕ)} None (Some set) → ⊥
      none e = absurd (cc e)

  pub primary_is_replica : (w p : ℕ) → ((key_run setup past key).contract w).primary ≡ Some p → has ((key_run setup past key).contract w).replicas p ≡ true
  primary_is_replica w p =
      subst (λ (c : Contract). c.primary ≡ Some p → has c.replicas p ≡ true) (sym (contract_is w))
      (λ is. same_has key_first.shard.replicas p ∙ subst (λ n. nodes.has key_first.shard.replicas n ≡ true) (inner key_first.shard.primary.0 p is) roles.primary)
    where
      inner : (a b : ℕ) → Some a ≡ Some b → a ≡ b
      inner a b e = cc

  pub voters_stay : (w : ℕ) → (((key_run setup past key).contract (suc w)).voters ≡ ((key_run setup past key).contract w).voters) ⊎ GoesOver (key_run setup past key) w
  voters_stay w = inl (ap (λ (c : Contract). c.voters) (contracts_same w (suc w)))

  pub primaries_stay : (w p : ℕ) → ((key_run setup past key).contract w).primary ≡ Some p
      → (((key_run setup past key).contract (suc w)).primary ≡ Some p) ⊎ (((key_run setup past key).contract (suc w)).primary ≡ None)
  primaries_stay w p is = inl (ap (λ (c : Contract). c.primary) (contracts_same w (suc w)) ∙ is)

  pub primaries_are_elected : (w p : ℕ) → ((key_run setup past key).contract w).primary ≡ None → ((key_run setup past key).contract (suc w)).primary ≡ Some p → Elected (key_run setup past key) w p
  primaries_are_elected w p none some = absurd (apart (sym none ∙ primary_is w))
    where
      apart : ◌≡◌ {A = Option ℕ} None (Some key_first.shard.primary.0) → ⊥
      apart e = absurd (cc e)

-- the contract of the key at a node's view is that of the node's own table
pub own_contracts : (setup : SetupState) → IsSetup setup → (past : List Entry) → IsRun setup past → (key : List ℕ) (node m : ℕ)
    → (key_run setup past key).contract ((key_run setup past key).view node m) ≡ contract_or_none (contract_at (table_of (state_at setup past node m).log).contracts (hash_of key setup.hashes) key)
own_contracts setup ok past run key node m =
    ap (λ (cs : List TableContract). contract_or_none (contract_at cs (hash_of key setup.hashes) key))
    (told_contracts setup ok past run (state_at setup past node m).log.acted ∙ sym (contracts_stay setup ok (moment past m) (moment_run setup past run m) node))
