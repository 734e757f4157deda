-- In every run a node serves exactly the keys that it is to serve by its table.
use Rattle.std.proofs.Common.{◌≡◌, ◌==◌, ℕ, ◌+◌, ◌<◌, ◌≤◌, Bool, true, false, cond, ◌&&◌, ◌||◌, List, [], ◌∷◌, sum, Option, Some, None, inl, inr, refl, sym, ap, ◌∙◌, subst, arith}
use Rattle.std.proofs.Math.Nat.{mod-lt}
use Rattle.std.proofs.lemmas.Bool.{and_parts, and_from, eqb-true, eq-eqb, cases_lt}
use Rattle.std.specs.List.{list_any}
use Rattle.path_runs.specs.runs.region_map.declared.id.Id.{Id}
use Rattle.path_runs.specs.runs.region_map.declared.id.NodeId.{NodeId}
use Rattle.path_runs.specs.runs.region_map.declared.region.Region.{Region}
use Rattle.path_runs.specs.runs.region_map.Keys.{hash_of}
use Rattle.path_runs.specs.runs.region_map.Nodes.{node_id}
use Rattle.path_runs.specs.runs.region_map.Regions.{in_region}
use Rattle.path_runs.specs.runs.branch_history.Paths.{Branches}
use Rattle.path_runs.specs.runs.branch_history.Histories.{birth_of, IsHistory}
use Rattle.path_runs.specs.runs.contract_types.declared.config.ShardConfig.{ShardConfig}
use Rattle.path_runs.specs.runs.contract_types.declared.contract.Contract.{Contract}
use Rattle.path_runs.specs.runs.contract_types.declared.contract.Holder.{Holder}
use Rattle.path_runs.specs.runs.contract_types.Setup.{SetupState, IsSetup}
use Rattle.path_runs.specs.runs.contract_types.Tables.{Table, branch_at, first_contracts}
use Rattle.path_runs.specs.runs.contract_types.Tilings.{holders}
use Rattle.path_runs.specs.runs.table_apply.Conditions.{is_held_by}
use Rattle.path_runs.specs.runs.table_log.Logs.{table_of}
use Rattle.path_runs.specs.runs.store_api.Rows.{has_key}
use Rattle.path_runs.specs.runs.primary_exec.declared.asking.Asking.{Asking}
use Rattle.path_runs.specs.runs.primary_exec.Execution.{Execution}
use Rattle.path_runs.specs.runs.node_core.declared.journal.Entry.{Entry}
use Rattle.path_runs.specs.runs.node_core.Parts.{is_for}
use Rattle.path_runs.specs.runs.node_core.Step.{NodeState, serves, is_led}
use Rattle.path_runs.specs.runs.Run.{state, IsRun}
use Rattle.path_runs.specs.runs.Story.{IsIn}
use Rattle.path_runs.specs.runs.Serving.{is_primary, is_of_tenure, is_made_in, is_served_under, is_served_by}
use Rattle.path_runs.proofs.change_runs.AskedRuns.{contracts_stay, config_stays}
use Rattle.path_runs.proofs.step_runs.PointBranches.{all_at}
use Rattle.path_runs.proofs.step_runs.Runs.{some_hash}
use Rattle.path_runs.proofs.step_runs.Setups.{exec_region}
use Rattle.path_runs.proofs.key_runs.KeyedRoles.{asking_region, led}
use Rattle.path_runs.proofs.lead_runs.LedRows.{Lead, lead_of, kept}
use Rattle.path_runs.proofs.lead_runs.LedRoles.{IsLed, some_there}
use Rattle.path_runs.proofs.lead_runs.LedRuns.{run_roles, is_history}
use Rattle.path_runs.proofs.lead_runs.LedAsked.{lead_own}
use Rattle.path_runs.proofs.lead_runs.LedShards.{leads_in}
use Rattle.path_runs.proofs.OnPath.{current, birth_there}
use Rattle.answer_runs.proofs.ServedAsking.{asked_here, written_current, waits}
use Rattle.answer_runs.proofs.ServedCounts.{counted}
use Rattle.answer_runs.proofs.ServedTenures.{is_first, tenure_0}

-- ---- lists

record Member {A : Type 0} (p : A → Bool) (xs : List A) : Type 0 where
  x : A
  is_in : IsIn xs x
  passes : p x ≡ true

member : {A : Type 0} (p : A → Bool) (xs : List A) → list_any p xs ≡ true → Member p xs
member p [] e = absurd (cc e)
member p (x ∷ xs) e =
    elim (p x) as (λ b. p x ≡ b → (b || list_any p xs) ≡ true → Member p (x ∷ xs)) [
      | true ↦ λ here _. record { x = x; is_in = inl refl; passes = here }
      | false ↦ λ _ f. let m = member p xs f in record { x = m.x; is_in = inr m.is_in; passes = m.passes }
    ] refl e

any_member : {A : Type 0} (p : A → Bool) (xs : List A) (x : A) → IsIn xs x → p x ≡ true → list_any p xs ≡ true
any_member p [] x i e = absurd i
any_member p (y ∷ ys) x i e =
    elim i [
      | inl same ↦ ap (λ b. b || list_any p ys) (ap p same ∙ e)
      | inr j ↦ elim (p y) as (λ b. (b || list_any p ys) ≡ true) [ true ↦ refl | false ↦ any_member p ys x j e ]
    ]

record Has {T : Type 0} (place : T → Region) (xs : List T) (g : ℕ) (key : List ℕ) : Type 0 where
  x : T
  is_in : IsIn xs x
  has : in_region (place x) g key ≡ true

some_has : {T : Type 0} (place : T → Region) (xs : List T) (g : ℕ) (key : List ℕ) → 1 ≤ holders place xs g key → Has place xs g key
some_has place [] g key l = absurd (omega (arith, l))
some_has place (x ∷ xs) g key l =
    elim (in_region (place x) g key) as (λ b. in_region (place x) g key ≡ b → 1 ≤ cond b (1 + holders place xs g key) (holders place xs g key) → Has place (x ∷ xs) g key) [
      | true ↦ λ e _. record { x = x; is_in = inl refl; has = e }
      | false ↦ λ _ m. let r = some_has place xs g key m in record { x = r.x; is_in = inr r.is_in; has = r.has }
    ] refl l

both_or : (a b : Bool) → (a ≡ true → b ≡ true) → (b ≡ true → a ≡ true) → a ≡ b
both_or true b f g = sym (f refl)
both_or false true f g = g refl
both_or false false f g = refl

-- one of the shards that a node leads
led_one : (n : ℕ) (ss : List ShardConfig) (s : ShardConfig) (g : ℕ) (key : List ℕ) → IsIn ss s → is_led n s ≡ true → in_region s.region g key ≡ true → 1 ≤ led n ss g key
led_one n [] s g key i own has = absurd i
led_one n (t ∷ ts) s g key i own has =
    elim i [
      | inl e ↦
          let both : (is_led n t && in_region t.region g key) ≡ true = subst (λ (x : ShardConfig). (is_led n x && in_region x.region g key) ≡ true) (sym e) (and_from (is_led n s) (in_region s.region g key) own has) in
          let one : ◌≡◌ {A = ℕ} (cond (is_led n t && in_region t.region g key) 1 0) 1 = ap (λ b. cond b 1 0) both in
          omega (arith, one)
      | inr j ↦ let rest = led_one n ts s g key j own has in omega (arith, rest)
    ]

module _ (setup : SetupState) (ok : IsSetup setup) (past : List Entry) (run : IsRun setup past) (n : ℕ) (key : List ℕ) where
  abbrev s : NodeState
  s = state setup n past

  abbrev t : Table
  t = table_of s.log

  abbrev g : ℕ
  g = hash_of key setup.hashes

  abbrev p : Contract → Bool
  p c = is_served_under s.me s.life t key c

  roles : s.me ≡ node_id n
  roles = (run_roles setup ok past run n).me_is

  of : s.setup ≡ setup
  of = (run_roles setup ok past run n).of

  hashes : t.config.hashes ≡ setup.hashes
  hashes = ap (λ c. c.hashes) (config_stays setup ok past run n)

  within : g < setup.hashes
  within = mod-lt (sum key) (some_hash setup ok)

  contracts : t.contracts ≡ first_contracts 0 setup.shards
  contracts = contracts_stay setup ok past run n

  -- what it writes was made in this life, in the tenure of its contract
  made : (b : Id) → branch_at t.history g key ≡ Some b → b.node.0 ≡ n → b.life ≡ s.life → (c : Contract) → IsIn (first_contracts 0 setup.shards) c → is_made_in s.me s.life c.tenure t (branch_at t.history g key) ≡ true
  made b now of_node of_life c i =
      let at = current t.history g key b now in
      let birth_is : birth_of t.history b ≡ Some at.birth =
      ap (λ (bs : Branches). birth_of bs b) at.is ∙ birth_there at.newer at.older b at.birth (subst IsHistory at.is (is_history setup past run n)) in
      let tenure : at.birth.tenure ≡ c.tenure = tenure_0 setup ok past run n at.newer at.older (b, at.birth) at.is ∙ sym (is_first 0 setup.shards c i).tenure_is in
      let me : b.node.0 ≡ s.me.0 = of_node ∙ ap (λ (m : NodeId). m.0) (sym roles) in
      ap (λ o. is_made_in s.me s.life c.tenure t o) now
      ∙ and_from ((b.node.0 == s.me.0) && (b.life == s.life)) (is_of_tenure c.tenure (birth_of t.history b)) (and_from (b.node.0 == s.me.0) (b.life == s.life) (eq-eqb b.node.0 s.me.0 me) (eq-eqb b.life s.life of_life))
      (ap (is_of_tenure c.tenure) birth_is ∙ eq-eqb at.birth.tenure c.tenure tenure)

  at_setup : (c : Contract) → has_key c.region t.config.hashes key ≡ in_region c.region g key
  at_setup c = ap (λ m. has_key c.region m key) hashes

  at_hash : branch_at t.history (hash_of key t.config.hashes) key ≡ branch_at t.history g key
  at_hash = ap (λ m. branch_at t.history (hash_of key m) key) hashes

  served : (x : Execution) → IsIn s.executions x → is_for s.setup.hashes key x ≡ true → is_served_by s key ≡ true
  served x i for =
      let l : Lead = lead_of x in
      let l_in : IsIn (kept s).leads l = leads_in s.executions x i in
      let has : in_region x.contract.region g key ≡ true = subst (λ (v : SetupState). is_for v.hashes key x ≡ true) of for in
      let is : IsLed setup n s.life l = all_at (IsLed setup n s.life) (kept s).leads (run_roles setup ok past run n).roles.leads l l_in in
      let c : Contract = x.contract in
      let first = is_first 0 setup.shards c is.contract in
      let own = lead_own setup past run n l l_in in
      let now = written_current setup ok past run n key l l_in has in
      let holds : is_primary s.me c.primary ≡ true =
      ap (λ (m : NodeId). is_primary m c.primary) roles ∙ ap (is_primary (node_id n)) first.primary_is
      ∙ and_from (first.shard.primary.0 == n) true (sym (ap (λ (h : Option Holder). is_held_by h (node_id n)) first.primary_is) ∙ is.held) refl in
      let passes : p c ≡ true =
      and_from (has_key c.region t.config.hashes key && is_primary s.me c.primary) (is_made_in s.me s.life c.tenure t (branch_at t.history (hash_of key t.config.hashes) key))
      (and_from (has_key c.region t.config.hashes key) (is_primary s.me c.primary) (at_setup c ∙ has) holds)
      (ap (is_made_in s.me s.life c.tenure t) at_hash ∙ made l.branch now own.node_is own.life_is c is.contract) in
      let count = counted setup ok past run n g key in
      let one = some_there exec_region s.executions g key x i has in
      let up : s.up ≡ true = is_up s.up (holders exec_region s.executions g key + holders asking_region s.asking g key) (led n setup.shards g key) (omega (arith, one)) count in
      and_from s.up (list_any p t.contracts) up (any_member p t.contracts c (subst (λ (cs : List Contract). IsIn cs c) (sym contracts) is.contract) passes)
    where
      is_up : (up : Bool) (m k : ℕ) → 1 ≤ m → m ≡ cond up k 0 → up ≡ true
      is_up true m k l e = refl
      is_up false m k l e = absurd (omega (arith, l, e))

  serves_it : is_served_by s key ≡ true → serves s key ≡ true
  serves_it e =
      let parts = and_parts s.up (list_any p t.contracts) e in
      let m = member p t.contracts parts.1 in
      let c : Contract = m.x in
      let c_in : IsIn (first_contracts 0 setup.shards) c = subst (λ (cs : List Contract). IsIn cs c) contracts m.is_in in
      let first = is_first 0 setup.shards c c_in in
      let last = and_parts (has_key c.region t.config.hashes key && is_primary s.me c.primary) (is_made_in s.me s.life c.tenure t (branch_at t.history (hash_of key t.config.hashes) key)) m.passes in
      let front = and_parts (has_key c.region t.config.hashes key) (is_primary s.me c.primary) last.0 in
      let has : in_region c.region g key ≡ true = sym (at_setup c) ∙ front.0 in
      let held : (first.shard.primary.0 == n) ≡ true =
      (and_parts (first.shard.primary.0 == n) true (sym (ap (is_primary (node_id n)) first.primary_is) ∙ sym (ap (λ (k : NodeId). is_primary k c.primary) roles) ∙ front.1)).0 in
      let one = led_one n setup.shards first.shard g key first.is_in held (subst (λ (r : Region). in_region r g key ≡ true) first.region_is has) in
      let count = counted setup ok past run n g key in
      let all : cond s.up (led n setup.shards g key) 0 ≡ led n setup.shards g key = ap (λ b. cond b (led n setup.shards g key) 0) parts.0 in
      let was_made : is_made_in s.me s.life c.tenure t (branch_at t.history g key) ≡ true = sym (ap (is_made_in s.me s.life c.tenure t) at_hash) ∙ last.1 in
      elim (cases_lt 0 (holders exec_region s.executions g key)) [
        | inl some ↦
            let x = some_has exec_region s.executions g key (omega (arith, some)) in
            any_member (is_for s.setup.hashes key) s.executions x.x x.is_in (subst (λ (v : SetupState). is_for v.hashes key x.x ≡ true) (sym of) x.has)
        | inr none ↦
            let a = some_has asking_region s.asking g key (omega (arith, none, one, count, all)) in
            absurd (no_asking a.x a.is_in a.has c.tenure (branch_at t.history g key) refl was_made)
      ]
    where
      no_asking : (a : Asking) → IsIn s.asking a → in_region a.contract.region g key ≡ true → (tenure : ℕ) (o : Option Id) → branch_at t.history g key ≡ o → is_made_in s.me s.life tenure t o ≡ true → ⊥
      no_asking a i has tenure None now was = absurd (cc was)
      no_asking a i has tenure (Some b) now was =
          let front = and_parts ((b.node.0 == s.me.0) && (b.life == s.life)) (is_of_tenure tenure (birth_of t.history b)) was in
          let own = and_parts (b.node.0 == s.me.0) (b.life == s.life) front.0 in
          let of_node : b.node.0 ≡ n = eqb-true b.node.0 s.me.0 own.0 ∙ ap (λ (m : NodeId). m.0) roles in
          let it = asked_here setup ok past run n g key b now of_node (eqb-true b.life s.life own.1) a i has in
          waits setup ok past run n a i g key within has (now ∙ ap Some it.branch_is)

  pub serves_exactly : serves s key ≡ is_served_by s key
  serves_exactly =
      both_or (serves s key) (is_served_by s key) (λ e. let m = member (is_for s.setup.hashes key) s.executions e in served m.x m.is_in m.passes) serves_it
