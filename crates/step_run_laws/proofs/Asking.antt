-- In every run the primary of a key serves it, or asks for its branch at each tick with a known leader.
use Rattle.std.proofs.Common.{◌≡◌, ◌≤◌, ◌⊎◌, ◌&&◌, ◌+◌, ℕ, true, false, cond, not, nat_lt, List, [], ◌∷◌, length, Some, None, refl, sym, ap, ◌∙◌, subst, inl, inr, arith, eq-eqb}
use Rattle.std.proofs.lemmas.Bool.{and_parts, and_from}
use Rattle.std.specs.List.{AllByRecursion, list_any}
use Rattle.list_laws.specs.Members.{IsIn}
use Rattle.list_laws.proofs.Members.{all_member}
use Rattle.path_runs.specs.runs.region_map.declared.id.Id.{Id}
use Rattle.path_runs.specs.runs.region_map.declared.id.NodeId.{NodeId}
use Rattle.path_runs.specs.runs.region_map.Keys.{hash_of}
use Rattle.path_runs.specs.runs.region_map.Nodes.{node_id, has}
use Rattle.path_runs.specs.runs.region_map.Regions.{in_region}
use Rattle.path_runs.specs.runs.contract_types.declared.config.ShardConfig.{ShardConfig}
use Rattle.path_runs.specs.runs.contract_types.declared.contract.Contract.{Contract}
use Rattle.path_runs.specs.runs.contract_types.declared.contract.Holder.{Holder}
use Rattle.path_runs.specs.runs.contract_types.Setup.{SetupState, IsSetup}
use Rattle.path_runs.specs.runs.contract_types.Tables.{first_contract, first_contracts}
use Rattle.path_runs.specs.runs.contract_types.Tilings.{holders}
use Rattle.path_runs.specs.runs.table_apply.Conditions.{contract_region}
use Rattle.path_runs.specs.runs.table_log.Logs.{table_of}
use Rattle.path_runs.specs.runs.store_api.Rows.{has_key}
use Rattle.path_runs.specs.runs.exec_types.declared.input.Input.{Input}
use Rattle.path_runs.specs.runs.exec_types.declared.input.Input.TheVariants.{Tick}
use Rattle.path_runs.specs.runs.exec_types.declared.output.Output.{Output}
use Rattle.path_runs.specs.runs.primary_exec.declared.asking.Asking.{Asking as Asked}
use Rattle.path_runs.specs.runs.primary_exec.Execution.{Execution}
use Rattle.path_runs.specs.runs.node_core.declared.journal.Entry.{Entry}
use Rattle.path_runs.specs.runs.node_core.Parts.{is_for}
use Rattle.path_runs.specs.runs.node_core.Step.{NodeState, is_led, serves, ends_numbers, node_step}
use Rattle.path_runs.specs.runs.Run.{IsRun, brought, state, arrives, names_node, suits, is_fresh}
use Rattle.path_runs.specs.runs.Serving.{is_served_by}
use Rattle.path_runs.proofs.change_runs.AskedRuns.{contracts_stay}
use Rattle.path_runs.proofs.change_runs.AskedRunsTables.{one_of_id}
use Rattle.path_runs.proofs.step_runs.Setups.{exec_region}
use Rattle.path_runs.proofs.step_runs.ShardRoles.{HasRoles, setup_roles}
use Rattle.path_runs.proofs.key_runs.KeyedRoles.{asking_region, led}
use Rattle.path_runs.proofs.lead_runs.LedRoles.{IsAsking, asked_led, contracts_few, one_of_few}
use Rattle.path_runs.proofs.lead_runs.LedRuns.{run_roles}
use Rattle.path_runs.proofs.log_runs.LogWorldRuns.{log_world, run_facts, promises, journal_past}
use Rattle.answer_runs.proofs.ServedCounts.{counted}
use Rattle.answer_runs.proofs.ServedLaws.{serves_exactly}
use Rattle.step_laws.specs.Outs.{AsksFor}
use Rattle.step_laws.proofs.Asks.{asks_at_each_tick}
use Rattle.step_run_laws.proofs.Taking.{own_state, unserved}

-- ---- counts of a pair

none_hold : (hashes : ℕ) (key : List ℕ) (xs : List Execution) → ((x : Execution) → IsIn xs x → is_for hashes key x ≡ false) → holders exec_region xs (hash_of key hashes) key ≡ 0
none_hold hashes key [] none = refl
none_hold hashes key (x ∷ xs) none =
    let rest = none_hold hashes key xs (λ y i. none y (inr i)) in
    ap (λ b. cond b (1 + holders exec_region xs (hash_of key hashes) key) (holders exec_region xs (hash_of key hashes) key)) (none x (inl refl)) ∙ rest

record HasPair (xs : List Asked) (h : ℕ) (k : List ℕ) : Type 0 where
  asked : Asked
  there : IsIn xs asked
  has_it : in_region (asking_region asked) h k ≡ true

one_asks : (xs : List Asked) (h : ℕ) (k : List ℕ) → 1 ≤ holders asking_region xs h k → HasPair xs h k
one_asks [] h k l = absurd (omega (arith, l))
one_asks (x ∷ xs) h k l =
    elim (in_region (asking_region x) h k) as (λ b. in_region (asking_region x) h k ≡ b → 1 ≤ cond b (1 + holders asking_region xs h k) (holders asking_region xs h k) → HasPair (x ∷ xs) h k) [
      | true ↦ λ e _. record { asked = x; there = inl refl; has_it = e }
      | false ↦ λ _ m. let r = one_asks xs h k m in record { asked = r.asked; there = inr r.there; has_it = r.has_it }
    ] refl l

-- ---- contracts that a node leads

held_led : (n place : ℕ) (ss : List ShardConfig) (c : Contract) (holder : Holder) (h : ℕ) (k : List ℕ) → IsIn (first_contracts place ss) c → c.primary ≡ Some holder → holder.server.0 ≡ n → in_region c.region h k ≡ true
    → 1 ≤ led n ss h k
held_led n place [] c holder h k i held own has_it = absurd i
held_led n place (s ∷ ss) c holder h k i held own has_it =
    elim i [
      | inl e ↦
          let first : (first_contract place s).primary ≡ Some holder = ap (λ (d : Contract). d.primary) e ∙ held in
          let server : s.primary ≡ holder.server = server_is s.primary holder first in
          let both : (is_led n s && in_region s.region h k) ≡ true =
          and_from (is_led n s) (in_region s.region h k) (eq-eqb s.primary.0 n (ap (λ (m : NodeId). m.0) server ∙ own)) (ap (λ (d : Contract). in_region d.region h k) e ∙ has_it) in
          let one : ◌≡◌ {A = ℕ} (cond (is_led n s && in_region s.region h k) 1 0) 1 = ap (λ b. cond b 1 0) both in
          omega (arith, one)
      | inr j ↦ let rest = held_led n (place + 1) ss c holder h k j held own has_it in omega (arith, rest)
    ]
  where
    server_is : (p : NodeId) (o : Holder) → Some (record { server = p; hand_over = None }) ≡ Some o → p ≡ o.server
    server_is p o e = let same : ◌≡◌ {A = Holder} (record { server = p; hand_over = None }) o = cc in ap (λ (v : Holder). v.server) same

is_replica : (nodes place : ℕ) (ss : List ShardConfig) (c : Contract) (holder : Holder) → AllByRecursion (HasRoles nodes) ss → IsIn (first_contracts place ss) c → c.primary ≡ Some holder → has c.replicas holder.server.0 ≡ true
is_replica nodes place [] c holder roles i held = absurd i
is_replica nodes place (s ∷ ss) c holder roles i held =
    elim i [
      | inl e ↦ subst (λ (d : Contract). d.primary ≡ Some holder → has d.replicas holder.server.0 ≡ true) e (λ p. here p) held
      | inr j ↦ is_replica nodes (place + 1) ss c holder roles.1 j held
    ]
  where
    here : Some (record { server = s.primary; hand_over = None }) ≡ Some holder → has s.replicas holder.server.0 ≡ true
    here p =
        let same : ◌≡◌ {A = Holder} (record { server = s.primary; hand_over = None }) holder = cc in
        ap (λ (v : Holder). has s.replicas v.server.0) (sym same) ∙ roles.0.primary

-- ---- the node of an entry

is_up : (setup : SetupState) (past : List Entry) (e : Entry) → IsRun setup (e ∷ past) → suits (state setup e.node.0 past).up e.input ≡ true
is_up setup past e run =
    let a = nat_lt e.node.0 setup.nodes in
    let b = names_node setup e.input in
    let c = arrives past e.node e.input in
    let d = suits (state setup e.node.0 past).up e.input in
    let f = is_fresh past e.input in
    let g = not (ends_numbers (state setup e.node.0 past) e.input (brought past e.input)) in
    let whole = and_parts (a && b && c && d && f) g run.0.allowed in
    let four = and_parts (a && b && c && d) f whole.0 in
    (and_parts (a && b && c) d four.0).1

acts_within : (setup : SetupState) (past : List Entry) → IsRun setup past → (n : ℕ) → (state setup n past).log.acted ≤ length (state setup n past).log.raft.log
acts_within setup past run n =
    let whole = ap (log_world setup) (journal_past past (length past) (omega arith)) in
    let within = subst (λ (w : _). (w.node n).view ≤ length (w.node n).log) whole ((promises setup past run).within (length past) n) in
    omega (arith, within, (run_facts setup past run).caught n)

module _ (setup : SetupState) (ok : IsSetup setup) (past : List Entry) (e : Entry) (run : IsRun setup (e ∷ past)) (key : List ℕ) (c : Contract) (holder : Holder) (leader : NodeId) (ticks : e.input ≡ Tick)
    (known : (state setup e.node.0 (e ∷ past)).log.raft.votes.leader ≡ Some leader) (in_table : IsIn (table_of (state setup e.node.0 past).log).contracts c)
    (has_it : has_key c.region setup.hashes key ≡ true) (held : c.primary ≡ Some holder) (own : holder.server.0 ≡ e.node.0) where
  abbrev n : ℕ
  n = e.node.0

  abbrev s : NodeState
  s = state setup n past

  abbrev g : ℕ
  g = hash_of key setup.hashes

  first : IsIn (first_contracts 0 setup.shards) c
  first = subst (λ (cs : List Contract). IsIn cs c) (contracts_stay setup ok past run.1 n) in_table

  up : s.up ≡ true
  up = subst (λ (i : Input). suits s.up i ≡ true) ticks (is_up setup past e run)

  asking_first : (b : Asked) → IsIn s.asking b → IsIn (first_contracts 0 setup.shards) b.contract
  asking_first b i =
      let is : IsAsking setup n s.life b = all_member (IsAsking setup n s.life) s.asking (run_roles setup ok past run.1 n).roles.askings b i in
      (asked_led (node_id n) s.life 0 (first_contracts 0 setup.shards) b is.of).0

  few : holders asking_region s.asking g key ≤ 1
  few = let one = (run_roles setup ok past run.1 n).roles.one g key in omega (arith, one)

  asks : HasPair s.asking g key → (branch : Id) × AsksFor e.outputs leader c.id branch
  asks p =
      let a : Asked = p.asked in
      let same : a.contract ≡ c = one_of_few contract_region (first_contracts 0 setup.shards) g key (contracts_few setup ok g key) a.contract c (asking_first a p.there) first p.has_it has_it in
      let once : (b : Asked) → IsIn s.asking b → b.contract.id ≡ c.id → b ≡ a =
      λ b i id.
      let is : b.contract ≡ c = one_of_id 0 setup.shards b.contract c (asking_first b i) first id in
      one_of_few asking_region s.asking g key few b a i p.there (ap (λ (d : Contract). in_region d.region g key) is ∙ has_it) p.has_it in
      let me : s.me ≡ node_id n = (run_roles setup ok past run.1 n).me_is in
      let own_me : holder.server.0 ≡ s.me.0 = own ∙ ap (λ (m : NodeId). m.0) (sym me) in
      let replica : has c.replicas s.me.0 ≡ true = ap (has c.replicas) (sym own_me) ∙ is_replica setup.nodes 0 setup.shards c holder (setup_roles setup ok) first held in
      let known_then : (node_step s Tick (brought past e.input)).node.log.raft.votes.leader ≡ Some leader =
      ap (λ (i : Input). (node_step s i (brought past e.input)).node.log.raft.votes.leader) (sym ticks) ∙ ap (λ (t : NodeState). t.log.raft.votes.leader) (sym (own_state setup past e)) ∙ known in
      let outs_are : e.outputs ≡ (node_step s Tick (brought past e.input)).outs = run.0.outputs ∙ ap (λ (i : Input). (node_step s i (brought past e.input)).outs) ticks in (
        a.branch,
        subst (λ (outs : List Output). AsksFor outs leader c.id a.branch) (sym outs_are)
            (asks_at_each_tick s (brought past e.input) leader c holder a (acts_within setup past run.1 n) known_then in_table held own_me replica p.there (ap (λ (d : Contract). d.id) same) once),
      )

  unserved_asks : serves s key ≡ false → HasPair s.asking g key
  unserved_asks none =
      let of : s.setup ≡ setup = (run_roles setup ok past run.1 n).of in
      let none_here : list_any (is_for setup.hashes key) s.executions ≡ false = subst (λ (v : SetupState). list_any (is_for v.hashes key) s.executions ≡ false) of none in
      let zero : holders exec_region s.executions g key ≡ 0 = none_hold setup.hashes key s.executions (unserved setup.hashes key s.executions none_here) in
      let leads = held_led n 0 setup.shards c holder g key first held own has_it in
      let all : holders exec_region s.executions g key + holders asking_region s.asking g key ≡ led n setup.shards g key =
      counted setup ok past run.1 n g key ∙ ap (λ b. cond b (led n setup.shards g key) 0) up in
      one_asks s.asking g key (omega (arith, zero, leads, all))

  pub serves_or_asks : (is_served_by s key ≡ true) ⊎ ((branch : Id) × AsksFor e.outputs leader c.id branch)
  serves_or_asks =
      elim (serves s key) as (λ b. serves s key ≡ b → (is_served_by s key ≡ true) ⊎ ((branch : Id) × AsksFor e.outputs leader c.id branch)) [
        | true ↦ λ is. inl (sym (serves_exactly setup ok past run.1 n key) ∙ is)
        | false ↦ λ none. inr (asks (unserved_asks none))
      ] refl
