-- In every run a node writes the current branch of each pair of the regions in which it writes one, and no branch for which it asks is current.
use Rattle.std.proofs.Common.{◌≡◌, ◌==◌, ℕ, ◌+◌, ◌<◌, true, cond, List, [], ◌∷◌, ◌++◌, sum, Option, Some, None, inl, inr, refl, sym, ap, ◌∙◌, subst, arith, append_assoc}
use Rattle.std.proofs.Math.Nat.{mod-lt}
use Rattle.std.proofs.lemmas.Bool.{cases_Bool, both_ways}
use Rattle.path_runs.specs.runs.region_map.declared.id.Id.{Id}
use Rattle.path_runs.specs.runs.region_map.declared.id.NodeId.{NodeId}
use Rattle.path_runs.specs.runs.region_map.declared.region.Region.{Region}
use Rattle.path_runs.specs.runs.region_map.Keys.{hash_of}
use Rattle.path_runs.specs.runs.region_map.Nodes.{node_id}
use Rattle.path_runs.specs.runs.region_map.Regions.{in_region}
use Rattle.path_runs.specs.runs.region_map.Maps.{value_at}
use Rattle.path_runs.specs.runs.region_map.Equal.{same_id}
use Rattle.path_runs.specs.runs.branch_history.declared.version.Version.{Version}
use Rattle.path_runs.specs.runs.branch_history.declared.history.BranchBirth.{BranchBirth}
use Rattle.path_runs.specs.runs.branch_history.Paths.{Branches}
use Rattle.path_runs.specs.runs.branch_history.Histories.{knows, birth_of, IsHistory}
use Rattle.path_runs.proofs.runs.branch_history.PathLaws.{id_same, id_self}
use Rattle.path_runs.specs.runs.contract_types.declared.contract.Contract.{Contract}
use Rattle.path_runs.specs.runs.contract_types.declared.results.Viewed.{Viewed}
use Rattle.path_runs.specs.runs.contract_types.Setup.{SetupState, IsSetup}
use Rattle.path_runs.specs.runs.contract_types.Tables.{Table, branch_at, first_contracts}
use Rattle.path_runs.specs.runs.table_apply.Conditions.{contract_region}
use Rattle.path_runs.specs.runs.table_log.Fitting.{changes_of}
use Rattle.path_runs.specs.runs.table_log.Logs.{LogState, table_of, caught_up, viewed}
use Rattle.path_runs.specs.runs.primary_exec.declared.asking.Asking.{Asking}
use Rattle.path_runs.specs.runs.node_core.declared.journal.Entry.{Entry}
use Rattle.path_runs.specs.runs.node_core.Starting.{initial_of, is_current, due}
use Rattle.path_runs.specs.runs.node_core.Step.{NodeState, Stepped, input_row, act_on, end_step}
use Rattle.path_runs.specs.runs.Run.{state, brought, IsRun}
use Rattle.path_runs.specs.runs.Story.{IsIn}
use Rattle.path_runs.proofs.change_runs.Asked.{Asked, IsAsked, history_of, Stale}
use Rattle.path_runs.proofs.change_runs.AskedRuns.{log_registers, registered_asked, asked_in}
use Rattle.path_runs.proofs.change_runs.AskedRunsTables.{table_has_first}
use Rattle.path_runs.proofs.change_runs.Registered.{comes_from, not_stale}
use Rattle.path_runs.proofs.log_runs.LogWorldRuns.{moving}
use Rattle.path_runs.proofs.step_runs.PointBranches.{all_at}
use Rattle.path_runs.proofs.step_runs.Runs.{some_hash}
use Rattle.path_runs.proofs.change_runs.LedMaps.{some_of}
use Rattle.path_runs.proofs.change_runs.LedHistories.{some_inner, knows_one, knows_longer, birth_known, Stands, older_one, current_known}
use Rattle.path_runs.proofs.lead_runs.LedRows.{Lead, kept}
use Rattle.path_runs.proofs.lead_runs.LedRoles.{asked_from, asking_region, IsAsking, IsLed, asked_led, asked_count, contracts_few, one_of_few}
use Rattle.path_runs.proofs.lead_runs.LedRuns.{run_roles, config_is, all_fit, is_history, history_stays}
use Rattle.path_runs.proofs.lead_runs.LedAsked.{asked_run, asked_own, current_some, table_hashes, came, known_life, all_stale}
use Rattle.path_runs.proofs.lead_runs.LedShards.{holder_is}
use Rattle.path_runs.proofs.lead_runs.LedKeys.{LedAt, led_at, asked_id, act_waits}
use Rattle.path_runs.proofs.OnPath.{ShardOf, shard_of, Current, current, birth_there, each_asked, one_first}
use Rattle.path_runs.proofs.Stays.{rest_history}
use Rattle.path_runs.proofs.change_runs.ServedCurrent.{is_current_from}
use Rattle.answer_runs.proofs.ServedCounts.{Goes, Lasts, Down, Up, row_goes}

-- ---- what stands in a history

known_there : (bs : Branches) (id : Id) (birth : BranchBirth) → Stands bs id birth → knows bs id ≡ true
known_there bs id birth o = ap (λ (l : Branches). knows l id) o.is ∙ knows_one o.newer o.older (id, birth)

known_behind : (bs : Branches) (id : Id) (birth : BranchBirth) (o : Stands bs id birth) (x : Id) → knows o.older x ≡ true → knows bs x ≡ true
known_behind bs id birth o x known =
    ap (λ (l : Branches). knows l x) o.is ∙ knows_longer o.newer ((id, birth) ∷ o.older) x (knows_longer ((id, birth) ∷ []) o.older x known)

module _ (setup : SetupState) (ok : IsSetup setup) (past : List Entry) (run : IsRun setup past) (n : ℕ) where
  abbrev H : Branches
  H = history_of setup n past

  hist : IsHistory H
  hist = is_history setup past run n

  -- ---- what it writes

  -- the branch that it writes in a key's region is the key's current one
  pub written_current : (key : List ℕ) (x : Lead) → IsIn (kept (state setup n past)).leads x → in_region x.contract.region (hash_of key setup.hashes) key ≡ true
      → branch_at H (hash_of key setup.hashes) key ≡ Some x.branch
  written_current key x i has =
      let g : ℕ = hash_of key setup.hashes in
      let within : g < setup.hashes = mod-lt (sum key) (some_hash setup ok) in
      let s = shard_of setup ok g key within in
      let led : IsLed setup n (state setup n past).life x = all_at (IsLed setup n (state setup n past).life) (kept (state setup n past)).leads (run_roles setup ok past run n).roles.leads x i in
      let who : s.shard.primary.0 ≡ n = holder_is setup ok s.shard s.is_in g key s.inside x.contract n led.contract has led.held in
      let l : LedAt setup past key n = subst (LedAt setup past key) who (led_at setup ok s.shard s.is_in key s.inside past run) in
      let of : x.branch ≡ l.branch = some_inner x.branch l.branch (ap (λ (v : Version). v.branch) (sym (l.led.stands x i has)) ∙ l.led.branch_is) in
      let registered : birth_of H x.branch ≡ Some l.led.birth = ap (birth_of H) of ∙ l.led.registered in
      let b = some_of (branch_at H g key) (current_some setup ok past run n g key within) in
      elim (cases_Bool (same_id b.0 x.branch)) [
        | inl same ↦ b.1 ∙ ap Some (id_same b.0 x.branch same)
        | inr other ↦ absurd (none_newer key x i has within s who l.led.birth registered l.led.inside b.0 b.1 (λ same. both_ways (same_id b.0 x.branch) other (ap (same_id b.0) (sym same) ∙ id_self b.0)))
      ]
    where
      -- one that was registered later would be stale
      none_newer : (key : List ℕ) (x : Lead) → IsIn (kept (state setup n past)).leads x → in_region x.contract.region (hash_of key setup.hashes) key ≡ true → hash_of key setup.hashes < setup.hashes
          → (s : ShardOf setup.shards (hash_of key setup.hashes) key) → s.shard.primary.0 ≡ n → (birth : BranchBirth) → birth_of H x.branch ≡ Some birth → in_region birth.region (hash_of key setup.hashes) key ≡ true
          → (b : Id) → branch_at H (hash_of key setup.hashes) key ≡ Some b → (b ≡ x.branch → ⊥) → ⊥
      none_newer key x i has within s who birth registered inside b now apart =
          let g : ℕ = hash_of key setup.hashes in
          let log : LogState = (state setup n past).log in
          let table_is = config_is setup past run n in
          let c : Current H g key b = current H g key b now in
          let o : Stands c.older x.branch birth =
          older_one c.newer c.older (b, c.birth) g key x.branch birth (subst IsHistory c.is hist) (ap (λ (bs : Branches). branch_at bs g key) (sym c.is) ∙ now)
          (ap (λ (bs : Branches). birth_of bs x.branch) (sym c.is) ∙ registered) inside apart in
          elim (comes_from setup ok (changes_of log.raft.log) (all_fit setup past run n) log.acted c.newer c.older (b, c.birth) (sym table_is ∙ c.is)) [
            | inl f ↦ one_first setup ok f.0 c.older o.newer o.older (b, c.birth) (x.branch, birth) g key f.1 o.is c.inside inside
            | inr m ↦
                let asked_for : Asked setup past m.maker b c.birth.region m.based_on c.birth.origin = subst (IsAsked setup past) m.change_is (each_asked setup past log.raft.log (registered_asked setup ok past run n) m.index) in
                let maker = asked_in setup ok past run m.maker b c.birth.region m.based_on c.birth.origin asked_for in
                let has_too : in_region maker.contract.region g key ≡ true = subst (λ (r : Region). in_region r g key ≡ true) (sym maker.region_is) c.inside in
                let it : s.shard.primary.0 ≡ m.maker.0 = holder_is setup ok s.shard s.is_in g key s.inside maker.contract m.maker.0 maker.led.known has_too maker.led.held_by in
                let asked : Asked setup past (node_id n) b c.birth.region m.based_on c.birth.origin = subst (λ k. Asked setup past (node_id k) b c.birth.region m.based_on c.birth.origin) (sym it ∙ who) asked_for in
                let stale = all_stale setup ok past run n g key within x i has (birth_known H x.branch birth registered) b c.birth.region m.based_on c.birth.origin asked c.inside in
                not_stale setup ok (changes_of log.raft.log) (all_fit setup past run n) log.acted c.newer c.older (b, c.birth) g key x.branch birth (value_at m.based_on.pieces g key) (sym table_is ∙ c.is) c.inside
                o.newer o.older o.is inside (sym (m.based g key within c.inside)) (subst (λ (bs : Branches). Stale bs x.branch b (value_at m.based_on.pieces g key)) table_is stale)
          ]

  -- ---- what it asks for

  abbrev life : ℕ
  life = (state setup n past).life

  pub asking_is : (a : Asking) → IsIn (state setup n past).asking a → IsAsking setup n life a
  asking_is a i = all_at (IsAsking setup n life) (state setup n past).asking (run_roles setup ok past run n).roles.askings a i

  -- the current branch of a pair, which the node made in this life, is the one for which it asks there
  pub record IsAskedHere (g : ℕ) (key : List ℕ) (b : Id) (a : Asking) : Type 0 where
    pub at : Current H g key b
    pub branch_is : b ≡ a.branch
    pub region_is : at.birth.region ≡ a.contract.region

  pub asked_here : (g : ℕ) (key : List ℕ) (b : Id) → branch_at H g key ≡ Some b → b.node.0 ≡ n → b.life ≡ life → (a : Asking) → IsIn (state setup n past).asking a → in_region a.contract.region g key ≡ true
      → IsAskedHere g key b a
  asked_here g key b now of_node of_life a i has =
      let c : Current H g key b = current H g key b now in
      let role = asking_is a i in
      let later = role.later in
      elim (came setup ok past run n c.newer c.older (b, c.birth) c.is) [
        | inl one ↦ absurd (omega (arith, one, of_life, later))
        | inr m ↦
            let q : Asking = m.asked.asking in
            let own = asked_own setup ok past run m.maker b c.birth.region m.based_on c.birth.origin m.asked in
            let then = asked_run setup ok past run m.maker b c.birth.region m.based_on c.birth.origin m.asked in
            let made : ℕ = (state setup m.maker.0 m.asked.moment).life in
            let role_then : IsAsking setup m.maker.0 made q = all_at (IsAsking setup m.maker.0 made) (state setup m.maker.0 m.asked.moment).asking (run_roles setup ok m.asked.moment then m.maker.0).roles.askings q m.asked.is_in in
            let it : m.maker.0 ≡ n = sym own.node_is ∙ of_node in
            let same_life : made ≡ life = sym own.life_is ∙ of_life in
            let q_of : IsIn (asked_from setup n life) q = subst (λ k. IsIn (asked_from setup k life) q) it (subst (λ l. IsIn (asked_from setup m.maker.0 l) q) same_life role_then.of) in
            let q_has : in_region q.contract.region g key ≡ true = subst (λ (r : Region). in_region r g key ≡ true) (sym m.asked.region_is) c.inside in
            let count = asked_count (node_id n) life 0 (first_contracts 0 setup.shards) g key in
            let few = contracts_few setup ok g key in
            let same : q ≡ a = one_of_few asking_region (asked_from setup n life) g key (omega (arith, count, few)) q a q_of role.of q_has has in
            record {
              at = c;
              branch_is = sym m.asked.branch_is ∙ ap (λ (x : Asking). x.branch) same;
              region_is = sym m.asked.region_is ∙ ap (λ (x : Asking). x.contract.region) same;
            }
      ]

  -- and so it is the current one in the whole of the region
  pub asked_everywhere : (g : ℕ) (key : List ℕ) (a : Asking) → IsIn (state setup n past).asking a → in_region a.contract.region g key ≡ true → (here : IsAskedHere g key a.branch a)
      → branch_at H g key ≡ Some a.branch → (h : ℕ) (k : List ℕ) → h < setup.hashes → in_region a.contract.region h k ≡ true → branch_at H h k ≡ Some a.branch
  asked_everywhere g key a i has here now h k within inside =
      let b = some_of (branch_at H h k) (current_some setup ok past run n h k within) in
      elim (cases_Bool (same_id b.0 a.branch)) [
        | inl same ↦ b.1 ∙ ap Some (id_same b.0 a.branch same)
        | inr other ↦ absurd (no_other b.0 b.1 (λ same. both_ways (same_id b.0 a.branch) other (ap (same_id b.0) (sym same) ∙ id_self b.0)))
      ]
    where
      registered : birth_of H a.branch ≡ Some here.at.birth
      registered = ap (λ (bs : Branches). birth_of bs a.branch) here.at.is ∙ birth_there here.at.newer here.at.older a.branch here.at.birth (subst IsHistory here.at.is hist)

      has_pair : in_region here.at.birth.region h k ≡ true
      has_pair = subst (λ (r : Region). in_region r h k ≡ true) (sym here.region_is) inside

      -- another one would have the first pair too, and be newer
      no_other : (b : Id) → branch_at H h k ≡ Some b → (b ≡ a.branch → ⊥) → ⊥
      no_other b at apart =
          let log : LogState = (state setup n past).log in
          let table_is = config_is setup past run n in
          let c : Current H h k b = current H h k b at in
          let o : Stands c.older a.branch here.at.birth =
          older_one c.newer c.older (b, c.birth) h k a.branch here.at.birth (subst IsHistory c.is hist) (ap (λ (bs : Branches). branch_at bs h k) (sym c.is) ∙ at)
          (ap (λ (bs : Branches). birth_of bs a.branch) (sym c.is) ∙ registered) has_pair apart in
          elim (comes_from setup ok (changes_of log.raft.log) (all_fit setup past run n) log.acted c.newer c.older (b, c.birth) (sym table_is ∙ c.is)) [
            | inl f ↦ one_first setup ok f.0 c.older o.newer o.older (b, c.birth) (a.branch, here.at.birth) h k f.1 o.is c.inside has_pair
            | inr m ↦
                let first = table_has_first setup log.raft.log m.index (log_registers setup past log.raft.log (registered_asked setup ok past run n)) in
                let role = asked_led (node_id n) life 0 (first_contracts 0 setup.shards) a (asking_is a i).of in
                let is : m.contract ≡ a.contract =
                one_of_few contract_region (first_contracts 0 setup.shards) h k (contracts_few setup ok h k) m.contract a.contract (subst (λ (cs : List Contract). IsIn cs m.contract) first.contracts_are m.current) role.0
                (subst (λ (r : Region). in_region r h k ≡ true) (sym m.region_is) c.inside) inside in
                let too : in_region c.birth.region g key ≡ true = subst (λ (r : Region). in_region r g key ≡ true) (sym (ap (λ (x : Contract). x.region) is) ∙ m.region_is) has in
                newer_than c o at too apart
          ]
        where
          newer_than : (c : Current H h k b) → Stands c.older a.branch here.at.birth → branch_at H h k ≡ Some b → in_region c.birth.region g key ≡ true → (b ≡ a.branch → ⊥) → ⊥
          newer_than c o at too apart =
              let newer : Branches = c.newer ++ (b, c.birth) ∷ o.newer in
              let split : H ≡ newer ++ (a.branch, here.at.birth) ∷ o.older =
              c.is ∙ ap (λ (bs : Branches). c.newer ++ (b, c.birth) ∷ bs) o.is ∙ sym (append_assoc c.newer ((b, c.birth) ∷ o.newer) ((a.branch, here.at.birth) ∷ o.older)) in
              let there : birth_of H b ≡ Some c.birth = ap (λ (bs : Branches). birth_of bs b) c.is ∙ birth_there c.newer c.older b c.birth (subst IsHistory c.is hist) in
              let below : Stands o.older b c.birth =
              older_one newer o.older (a.branch, here.at.birth) g key b c.birth (subst IsHistory split hist) (ap (λ (bs : Branches). branch_at bs g key) (sym split) ∙ now)
              (ap (λ (bs : Branches). birth_of bs b) (sym split) ∙ there) too (λ same. apart (sym same)) in
              both_ways (knows c.older b) (rest_history c.newer ((b, c.birth) ∷ c.older) (subst IsHistory c.is hist)).0
              (known_behind c.older a.branch here.at.birth o b (known_there o.older b c.birth below))

-- ---- no branch for which a node asks is current

abbrev pub Waits : SetupState → NodeState → Type 0
Waits setup s =
    (a : Asking) → IsIn s.asking a → (g : ℕ) (key : List ℕ) → g < setup.hashes → in_region a.contract.region g key ≡ true → branch_at (table_of s.log).history g key ≡ Some a.branch → ⊥

module _ (setup : SetupState) (ok : IsSetup setup) (past : List Entry) (e : Entry) (run : IsRun setup (e ∷ past)) (n : ℕ) (own : (e.node.0 == n) ≡ true) (before : Waits setup (state setup n past)) where
  abbrev s : NodeState
  s = state setup n past

  abbrev step : Stepped
  step = input_row s e.input (brought past e.input)

  here : state setup n (e ∷ past) ≡ (end_step step).node
  here = ap (λ b. cond b (moving setup past e n) (state setup n past)) own

  -- it acted on nothing new
  waits_still : viewed step.node.log ≡ None → (a : Asking) → IsIn step.node.asking a → (g : ℕ) (key : List ℕ) → g < setup.hashes → in_region a.contract.region g key ≡ true
      → branch_at (history_of setup n (e ∷ past)) g key ≡ Some a.branch → ⊥
  waits_still none a i g key within has now =
      let row = row_goes s e.input (brought past e.input) in
      let log_is : (state setup n (e ∷ past)).log ≡ step.node.log = ap (λ (t : NodeState). t.log) here ∙ ap (λ o. (act_on step o).node.log) none in
      let same : history_of setup n past ≡ history_of setup n (e ∷ past) =
      history_stays setup (e ∷ past) past run (record { later = e ∷ []; is = refl }) n (sym row.acted ∙ ap (λ (l : LogState). l.acted) (sym log_is)) in
      let then : branch_at (history_of setup n past) g key ≡ Some a.branch = ap (λ (bs : Branches). branch_at bs g key) same ∙ now in
      go row.goes then
    where
      go : Goes s step.node → branch_at (history_of setup n past) g key ≡ Some a.branch → ⊥
      go (Lasts up runs asks) then = before a (subst (λ (l : List Asking). IsIn l a) asks i) g key within has then
      go (Down up runs asks) then = subst (λ (l : List Asking). IsIn l a) asks i
      go (Up up runs asks) then =
          let id = asked_id s.me (s.life + 1) 0 (table_of s.log).contracts a (subst (λ (l : List Asking). IsIn l a) asks i) in
          let known = known_life setup ok past run.1 n a.branch (current_known (history_of setup n past) g key a.branch then) in
          let at : a.branch.node.0 ≡ n = ap (λ (m : NodeId). m.0) (id.0 ∙ (run_roles setup ok past run.1 n).me_is) in
          let there : (state setup a.branch.node.0 past).life ≡ s.life = ap (λ m. (state setup m past).life) at in
          let made = id.1 in
          absurd (omega (arith, known, there, made))

  -- it acted on more, and what still asks is not due
  waits_more : (vw : Viewed) → viewed step.node.log ≡ Some vw → (a : Asking) → IsIn (state setup n (e ∷ past)).asking a → IsIn (act_on step (Some vw)).node.asking a → (g : ℕ) (key : List ℕ) → g < setup.hashes
      → in_region a.contract.region g key ≡ true → branch_at (history_of setup n (e ∷ past)) g key ≡ Some a.branch → ⊥
  waits_more vw acts a i j g key within has now =
      let t : Table = table_of (state setup n (e ∷ past)).log in
      let log_is : (state setup n (e ∷ past)).log ≡ caught_up step.node.log = ap (λ (x : NodeState). x.log) here ∙ ap (λ o. (act_on step o).node.log) acts in
      let not_due : due t a ≡ None = ap (λ (l : LogState). due (table_of l) a) log_is ∙ act_waits step vw a j in
      let role = asking_is setup ok (e ∷ past) run n a i in
      let id = asked_id (node_id n) (state setup n (e ∷ past)).life 0 (first_contracts 0 setup.shards) a role.of in
      let it : IsAskedHere setup ok (e ∷ past) run n g key a.branch a = asked_here setup ok (e ∷ past) run n g key a.branch now (ap (λ (m : NodeId). m.0) id.0) id.1 a i has in
      let hashes = table_hashes setup ok (e ∷ past) run n in
      let current_there : is_current t a.contract.region a.branch ≡ true =
      is_current_from t a.contract.region a.branch (omega (arith, within, hashes))
      (λ h k l inside. asked_everywhere setup ok (e ∷ past) run n g key a i has it now h k (omega (arith, l, hashes)) inside) in
      let registered : birth_of t.history a.branch ≡ Some it.at.birth =
      ap (λ (bs : Branches). birth_of bs a.branch) it.at.is
      ∙ birth_there it.at.newer it.at.older a.branch it.at.birth (subst IsHistory it.at.is (is_history setup (e ∷ past) run n)) in
      let is_due : due t a ≡ Some it.at.birth.initial = ap (λ c. cond c (initial_of (birth_of t.history a.branch)) None) current_there ∙ ap initial_of registered in
      apart_options it.at.birth.initial (sym not_due ∙ is_due)
    where
      apart_options : (m : ℕ) → ◌≡◌ {A = Option ℕ} None (Some m) → ⊥
      apart_options m f = absurd (cc f)

  waits_own : Waits setup (state setup n (e ∷ past))
  waits_own a i g key within has now =
      let moved : IsIn (act_on step (viewed step.node.log)).node.asking a = subst (λ (t : NodeState). IsIn t.asking a) here i in
      elim (viewed step.node.log) as (λ o. viewed step.node.log ≡ o → ⊥) [
        | None ↦ λ none. waits_still none a (subst (λ (o : Option Viewed). IsIn (act_on step o).node.asking a) none moved) g key within has now
        | Some vw ↦ λ acts. waits_more vw acts a i (subst (λ (o : Option Viewed). IsIn (act_on step o).node.asking a) acts moved) g key within has now
      ] refl

pub waits : (setup : SetupState) → IsSetup setup → (past : List Entry) → IsRun setup past → (n : ℕ) → Waits setup (state setup n past)
waits setup ok [] run n = λ a i g key within has now. i
waits setup ok (e ∷ past) run n =
    let before = waits setup ok past run.1 n in
    elim (cases_Bool (e.node.0 == n)) [
      | inl own ↦ waits_own setup ok past e run n own before
      | inr other ↦ subst (Waits setup) (sym (ap (λ b. cond b (moving setup past e n) (state setup n past)) other)) before
    ]
