-- In every run histories are in time at each key: a branch goes on from what its maker had.
use Rattle.std.proofs.Common.{◌≡◌, ◌⊎◌, ℕ, zero, suc, ◌+◌, ◌≤◌, ◌<◌, ◌&&◌, true, cond, nat_lt, nat_le, List, [], ◌∷◌, ◌++◌, Option, Some, None, inl, inr, refl, sym, ap, ◌∙◌, subst, arith, append_assoc, sum}
use Rattle.std.proofs.Math.Nat.{mod-lt}
use Rattle.std.proofs.lemmas.Bool.{cond_both, and_parts, le-leb, ltb-true}
use Rattle.std.specs.List.{AllByRecursion}
use Rattle.path_runs.specs.runs.region_map.declared.id.Id.{Id}
use Rattle.path_runs.specs.runs.region_map.Keys.{hash_of}
use Rattle.path_runs.specs.runs.region_map.Regions.{in_region}
use Rattle.path_runs.specs.runs.region_map.Maps.{value_at}
use Rattle.path_runs.specs.runs.branch_history.declared.version.Version.{Version}
use Rattle.path_runs.specs.runs.branch_history.declared.history.BranchBirth.{BranchBirth}
use Rattle.path_runs.specs.runs.branch_history.Paths.{Branches, zero as nothing, branch_is, or_zero, origin_at, is_on}
use Rattle.path_runs.specs.runs.branch_history.Histories.{birth_of, knows, knows_branch, IsHistory, StartsInTime, IsInTime}
use Rattle.path_runs.proofs.runs.branch_history.Births.{origin_known, inside_birth}
use Rattle.path_runs.proofs.runs.branch_history.PathLaws.{id_self}
use Rattle.path_runs.specs.runs.contract_types.declared.config.ShardConfig.{ShardConfig}
use Rattle.path_runs.specs.runs.contract_types.Setup.{SetupState, IsSetup, is_hashes}
use Rattle.path_runs.specs.runs.contract_types.Tables.{first_id, first_birth, first_branches}
use Rattle.path_runs.specs.runs.contract_types.declared.change.Change.{Change}
use Rattle.path_runs.specs.runs.raft_vote.declared.log.LogEntry.{LogEntry}
use Rattle.path_runs.specs.runs.table_apply.Runs.{change_at}
use Rattle.path_runs.specs.runs.table_log.Fitting.{changes_of}
use Rattle.path_runs.proofs.runs.table_apply.InForce.{origin_in_time}
use Rattle.path_runs.specs.runs.store_api.Rows.{has_key}
use Rattle.path_runs.specs.runs.store_api.Versions.{version_of}
use Rattle.path_runs.specs.runs.node_core.declared.journal.Entry.{Entry}
use Rattle.path_runs.specs.runs.node_core.Step.{NodeState}
use Rattle.path_runs.specs.runs.Latest.{told_table}
use Rattle.path_runs.specs.runs.Run.{state, IsRun}
use Rattle.path_runs.specs.runs.Story.{IsIn}
use Rattle.path_runs.proofs.runs.list_laws.Members.{IsIn-right, all_member}
use Rattle.path_runs.proofs.step_runs.Runs.{some_hash}
use Rattle.path_runs.proofs.step_runs.ShardRoles.{HasRoles, member_below, setup_roles}
use Rattle.path_runs.proofs.change_runs.Asked.{IsAsked, history_of}
use Rattle.path_runs.proofs.change_runs.AskedRuns.{asked_in, registered_asked}
use Rattle.path_runs.proofs.change_runs.LedHistories.{birth_known, knows_one, newer_apart, birth_longer, stands}
use Rattle.path_runs.proofs.change_runs.Registered.{comes_from}
use Rattle.path_runs.proofs.lead_runs.LedAsked.{CameBy, asked_run, asked_own, asked_origin}
use Rattle.path_runs.proofs.lead_runs.LedKeys.{LedAt, led_at}
use Rattle.path_runs.proofs.lead_runs.LedRuns.{history_grows, config_is, all_fit, is_history, run_roles}
use Rattle.path_runs.proofs.lead_runs.LedShards.{holder_is}
use Rattle.path_runs.proofs.OnPath.{shard_of, birth_there}
use Rattle.path_runs.proofs.OnPathTables.{Tells, tells}
use Rattle.version_runs.specs.Origins.{BeginsAnew, HadOrigin}

-- ---- points on their own paths

zero_on : (bs : Branches) (h : ℕ) (k : List ℕ) → is_on bs h k nothing nothing ≡ true
zero_on [] h k = refl
zero_on (b ∷ bs) h k = zero_on bs h k

self_on : (bs : Branches) (h : ℕ) (k : List ℕ) (id : Id) (birth : BranchBirth) (v : Version) → IsHistory bs → birth_of bs id ≡ Some birth → v.branch ≡ Some id → in_region birth.region h k ≡ true
    → birth.initial ≤ v.timestamp → is_on bs h k v v ≡ true
self_on bs h k id birth v hist there of inside later =
    let times : (nat_le birth.initial v.timestamp && nat_le v.timestamp v.timestamp) ≡ true =
    ap (λ c. c && nat_le v.timestamp v.timestamp) (le-leb birth.initial v.timestamp later) ∙ le-leb v.timestamp v.timestamp (omega arith) in
    inside_birth bs h k id birth v v hist there of inside
    ∙ ap (λ (o : Option Id). cond (branch_is o id && (nat_le birth.initial v.timestamp && nat_le v.timestamp v.timestamp)) true (is_on bs h k (origin_at birth h k) v)) of
    ∙ ap (λ c. cond (c && (nat_le birth.initial v.timestamp && nat_le v.timestamp v.timestamp)) true (is_on bs h k (origin_at birth h k) v)) (id_self id)
    ∙ ap (λ c. cond c true (is_on bs h k (origin_at birth h k) v)) times

-- ---- histories branch by branch

-- each branch that has the pair starts in time among the older ones
abbrev AllInTime : Branches → ℕ → List ℕ → Type 0
AllInTime whole h k = (newer older : Branches) (b : Id × BranchBirth) → whole ≡ newer ++ b ∷ older → in_region b.1.region h k ≡ true → StartsInTime older h k b.1

in_time : (whole : Branches) (h : ℕ) (k : List ℕ) → AllInTime whole h k → (newer bs : Branches) → whole ≡ newer ++ bs → IsInTime bs h k
in_time whole h k all newer [] is = tt
in_time whole h k all newer (b ∷ bs) is = (all newer bs b is, in_time whole h k all (newer ++ b ∷ []) bs (is ∙ sym (append_assoc newer (b ∷ []) bs)))

in_time_older : (newer bs : Branches) (h : ℕ) (k : List ℕ) → IsInTime (newer ++ bs) h k → IsInTime bs h k
in_time_older [] bs h k t = t
in_time_older (n ∷ newer) bs h k t = in_time_older newer bs h k t.1

history_older : (newer bs : Branches) → IsHistory (newer ++ bs) → IsHistory bs
history_older [] bs hist = hist
history_older (n ∷ newer) bs hist = history_older newer bs hist.3

-- ---- the first branches

abbrev GoesFromZero : Id × BranchBirth → Type 0
GoesFromZero b = (h : ℕ) (k : List ℕ) → origin_at b.1 h k ≡ nothing

first_zero : (hashes place : ℕ) (ss : List ShardConfig) (older : Branches) → AllByRecursion GoesFromZero older → AllByRecursion GoesFromZero (first_branches hashes place ss older)
first_zero hashes place [] older h = h
first_zero hashes place (s ∷ ss) older h =
    first_zero hashes (place + 1) ss ((first_id place s, first_birth hashes s) ∷ older)
    (λ g k. cond_both (in_region s.region g k) (Some nothing) None (λ (o : Option Version). or_zero o ≡ nothing) (λ _. refl) (λ _. refl), h)

-- ---- every run

each_asked : (setup : SetupState) (past : List Entry) (log : List (LogEntry Change)) → AllByRecursion (λ (x : LogEntry Change). IsAsked setup past x.change) log → (i : ℕ)
    → IsAsked setup past (change_at (changes_of log) i)
each_asked setup past [] all i = tt
each_asked setup past (x ∷ xs) all zero = all.0
each_asked setup past (x ∷ xs) all (suc i) = each_asked setup past xs all.1 i

some_node : (setup : SetupState) → IsSetup setup → 0 < setup.nodes
some_node setup ok =
    ltb-true 0 setup.nodes (and_parts (nat_lt 0 setup.nodes) (nat_le setup.nodes 7) (and_parts (nat_lt 0 setup.nodes && nat_le setup.nodes 7) (is_hashes setup.hashes) ok.fits).0).0

module _ (setup : SetupState) (ok : IsSetup setup) (past : List Entry) (run : IsRun setup past) (key : List ℕ) where
  abbrev g : ℕ
  g = hash_of key setup.hashes

  abbrev told : Branches
  told = (told_table setup past).history

  within : g < setup.hashes
  within = mod-lt (sum key) (some_hash setup ok)

  teller : Tells setup past 0
  teller = tells setup past run 0 (some_node setup ok)

  whole : IsHistory told
  whole = subst IsHistory (sym teller.told) (is_history setup past run teller.n)

  -- a branch began with the table, or was asked for
  data Came (b : Id × BranchBirth) (older : Branches) : Type 0 where
    First : knows (first_branches setup.hashes 0 setup.shards []) b.0 ≡ true → origin_at b.1 g key ≡ nothing → Came b older
    Later : CameBy setup past b older → Came b older

  came_by : (newer older : Branches) (b : Id × BranchBirth) → told ≡ newer ++ b ∷ older → Came b older
  came_by newer older b is =
      let n : ℕ = teller.n in
      let log = (state setup n past).log in
      elim (comes_from setup ok (changes_of log.raft.log) (all_fit setup past run n) log.acted newer older b (sym (config_is setup past run n) ∙ sym teller.told ∙ is)) [
        | inl f ↦
            let first : first_branches setup.hashes 0 setup.shards [] ≡ f.0 ++ b ∷ older = f.1 in
            First (subst (λ (bs : Branches). knows bs b.0 ≡ true) (sym first) (knows_one f.0 older b))
            (all_member GoesFromZero (first_branches setup.hashes 0 setup.shards []) (first_zero setup.hashes 0 setup.shards [] tt) b
            (subst (λ (bs : Branches). IsIn bs b) (sym first) (IsIn-right f.0 (b ∷ older) b (inl refl))) g key)
        | inr r ↦ Later (record {
          maker = r.maker;
          based_on = r.based_on;
          asked = subst (IsAsked setup past) r.change_is (each_asked setup past log.raft.log (registered_asked setup ok past run n) r.index);
          based = r.based;
        })
      ]

  -- the version that the maker then had
  module _ (newer older : Branches) (b : Id × BranchBirth) (is : told ≡ newer ++ b ∷ older) (inside : in_region b.1.region g key ≡ true) (c : CameBy setup past b older) where
    abbrev p : ℕ
    p = c.maker.0

    then : IsRun setup c.asked.moment
    then = asked_run setup ok past run c.maker b.0 b.1.region c.based_on b.1.origin c.asked

    origin_is : value_at b.1.origin.pieces g key ≡ value_at (state setup p c.asked.moment).versions.pieces g key
    origin_is = asked_origin setup ok past run c.maker b.0 b.1.region c.based_on b.1.origin c.asked g key within inside

    -- it leads the shard of the key
    record Leads : Type 0 where
      shard : ShardConfig
      is_in : IsIn setup.shards shard
      has : in_region shard.region g key ≡ true
      who : shard.primary.0 ≡ p

    leads : Leads
    leads =
        let sh = shard_of setup ok g key within in
        let a = asked_in setup ok past run c.maker b.0 b.1.region c.based_on b.1.origin c.asked in
        record {
          shard = sh.shard;
          is_in = sh.is_in;
          has = sh.inside;
          who = holder_is setup ok sh.shard sh.is_in g key sh.inside a.contract p a.led.known (ap (λ r. in_region r g key) a.region_is ∙ inside) a.led.held_by;
        }

    led : LedAt setup c.asked.moment key p
    led = subst (LedAt setup c.asked.moment key) leads.who (led_at setup ok leads.shard leads.is_in key leads.has c.asked.moment then)

    maker_below : p < setup.nodes
    maker_below =
        let s : ShardConfig = leads.shard in
        let roles : HasRoles setup.nodes s = all_member (HasRoles setup.nodes) setup.shards (setup_roles setup ok) s leads.is_in in
        subst (λ m. m < setup.nodes) leads.who (ltb-true s.primary.0 setup.nodes (member_below setup.nodes s.replicas s.primary.0 roles.replicas roles.primary))

    abbrev y : Id
    y = led.branch

    v_is : origin_at b.1 g key ≡ led.version
    v_is = ap or_zero (origin_is ∙ led.led.version_is)

    -- its branch is known in the table that is told, with the same birth
    told_birth : birth_of told y ≡ Some led.led.birth
    told_birth =
        let t = tells setup past run p maker_below in
        let more = history_grows setup past c.asked.moment run c.asked.earlier p in
        let H : Branches = history_of setup p c.asked.moment in
        let split : told ≡ (t.newer ++ more.newer) ++ H = t.told ∙ t.is ∙ ap (λ (bs : Branches). t.newer ++ bs) more.is ∙ sym (append_assoc t.newer more.newer H) in
        ap (λ (bs : Branches). birth_of bs y) split
        ∙ birth_longer (t.newer ++ more.newer) H y (newer_apart (t.newer ++ more.newer) H y (subst IsHistory split whole) (birth_known H y led.led.birth led.led.registered)) ∙ led.led.registered

    rest : IsHistory (b ∷ older)
    rest = history_older newer (b ∷ older) (subst IsHistory is whole)

    -- and so among the older branches, from which the new one starts
    older_birth : birth_of older y ≡ Some led.led.birth
    older_birth =
        let known : knows older y ≡ true =
        subst (λ (o : Option Id). knows_branch older o ≡ true) (ap (λ (w : Version). w.branch) v_is ∙ led.led.branch_is) (origin_known older b.1.origin.pieces g key rest.1) in
        let split : told ≡ (newer ++ b ∷ []) ++ older = is ∙ sym (append_assoc newer (b ∷ []) older) in
        sym (birth_longer (newer ++ b ∷ []) older y (newer_apart (newer ++ b ∷ []) older y (subst IsHistory split whole) known))
        ∙ ap (λ (bs : Branches). birth_of bs y) (sym split) ∙ told_birth

    on_itself : is_on older g key (origin_at b.1 g key) (origin_at b.1 g key) ≡ true
    on_itself =
        subst (λ (w : Version). is_on older g key w w ≡ true) (sym v_is)
        (self_on older g key y led.led.birth led.version rest.3 older_birth led.led.branch_is led.led.inside led.led.initial)

  starts : AllInTime told g key
  starts newer older b is inside =
      let n : ℕ = teller.n in
      let log = (state setup n past).log in
      let there : birth_of told b.0 ≡ Some b.1 =
      ap (λ (bs : Branches). birth_of bs b.0) is ∙ birth_there newer older b.0 b.1 (subst IsHistory is whole) in
      let known = sym (ap (λ (bs : Branches). birth_of bs b.0) (teller.told ∙ config_is setup past run n)) ∙ there in
      record {
        on = elim (came_by newer older b is) [
          | First _ none ↦ subst (λ (w : Version). is_on older g key w w ≡ true) (sym none) (zero_on older g key)
          | Later c ↦ on_itself newer older b is inside c
        ];
        before = origin_in_time setup (changes_of log.raft.log) log.acted g key b.0 b.1 known;
      }

  pub in_time_told : IsInTime told g key
  in_time_told = in_time told g key starts [] told refl

  pub in_time_there : (n : ℕ) → n < setup.nodes → IsInTime (history_of setup n past) g key
  in_time_there n below =
      let t = tells setup past run n below in
      in_time_older t.newer (history_of setup n past) g key (subst (λ (bs : Branches). IsInTime bs g key) (t.told ∙ t.is) in_time_told)

  pub had_then : (branch : Id) (birth : BranchBirth) → birth_of told branch ≡ Some birth → has_key birth.region setup.hashes key ≡ true → BeginsAnew setup branch birth key ⊎ HadOrigin setup past branch birth key
  had_then branch birth there has =
      let at = stands told branch birth there in
      elim (came_by at.newer at.older (branch, birth) at.is) [
        | First known none ↦ inl (record { known = known; origin_is = none })
        | Later c ↦
            let own = asked_own setup ok past run c.maker branch birth.region c.based_on birth.origin c.asked in
            let m : List Entry = c.asked.moment in
            let s : NodeState = state setup c.maker.0 m in
            let then' : IsRun setup m = asked_run setup ok past run c.maker branch birth.region c.based_on birth.origin c.asked in
            let hashes : s.versions.hashes ≡ setup.hashes = (run_roles setup ok m then' c.maker.0).roles.hashes_are in
            let value = asked_origin setup ok past run c.maker branch birth.region c.based_on birth.origin c.asked g key within has in
            inr (record {
              moment = m;
              earlier = c.asked.earlier;
              life_is = own.life_is ∙ ap (λ k. (state setup k m).life) (sym own.node_is);
              is = value ∙ ap (λ h. value_at s.versions.pieces (hash_of key h) key) (sym hashes)
                  ∙ ap (λ k. version_of (state setup k m).versions key) (sym own.node_is);
            })
      ]
