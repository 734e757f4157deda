-- How the version of a pair goes forward at the node that leads it: to later points of its branch, and to a branch that the node made in a later life.
use Rattle.std.proofs.Common.{◌≡◌, ◌⊎◌, ℕ, ◌+◌, ◌≤◌, ◌<◌, ◌==◌, ◌^◌, Bool, true, false, cond, not, ◌&&◌, nat_lt, List, [], ◌∷◌, ◌++◌, Option, Some, None, is_some, inl, inr, refl, sym, ap, ◌∙◌, subst, arith}
use Rattle.std.proofs.lemmas.Bool.{cases_Bool, and_parts, or_parts, not-true, ltb-true, leb-false, eqb-true}
use Rattle.std.specs.List.{list_any}
use Rattle.row_runs.specs.runs.region_map.declared.id.Id.{Id}
use Rattle.row_runs.specs.runs.region_map.declared.id.NodeId.{NodeId}
use Rattle.row_runs.specs.runs.region_map.declared.region.Region.{Region}
use Rattle.row_runs.specs.runs.region_map.Keys.{hash_of}
use Rattle.row_runs.specs.runs.region_map.Regions.{in_region}
use Rattle.row_runs.specs.runs.region_map.Maps.{Pieced, value_at}
use Rattle.row_runs.specs.runs.region_map.Nodes.{node_id}
use Rattle.row_runs.specs.runs.branch_history.declared.version.Version.{Version}
use Rattle.row_runs.specs.runs.branch_history.Paths.{branch_is}
use Rattle.row_runs.proofs.runs.branch_history.PathLaws.{of_branch}
use Rattle.row_runs.specs.runs.contract_types.declared.config.ShardConfig.{ShardConfig}
use Rattle.row_runs.specs.runs.contract_types.declared.contract.Contract.{Contract}
use Rattle.row_runs.specs.runs.contract_types.declared.results.Viewed.{Viewed}
use Rattle.row_runs.specs.runs.contract_types.Setup.{SetupState, IsSetup}
use Rattle.row_runs.specs.runs.contract_types.Tables.{Table, first_contracts}
use Rattle.row_runs.specs.runs.table_log.Logs.{table_of, caught_up, viewed}
use Rattle.row_runs.specs.runs.store_api.Versions.{point, is_behind, advanced_map, replaced_map}
use Rattle.row_runs.proofs.runs.store_api.VersionMaps.{advanced_map_at, advanced_map_hashes, replaced_map_at, replaced_map_hashes}
use Rattle.row_runs.specs.runs.primary_exec.declared.asking.Asking.{Asking}
use Rattle.row_runs.specs.runs.node_core.declared.node.Brought.{Brought}
use Rattle.row_runs.specs.runs.node_core.declared.journal.Entry.{Entry}
use Rattle.row_runs.specs.runs.node_core.Starting.{Starting, due, start_one, start_each, due_ends_numbers, starts_end_numbers}
use Rattle.row_runs.specs.runs.node_core.Step.{NodeState, Stepped, input_row, act_on, act, end_step, ends_numbers, row_ends_numbers, act_ends_numbers}
use Rattle.row_runs.specs.runs.Run.{state, brought, IsRun, IsStep, names_node, arrives, suits, is_fresh}
use Rattle.row_runs.specs.runs.Stored.{Begun, Synced, Taken}
use Rattle.row_runs.specs.runs.Story.{Point, IsIn, points, points_of}
use Rattle.row_runs.proofs.change_runs.Asked.{history_of}
use Rattle.row_runs.proofs.change_runs.AskedRuns.{contracts_stay}
use Rattle.row_runs.proofs.change_runs.LedHistories.{some_inner}
use Rattle.row_runs.proofs.step_runs.EndPoints.{end_points_of}
use Rattle.row_runs.proofs.step_runs.PointBranches.{all_at}
use Rattle.row_runs.proofs.step_runs.Told.{IsIn-right}
use Rattle.row_runs.proofs.log_runs.LogWorldRuns.{moving}
use Rattle.row_runs.proofs.key_runs.KeyedStarts.{started_outside}
use Rattle.row_runs.proofs.lead_runs.LedRows.{Kept, kept, Done, Still, Dispatches, Streams, GoesDown, ComesUp}
use Rattle.row_runs.proofs.lead_runs.LedRoles.{IsAsking, IsFollowed, Roles, roles_row, ends_kept}
use Rattle.row_runs.proofs.lead_runs.LedRuns.{row_is, run_roles, is_history}
use Rattle.row_runs.proofs.lead_runs.LedMoves.{RowLed, led_row, advanced_inside, advanced_outside}
use Rattle.row_runs.proofs.lead_runs.LedShards.{not_followed}
use Rattle.row_runs.proofs.lead_runs.LedKeys.{asked_id, LedAt, led_at}
use Rattle.row_runs.proofs.path_runs.OnPathPoints.{IsShort, points_short}

-- ---- forward

-- a version of a branch is followed by a later one of it, or by one of a branch that was made in a later life
pub data Rises (v w : Version) : Type 0 where
  Same : w.branch ≡ v.branch → v.timestamp ≤ w.timestamp → Rises v w
  Newer : (b c : Id) → v.branch ≡ Some b → w.branch ≡ Some c → b.life < c.life → Rises v w

rises_on : (u v w : Version) → Rises u v → Rises v w → Rises u w
rises_on u v w (Same e l) (Same f m) = Same (f ∙ e) (omega (arith, l, m))
rises_on u v w (Same e l) (Newer b c f g m) = Newer b c (sym e ∙ f) g m
rises_on u v w (Newer b c e f l) (Same g m) = Newer b c e (g ∙ f) l
rises_on u v w (Newer b c e f l) (Newer d x g h m) =
    let same : c.life ≡ d.life = ap (λ (i : Id). i.life) (some_inner c d (sym f ∙ g)) in
    Newer b x e h (omega (arith, l, m, same))

-- ---- rows of inputs

record RowRise (g : ℕ) (key : List ℕ) (v : Version) (next : Kept) (qs : List Point) : Type 0 where
  w : Version
  is : value_at next.versions.pieces g key ≡ Some w
  same : w.branch ≡ v.branch
  up : v.timestamp ≤ w.timestamp
  taken : (w.timestamp ≡ v.timestamp) ⊎ ((q : Point) × IsIn qs q × (w.timestamp ≡ q.timestamp))

advance : (region : Region) (b : Id) (to : ℕ) (m : Pieced Version) (g : ℕ) (key : List ℕ) (v : Version) → g < m.hashes → value_at m.pieces g key ≡ Some v
    → (value_at (advanced_map region b to m).pieces g key ≡ Some v) ⊎ ((value_at (advanced_map region b to m).pieces g key ≡ Some (point b to)) × (v.branch ≡ Some b) × (v.timestamp < to))
advance region b to m g key v lt e =
    let at : value_at (advanced_map region b to m).pieces g key ≡ cond (in_region region g key && is_behind b to (Some v)) (Some (point b to)) (Some v) =
    advanced_map_at region b to m g key lt ∙ ap (λ o. cond (in_region region g key && is_behind b to o) (Some (point b to)) o) e in
    elim (cases_Bool (in_region region g key && is_behind b to (Some v))) [
      | inl comes ↦
          let both = and_parts (branch_is v.branch b) (nat_lt v.timestamp to) (and_parts (in_region region g key) (is_behind b to (Some v)) comes).1 in
          inr (at ∙ ap (λ c. cond c (Some (point b to)) (Some v)) comes, of_branch v.branch b both.0, ltb-true v.timestamp to both.1)
      | inr stays ↦ inl (at ∙ ap (λ c. cond c (Some (point b to)) (Some v)) stays)
    ]

stays_row : (g : ℕ) (key : List ℕ) (v : Version) (next : Kept) (qs : List Point) → value_at next.versions.pieces g key ≡ Some v → RowRise g key v next qs
stays_row g key v next qs e = record { w = v; is = e; same = refl; up = omega arith; taken = inl refl }

row_rise : (me : NodeId) (hashes : ℕ) (contracts : List Contract) (k next : Kept) (qs : List Point) (g : ℕ) (key : List ℕ) (v : Version) → g < k.versions.hashes → value_at k.versions.pieces g key ≡ Some v
    → ((region : Region) → IsIn k.followed region → in_region region g key ≡ false) → Done me hashes contracts k next qs → RowRise g key v next qs
row_rise me hashes contracts k next qs g key v lt e follows (Still is none) = stays_row g key v next qs (ap (λ (n : Kept). value_at n.versions.pieces g key) is ∙ e)
row_rise me hashes contracts k next qs g key v lt e follows (Dispatches before after x q these has from time is one) =
    let there : value_at next.versions.pieces g key ≡ value_at (advanced_map x.contract.region x.branch (x.last + 1) k.versions).pieces g key = ap (λ (n : Kept). value_at n.versions.pieces g key) is in
    elim (advance x.contract.region x.branch (x.last + 1) k.versions g key v lt e) [
      | inl stays ↦ stays_row g key v next qs (there ∙ stays)
      | inr comes ↦
          let below = comes.2 in
          record {
            w = point x.branch (x.last + 1);
            is = there ∙ comes.0;
            same = sym comes.1;
            up = omega (arith, below);
            taken = inr (q, subst (λ (l : List Point). IsIn l q) (sym one) (inl refl), sym time);
          }
    ]
row_rise me hashes contracts k next qs g key v lt e follows (Streams region branch at i is none) =
    stays_row g key v next qs (ap (λ (n : Kept). value_at n.versions.pieces g key) is ∙ advanced_outside region branch at k.versions g key lt (follows region i) ∙ e)
row_rise me hashes contracts k next qs g key v lt e follows (GoesDown is none) = stays_row g key v next qs (ap (λ (n : Kept). value_at n.versions.pieces g key) is ∙ e)
row_rise me hashes contracts k next qs g key v lt e follows (ComesUp is none) = stays_row g key v next qs (ap (λ (n : Kept). value_at n.versions.pieces g key) is ∙ e)

-- ---- primaries that start

data ActRise (g : ℕ) (key : List ℕ) (t : Table) (waits : List Asking) (v : Version) (new : Option Version) : Type 0 where
  Stays : new ≡ Some v → ActRise g key t waits v new
  Starts : (a : Asking) → IsIn waits a → in_region a.contract.region g key ≡ true → (initial : ℕ) → due t a ≡ Some initial → new ≡ Some (point a.branch (initial + 1)) → ActRise g key t waits v new

wider : (g : ℕ) (key : List ℕ) (t : Table) (a : Asking) (waits : List Asking) (v : Version) (new : Option Version) → ActRise g key t waits v new → ActRise g key t (a ∷ waits) v new
wider g key t a waits v new (Stays e) = Stays e
wider g key t a waits v new (Starts b i has initial d e) = Starts b (inr i) has initial d e

started_first : (g : ℕ) (key : List ℕ) (t : Table) (a : Asking) (waits : List Asking) (v : Version) (initial : ℕ) (new : Option Version) → in_region a.contract.region g key ≡ true → due t a ≡ Some initial
    → ActRise g key t waits (point a.branch (initial + 1)) new → ActRise g key t (a ∷ waits) v new
started_first g key t a waits v initial new has d (Stays e) = Starts a (inl refl) has initial d e
started_first g key t a waits v initial new has d (Starts b i inside first f e) = Starts b (inr i) inside first f e

abbrev EachRises : ℕ → ℕ → List ℕ → NodeId → Table → List Asking → Type 0
EachRises hashes g key me t waits =
    (s : Starting) (v : Version) → s.versions.hashes ≡ hashes → value_at s.versions.pieces g key ≡ Some v → ActRise g key t waits v (value_at (start_each me t waits s).versions.pieces g key)

one_rises : (hashes g : ℕ) (key : List ℕ) (me : NodeId) (t : Table) (a : Asking) (waits : List Asking) → g < hashes → EachRises hashes g key me t waits
    → (o : Option ℕ) → due t a ≡ o → (s : Starting) (v : Version) → s.versions.hashes ≡ hashes → value_at s.versions.pieces g key ≡ Some v
    → ActRise g key t (a ∷ waits) v (value_at (start_each me t waits (start_one me t.contracts a o s)).versions.pieces g key)
one_rises hashes g key me t a waits lt rest None d s v same e = wider g key t a waits v _ (rest (start_one me t.contracts a None s) v same e)
one_rises hashes g key me t a waits lt rest (Some initial) d s v same e =
    let next : Starting = start_one me t.contracts a (Some initial) s in
    let first : Version = point a.branch initial in
    let between : Pieced Version = replaced_map a.contract.region first s.versions in
    let size = replaced_map_hashes a.contract.region first s.versions in
    let hashes_are : next.versions.hashes ≡ hashes = advanced_map_hashes a.contract.region a.branch (initial + 1) between ∙ size ∙ same in
    elim (cases_Bool (in_region a.contract.region g key)) [
      | inr out ↦ wider g key t a waits v _ (rest next v hashes_are (started_outside hashes a initial s.versions g key same lt out ∙ e))
      | inl has ↦
          let there : value_at between.pieces g key ≡ Some first =
          replaced_map_at a.contract.region first s.versions g key (omega (arith, lt, same))
          ∙ ap (λ b. cond (b && is_some (value_at s.versions.pieces g key)) (Some first) (value_at s.versions.pieces g key)) has
          ∙ ap (λ o. cond (is_some o) (Some first) o) e in
          started_first g key t a waits v initial _ has d
          (rest next (point a.branch (initial + 1)) hashes_are (advanced_inside a.contract.region a.branch initial between g key (omega (arith, lt, same, size)) has there))
    ]

each_rises : (hashes g : ℕ) (key : List ℕ) (me : NodeId) (t : Table) (waits : List Asking) → g < hashes → EachRises hashes g key me t waits
each_rises hashes g key me t [] lt s v same e = Stays e
each_rises hashes g key me t (a ∷ waits) lt s v same e = one_rises hashes g key me t a waits lt (each_rises hashes g key me t waits lt) (due t a) refl s v same e

-- ---- numbers that do not end

none_of : (f : Asking → Bool) (waits : List Asking) (a : Asking) → list_any f waits ≡ false → IsIn waits a → f a ≡ false
none_of f [] a e i = absurd i
none_of f (w ∷ waits) a e i =
    let both = or_parts (f w) (list_any f waits) e in
    elim i [ inl same ↦ subst (λ (x : Asking). f x ≡ false) same both.0 | inr j ↦ none_of f waits a both.1 j ]

start_short : (t : Table) (waits : List Asking) (a : Asking) (initial : ℕ) → starts_end_numbers t waits ≡ false → IsIn waits a → due t a ≡ Some initial → initial + 1 ≤ 18446744073709551615
start_short t waits a initial e i d =
    let low = leb-false (2 ^ 62) (initial + 1) (ap due_ends_numbers (sym d) ∙ none_of (λ x. due_ends_numbers (due t x)) waits a e i) in
    omega (arith, low)

act_goes_on : (setup : SetupState) (past : List Entry) (e : Entry) → IsStep setup past e
    → act_ends_numbers (input_row (state setup e.node.0 past) e.input (brought past e.input)).node (viewed (input_row (state setup e.node.0 past) e.input (brought past e.input)).node.log) ≡ false
act_goes_on setup past e h =
    let s : NodeState = state setup e.node.0 past in
    let b : Option Brought = brought past e.input in
    let fits : Bool = nat_lt e.node.0 setup.nodes && names_node setup e.input && arrives past e.node e.input && suits s.up e.input && is_fresh past e.input in
    let goes = not-true (ends_numbers s e.input b) (and_parts fits (not (ends_numbers s e.input b)) h.allowed).1 in
    (or_parts (row_ends_numbers s e.input b) (act_ends_numbers (input_row s e.input b).node (viewed (input_row s e.input b).node.log)) goes).1

-- ---- a run

module _ (setup : SetupState) (ok : IsSetup setup) (shard : ShardConfig) (i : IsIn setup.shards shard) (key : List ℕ) (inside : in_region shard.region (hash_of key setup.hashes) key ≡ true)
    (within : hash_of key setup.hashes < setup.hashes)
  where
    abbrev p : ℕ
    p = shard.primary.0

    abbrev g : ℕ
    g = hash_of key setup.hashes

    -- the version of the key at the node that leads it
    abbrev At : List Entry → Version → Type 0
    At past v = value_at (state setup shard.primary.0 past).versions.pieces (hash_of key setup.hashes) key ≡ Some v

    record Climbs (past : List Entry) (e : Entry) (v : Version) : Type 0 where
      w : Version
      is : At (e ∷ past) w
      rises : Rises v w
      short : v.timestamp ≤ 18446744073709551615 → w.timestamp ≤ 18446744073709551615

    module _ (past : List Entry) (e : Entry) (run : IsRun setup (e ∷ past)) (own : (e.node.0 == p) ≡ true) where
      before : LedAt setup past key p
      before = led_at setup ok shard i key inside past run.1

      abbrev s : NodeState
      s = state setup p past

      abbrev step : Stepped
      step = input_row s e.input (brought past e.input)

      abbrev qs : List Point
      qs = points_of e.input step.outs

      kept_now : kept (state setup p (e ∷ past)) ≡ kept (act step).node
      kept_now = ap kept (ap (λ b. cond b (moving setup past e p) (state setup p past)) own) ∙ ends_kept step

      row : Done (node_id p) setup.hashes (first_contracts 0 setup.shards) (kept s) (kept step.node) qs
      row = let r = run_roles setup ok past run.1 p in row_is setup p s e.input (brought past e.input) r.me_is r.of (contracts_stay setup ok past run.1 p)

      follows : (region : Region) → IsIn (kept s).followed region → in_region region g key ≡ false
      follows r j = not_followed setup ok shard i g key inside r (all_at (IsFollowed setup p) (kept s).followed (run_roles setup ok past run.1 p).roles.followed r j)

      next_roles : Roles setup p (kept step.node)
      next_roles = roles_row setup ok p (kept s) (kept step.node) qs (run_roles setup ok past run.1 p).roles row

      row_led : RowLed (history_of setup p past) g key (points past ++ qs) before.version before.branch (kept step.node)
      row_led = led_row setup p (history_of setup p past) (is_history setup past run.1 p) key within (points past) before.version before.branch (kept s) (run_roles setup ok past run.1 p).roles before.led follows (kept step.node) qs row

      rise : RowRise g key before.version (kept step.node) qs
      rise =
          let hashes = (run_roles setup ok past run.1 p).roles.hashes_are in
          row_rise (node_id p) setup.hashes (first_contracts 0 setup.shards) (kept s) (kept step.node) qs g key before.version (omega (arith, within, hashes)) before.led.version_is follows row

      points_now : points (e ∷ past) ≡ points past ++ qs
      points_now =
          ap (λ (l : List Point). points past ++ l)
          (ap (points_of e.input) run.0.outputs
          ∙ ap (λ m. points_of e.input (end_step (input_row (state setup m past) e.input (brought past e.input))).outs) (eqb-true e.node.0 p own)
          ∙ end_points_of e.input step)

      row_short : before.version.timestamp ≤ 18446744073709551615 → rise.w.timestamp ≤ 18446744073709551615
      row_short low =
          elim rise.taken [
            | inl same ↦ omega (arith, same, low)
            | inr t ↦
                let all = all_at IsShort (points (e ∷ past)) (points_short setup (e ∷ past) run) t.0 (subst (λ (l : List Point). IsIn l t.0) (sym points_now) (IsIn-right (points past) qs t.0 t.1)) in
                omega (arith, all, t.2)
          ]

      goes_on : act_ends_numbers step.node (viewed step.node.log) ≡ false
      goes_on =
          subst (λ m. act_ends_numbers (input_row (state setup m past) e.input (brought past e.input)).node (viewed (input_row (state setup m past) e.input (brought past e.input)).node.log) ≡ false)
          (eqb-true e.node.0 p own) (act_goes_on setup past e run.0)

      acts : (o : Option Viewed) → viewed step.node.log ≡ o → value_at (state setup p (e ∷ past)).versions.pieces g key ≡ value_at (act_on step o).node.versions.pieces g key → Climbs past e before.version
      acts None is at = record { w = rise.w; is = at ∙ rise.is; rises = Same rise.same rise.up; short = row_short }
      acts (Some vw) is at =
          let t : Table = table_of (caught_up step.node.log) in
          let first : Starting = record { asking = []; executions = step.node.executions; versions = step.node.versions } in
          elim (each_rises setup.hashes g key step.node.me t step.node.asking within first rise.w next_roles.hashes_are rise.is) [
            | Stays e ↦ record { w = rise.w; is = at ∙ e; rises = Same rise.same rise.up; short = row_short }
            | Starts a j has initial d e ↦
                let role : IsAsking setup p step.node.life a = all_at (IsAsking setup p step.node.life) step.node.asking next_roles.askings a j in
                let id = asked_id (node_id p) step.node.life 0 (first_contracts 0 setup.shards) a role.of in
                let own_life = id.1 in
                let later = row_led.led.earlier a j has in
                record {
                  w = point a.branch (initial + 1);
                  is = at ∙ e;
                  rises = Newer before.branch a.branch before.led.branch_is refl (omega (arith, own_life, later));
                  short = λ low. start_short t step.node.asking a initial (ap (act_ends_numbers step.node) (sym is) ∙ goes_on) j d;
                }
          ]

      own_climbs : Climbs past e before.version
      own_climbs = acts (viewed step.node.log) refl (ap (λ (k : Kept). value_at k.versions.pieces g key) kept_now)

    climbs : (past : List Entry) (e : Entry) → IsRun setup (e ∷ past) → (v : Version) → At past v → Climbs past e v
    climbs past e run v at =
        elim (cases_Bool (e.node.0 == p)) [
          | inl own ↦
              let b = before past e run own in
              subst (Climbs past e) (some_inner b.version v (sym b.led.version_is ∙ at)) (own_climbs past e run own)
          | inr other ↦ record {
            w = v;
            is = ap (λ b. value_at (cond b (moving setup past e p) (state setup p past)).versions.pieces g key) other ∙ at;
            rises = Same refl (omega arith);
            short = λ low. low;
          }
        ]

    -- from one moment to a later one
    pub climbs_to : (later m : List Entry) → IsRun setup (later ++ m) → (v w : Version) → At m v → At (later ++ m) w → Rises v w
    climbs_to [] m run v w at now = let same = some_inner v w (sym at ∙ now) in subst (Rises v) same (Same refl (omega arith))
    climbs_to (e ∷ later) m run v w at now =
        let b = led_at setup ok shard i key inside (later ++ m) run.1 in
        let c = climbs (later ++ m) e run b.version b.led.version_is in
        rises_on v b.version w (climbs_to later m run.1 v b.version at b.led.version_is) (subst (Rises b.version) (some_inner c.w w (sym c.is ∙ now)) c.rises)

    -- no timestamp goes beyond what a word holds
    pub stays_short : (past : List Entry) → IsRun setup past → (v : Version) → At past v → v.timestamp ≤ 18446744073709551615
    stays_short [] run v at =
        let b = led_at setup ok shard i key inside [] run in
        let low = b.led.life in
        let zero : b.version.timestamp ≡ 0 = elim b.led.came [
          | Begun life z ↦ z
          | Synced later z ↦ absurd (omega (arith, low, later))
          | Taken q j of time ↦ absurd j
        ] in
        let same : b.version.timestamp ≡ v.timestamp = ap (λ (w : Version). w.timestamp) (some_inner b.version v (sym b.led.version_is ∙ at)) in
        omega (arith, zero, same)
    stays_short (e ∷ past) run v at =
        let b = led_at setup ok shard i key inside past run.1 in
        let c = climbs past e run b.version b.led.version_is in
        subst (λ (w : Version). w.timestamp ≤ 18446744073709551615) (some_inner c.w v (sym c.is ∙ at)) (c.short (stays_short past run.1 b.version b.led.version_is))
