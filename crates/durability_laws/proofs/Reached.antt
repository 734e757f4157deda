-- How far a node came on the branch with which a key begins, at a key that it does not lead: it never goes back.
use Rattle.std.proofs.Common.{◌≡◌, ◌==◌, ℕ, ◌+◌, ◌≤◌, ◌<◌, true, false, cond, ◌&&◌, nat_lt, List, [], ◌∷◌, Option, Some, None, inl, inr, refl, sym, ap, ◌∙◌, subst, arith, sum}
use Rattle.std.proofs.Math.Nat.{mod-lt}
use Rattle.std.proofs.lemmas.Bool.{cond_both, and_parts, ltb-true, false_from_ne_true}
use Rattle.row_runs.specs.runs.region_map.declared.id.Id.{Id}
use Rattle.row_runs.specs.runs.region_map.declared.id.NodeId.{NodeId}
use Rattle.row_runs.specs.runs.region_map.declared.region.Region.{Region}
use Rattle.row_runs.specs.runs.region_map.Keys.{hash_of}
use Rattle.row_runs.specs.runs.region_map.Maps.{Pieced, value_at}
use Rattle.row_runs.specs.runs.region_map.Nodes.{node_id}
use Rattle.row_runs.specs.runs.region_map.Regions.{in_region}
use Rattle.row_runs.specs.runs.region_map.Equal.{same_id}
use Rattle.row_runs.specs.runs.branch_history.declared.version.Version.{Version}
use Rattle.row_runs.proofs.runs.branch_history.PathLaws.{id_same}
use Rattle.row_runs.specs.runs.contract_types.declared.contract.Contract.{Contract}
use Rattle.row_runs.specs.runs.contract_types.declared.results.Viewed.{Viewed}
use Rattle.row_runs.specs.runs.contract_types.Setup.{SetupState, IsSetup}
use Rattle.row_runs.specs.runs.contract_types.Tables.{Table, first_contracts}
use Rattle.row_runs.specs.runs.table_log.Logs.{table_of, caught_up, viewed}
use Rattle.row_runs.specs.runs.store_api.Rows.{has_key}
use Rattle.row_runs.specs.runs.store_api.Versions.{point, is_behind, version_of, advanced_map, replaced_map}
use Rattle.row_runs.proofs.runs.store_api.VersionMaps.{advanced_map_hashes, advanced_map_at, replaced_map_hashes}
use Rattle.row_runs.specs.runs.primary_exec.declared.asking.Asking.{Asking}
use Rattle.row_runs.specs.runs.primary_exec.Execution.{started_versions}
use Rattle.row_runs.specs.runs.node_core.declared.journal.Entry.{Entry}
use Rattle.row_runs.specs.runs.node_core.Starting.{Starting, due, start_one, start_each}
use Rattle.row_runs.specs.runs.node_core.Step.{NodeState, Stepped, input_row, act_on}
use Rattle.row_runs.specs.runs.Run.{brought, state, IsRun}
use Rattle.row_runs.specs.runs.Story.{Point, IsIn, points_of}
use Rattle.row_runs.proofs.change_runs.AskedRuns.{contracts_stay}
use Rattle.row_runs.proofs.step_runs.Begun.{begun_branch}
use Rattle.row_runs.proofs.key_runs.KeyedRoles.{asking_region, askings_led}
use Rattle.row_runs.proofs.key_runs.KeyedRuns.{some_hash}
use Rattle.row_runs.proofs.key_runs.KeyedStarts.{started_outside}
use Rattle.row_runs.proofs.lead_runs.LedRoles.{IsAsking, Roles, asked_from, roles_row, some_there}
use Rattle.row_runs.proofs.lead_runs.LedRows.{Kept, kept, Done, Still, Dispatches, Streams, GoesDown, ComesUp}
use Rattle.row_runs.proofs.lead_runs.LedRuns.{row_is, run_roles}
use Rattle.row_runs.proofs.log_runs.LogWorldRuns.{moving}
use Rattle.row_runs.proofs.step_runs.PointBranches.{all_at}
use Rattle.row_runs.proofs.StoredSetups.{Away}

-- ---- versions that go forward

-- a version of a branch stays one of it, and no earlier one
abbrev pub GoesOn : List ℕ → Pieced Version → Pieced Version → Type 0
GoesOn key older newer =
    (branch : Id) (at : ℕ) → version_of older key ≡ Some (point branch at) → (to : ℕ) × (version_of newer key ≡ Some (point branch to)) × (at ≤ to)

stays_on : (key : List ℕ) (older newer : Pieced Version) → version_of newer key ≡ version_of older key → GoesOn key older newer
stays_on key older newer same branch at e = (at, same ∙ e, omega arith)

version_of-advanced : (region : Region) (b : Id) (to : ℕ) (m : Pieced Version) (key : List ℕ) → 0 < m.hashes
    → version_of (advanced_map region b to m) key ≡ cond (in_region region (hash_of key m.hashes) key && is_behind b to (version_of m key)) (Some (point b to)) (version_of m key)
version_of-advanced region b to m key some =
    ap (λ n. value_at (advanced_map region b to m).pieces (hash_of key n) key) (advanced_map_hashes region b to m)
    ∙ advanced_map_at region b to m (hash_of key m.hashes) key (mod-lt (sum key) some)

advanced_on : (region : Region) (b : Id) (to : ℕ) (m : Pieced Version) (key : List ℕ) → 0 < m.hashes → GoesOn key m (advanced_map region b to m)
advanced_on region b to m key some branch at e =
    let newer : Option Version = version_of (advanced_map region b to m) key in
    cond_both (in_region region (hash_of key m.hashes) key && is_behind b to (version_of m key)) (Some (point b to)) (version_of m key)
    (λ (o : Option Version). newer ≡ o → (u : ℕ) × (newer ≡ Some (point branch u)) × (at ≤ u))
    (λ comes g.
    let behind : (same_id branch b && nat_lt at to) ≡ true =
    ap (is_behind b to) (sym e) ∙ (and_parts (in_region region (hash_of key m.hashes) key) (is_behind b to (version_of m key)) comes).1 in
    let both = and_parts (same_id branch b) (nat_lt at to) behind in
    let low = ltb-true at to both.1 in
    (to, g ∙ ap (λ (i : Id). Some (point i to)) (sym (id_same branch b both.0)), omega (arith, low)))
    (λ _ g. (at, g ∙ e, omega arith))
    (version_of-advanced region b to m key some)

row_on : (me : NodeId) (hashes : ℕ) (contracts : List Contract) (k next : Kept) (qs : List Point) (key : List ℕ) → 0 < k.versions.hashes → Done me hashes contracts k next qs → GoesOn key k.versions next.versions
row_on me hashes contracts k next qs key some (Still e none) = stays_on key k.versions next.versions (ap (λ (x : Kept). version_of x.versions key) e)
row_on me hashes contracts k next qs key some (Dispatches before after x q these has branch time e one) =
    subst (GoesOn key k.versions) (sym (ap (λ (n : Kept). n.versions) e)) (advanced_on x.contract.region x.branch (x.last + 1) k.versions key some)
row_on me hashes contracts k next qs key some (Streams region branch at i e none) =
    subst (GoesOn key k.versions) (sym (ap (λ (n : Kept). n.versions) e)) (advanced_on region branch at k.versions key some)
row_on me hashes contracts k next qs key some (GoesDown e none) = stays_on key k.versions next.versions (ap (λ (x : Kept). version_of x.versions key) e)
row_on me hashes contracts k next qs key some (ComesUp e none) = stays_on key k.versions next.versions (ap (λ (x : Kept). version_of x.versions key) e)

-- ---- branches that start are of keys that the node leads

abbrev AskLed : SetupState → ℕ → List Asking → Type 0
AskLed setup n waits = (a : Asking) → IsIn waits a → (key : List ℕ) → Away setup n key → has_key a.contract.region setup.hashes key ≡ false

module _ (setup : SetupState) (n : ℕ) (some : 0 < setup.hashes) (key : List ℕ) (away : Away setup n key) where
  -- the key keeps its version
  abbrev Keeps : Pieced Version → Pieced Version → Type 0
  Keeps older newer = (newer.hashes ≡ setup.hashes) × (version_of newer key ≡ version_of older key)

  one_keeps : (me : NodeId) (cs : List Contract) (a : Asking) (initial : Option ℕ) (s : Starting) → has_key a.contract.region setup.hashes key ≡ false → s.versions.hashes ≡ setup.hashes
      → Keeps s.versions (start_one me cs a initial s).versions
  one_keeps me cs a None s out same = (same, refl)
  one_keeps me cs a (Some initial) s out same =
      let newer : Pieced Version = started_versions a initial s.versions in
      let hashes : newer.hashes ≡ setup.hashes =
      advanced_map_hashes a.contract.region a.branch (initial + 1) (replaced_map a.contract.region (point a.branch initial) s.versions)
      ∙ replaced_map_hashes a.contract.region (point a.branch initial) s.versions ∙ same in (
        hashes,
        ap (λ c. value_at newer.pieces (hash_of key c) key) hashes
            ∙ started_outside setup.hashes a initial s.versions (hash_of key setup.hashes) key same (mod-lt (sum key) some) out
            ∙ ap (λ c. value_at s.versions.pieces (hash_of key c) key) (sym same),
      )

  each_keeps : (me : NodeId) (t : Table) (waits : List Asking) (s : Starting) → AskLed setup n waits → s.versions.hashes ≡ setup.hashes → Keeps s.versions (start_each me t waits s).versions
  each_keeps me t [] s out same = (same, refl)
  each_keeps me t (a ∷ waits) s out same =
      let one = one_keeps me t.contracts a (due t a) s (out a (inl refl) key away) same in
      let rest = each_keeps me t waits (start_one me t.contracts a (due t a) s) (λ x i. out x (inr i)) one.0 in
      (rest.0, rest.1 ∙ one.1)

  act_keeps : (step : Stepped) (v : Option Viewed) → AskLed setup n step.node.asking → step.node.versions.hashes ≡ setup.hashes → version_of (act_on step v).node.versions key ≡ version_of step.node.versions key
  act_keeps step None out same = refl
  act_keeps step (Some v) out same =
      let s : NodeState = step.node in
      (each_keeps s.me (table_of (caught_up s.log)) s.asking (record { asking = []; executions = s.executions; versions = s.versions }) out same).1

-- ---- one step

-- a key that a node does not lead goes on there
pub forward : (setup : SetupState) → IsSetup setup → (past : List Entry) (e : Entry) → IsRun setup past → (n : ℕ) (key : List ℕ) → Away setup n key → GoesOn key (state setup n past).versions (state setup n (e ∷ past)).versions
forward setup ok past e run n key away =
    let s : NodeState = state setup n past in
    let step : Stepped = input_row s e.input (brought past e.input) in
    let qs : List Point = points_of e.input step.outs in
    let roles = run_roles setup ok past run n in
    let done : Done (node_id n) setup.hashes (first_contracts 0 setup.shards) (kept s) (kept step.node) qs =
    row_is setup n s e.input (brought past e.input) roles.me_is roles.of (contracts_stay setup ok past run n) in
    let next : Roles setup n (kept step.node) = roles_row setup ok n (kept s) (kept step.node) qs roles.roles done in
    let asks : AskLed setup n step.node.asking = λ a i key away.
    false_from_ne_true (has_key a.contract.region setup.hashes key) (λ has.
    let role : IsAsking setup n step.node.life a = all_at (IsAsking setup n step.node.life) step.node.asking next.askings a i in
    let there = some_there asking_region (asked_from setup n step.node.life) (hash_of key setup.hashes) key a role.of has in
    let count = askings_led (node_id n) step.node.life 0 0 setup.shards (hash_of key setup.hashes) key in
    omega (arith, there, count, away)) in
    let some = some_hash setup ok in
    let hashes = roles.roles.hashes_are in
    let row : GoesOn key s.versions step.node.versions = row_on (node_id n) setup.hashes (first_contracts 0 setup.shards) (kept s) (kept step.node) qs key (omega (arith, some, hashes)) done in
    let end : version_of (moving setup past e n).versions key ≡ version_of step.node.versions key = act_keeps setup n some key away step (viewed step.node.log) asks next.hashes_are in
    cond_both (e.node.0 == n) (moving setup past e n) s (λ (t : NodeState). GoesOn key s.versions t.versions)
    (λ _ branch at is. let r = row branch at is in (r.0, end ∙ r.1, r.2)) (λ _ branch at is. (at, is, omega arith))

-- ---- how far a node came

-- a node, which does not lead the key, came to a timestamp of the branch with which the key begins
pub record Reaches (setup : SetupState) (past : List Entry) (n : ℕ) (key : List ℕ) (branch : Id) (at : ℕ) : Type 0 where
  pub away : Away setup n key
  pub begun : begun_branch setup key ≡ Some branch
  pub to : ℕ
  pub version_is : version_of (state setup n past).versions key ≡ Some (point branch to)
  pub up : at ≤ to

pub reaches_more : (setup : SetupState) → IsSetup setup → (past : List Entry) (e : Entry) → IsRun setup past → (n : ℕ) (key : List ℕ) (branch : Id) (at : ℕ)
    → Reaches setup past n key branch at → Reaches setup (e ∷ past) n key branch at
reaches_more setup ok past e run n key branch at r =
    let on = forward setup ok past e run n key r.away branch r.to r.version_is in
    let low = r.up in
    record { away = r.away; begun = r.begun; to = on.0; version_is = on.1; up = omega (arith, low, on.2) }
