-- What acting on the log does to a node: an execution that starts takes the part of what asked for it, with no operation
-- pending, and the rows stay.
use Rattle.std.proofs.Common.{◌≡◌, ℕ, ◌+◌, ◌≤◌, ◌<◌, Bool, true, false, cond, ◌&&◌, nat_lt, List, [], ◌∷◌, Option, Some, None, is_some, refl, ap, ◌∙◌, arith}
use Rattle.std.proofs.lemmas.Bool.{cond_both, and_from}
use Rattle.std.specs.List.{AllByRecursion}
use Rattle.change_runs.specs.runs.region_map.declared.id.NodeId.{NodeId}
use Rattle.change_runs.specs.runs.region_map.Regions.{in_region}
use Rattle.change_runs.specs.runs.region_map.Maps.{Pieced, value_at}
use Rattle.change_runs.specs.runs.branch_history.declared.version.Version.{Version}
use Rattle.change_runs.specs.runs.contract_types.declared.contract.Contract.{Contract}
use Rattle.change_runs.specs.runs.contract_types.declared.results.Viewed.{Viewed}
use Rattle.change_runs.specs.runs.contract_types.Setup.{SetupState}
use Rattle.change_runs.specs.runs.contract_types.Tables.{Table}
use Rattle.change_runs.specs.runs.contract_types.Tilings.{holders}
use Rattle.change_runs.specs.runs.table_log.Logs.{table_of, caught_up}
use Rattle.change_runs.specs.runs.store_api.Versions.{point, is_behind, replaced_map}
use Rattle.change_runs.proofs.runs.store_api.VersionMaps.{replaced_map_hashes, replaced_map_at, advanced_map_at}
use Rattle.change_runs.specs.runs.primary_exec.declared.asking.Asking.{Asking}
use Rattle.change_runs.specs.runs.primary_exec.Execution.{Execution, started, started_versions}
use Rattle.change_runs.specs.runs.node_core.declared.journal.Entry.{Entry}
use Rattle.change_runs.specs.runs.node_core.Starting.{Starting, place_of, placed, due, start_one, start_each}
use Rattle.change_runs.specs.runs.node_core.Step.{NodeState, Stepped, act_on}
use Rattle.change_runs.proofs.step_runs.Setups.{exec_region}
use Rattle.key_runs.proofs.KeyedRoles.{asking_region, led, holders-append, holders-placed}
use Rattle.key_runs.proofs.KeyedNodes.{IsFilled, Runs, AllRun, KeyedNode, holding, replaced_filled, all_stand}
use Rattle.key_runs.proofs.KeyedRequests.{value_at-inside, advanced_filled}

-- ---- the versions once a branch started

started_filled : (hashes : ℕ) (a : Asking) (initial : ℕ) (m : Pieced Version) → IsFilled hashes m → IsFilled hashes (started_versions a initial m)
started_filled hashes a initial m f =
    advanced_filled hashes a.contract.region a.branch (initial + 1) (replaced_map a.contract.region (point a.branch initial) m)
    (replaced_filled hashes a.contract.region (point a.branch initial) m f)

-- its region stands at the first sync
pub started_inside : (hashes : ℕ) (a : Asking) (initial : ℕ) (m : Pieced Version) (h : ℕ) (k : List ℕ) → IsFilled hashes m → h < hashes → in_region a.contract.region h k ≡ true
    → value_at (started_versions a initial m).pieces h k ≡ Some (point a.branch (initial + 1))
started_inside hashes a initial m h k f l i =
    let new : Version = point a.branch initial in
    let n : Pieced Version = replaced_map a.contract.region new m in
    let same = f.hashes_are in
    let size = replaced_map_hashes a.contract.region new m in
    let up : initial < initial + 1 = omega arith in
    value_at-inside a.contract.region a.branch initial (initial + 1) n h k (omega (arith, same, size, l)) i up
    (replaced_map_at a.contract.region new m h k (omega (arith, same, l))
    ∙ ap (λ b. cond b (Some new) (value_at m.pieces h k)) (and_from (in_region a.contract.region h k) (is_some (value_at m.pieces h k)) i (f.some h k l)))

-- any other pair keeps its version
pub started_outside : (hashes : ℕ) (a : Asking) (initial : ℕ) (m : Pieced Version) (h : ℕ) (k : List ℕ) → m.hashes ≡ hashes → h < hashes → in_region a.contract.region h k ≡ false
    → value_at (started_versions a initial m).pieces h k ≡ value_at m.pieces h k
started_outside hashes a initial m h k same l out =
    let new : Version = point a.branch initial in
    let n : Pieced Version = replaced_map a.contract.region new m in
    let size = replaced_map_hashes a.contract.region new m in
    advanced_map_at a.contract.region a.branch (initial + 1) n h k (omega (arith, same, size, l))
    ∙ ap (λ b. cond (b && is_behind a.branch (initial + 1) (value_at n.pieces h k)) (Some (point a.branch (initial + 1))) (value_at n.pieces h k)) out
    ∙ replaced_map_at a.contract.region new m h k (omega (arith, same, l))
    ∙ ap (λ b. cond (b && is_some (value_at m.pieces h k)) (Some new) (value_at m.pieces h k)) out

-- ---- starting

pub placed_all : (P : Execution → Type 0) (cs : List Contract) (x : Execution) (ys : List Execution) → P x → AllByRecursion P ys → AllByRecursion P (placed cs x ys)
placed_all P cs x [] h k = (h, tt)
placed_all P cs x (y ∷ ys) h k =
    cond_both (nat_lt (place_of cs x.contract.id) (place_of cs y.contract.id)) (x ∷ y ∷ ys) (y ∷ placed cs x ys) (λ (l : List Execution). AllByRecursion P l)
    (λ _. (h, k)) (λ _. (k.0, placed_all P cs x ys h k.1))

-- what started, what still asks, and what is yet to be looked at
record IsStarting (setup : SetupState) (past : List Entry) (n : ℕ) (rest : List Asking) (s : Starting) : Type 0 where
  filled : IsFilled setup.hashes s.versions
  leads : (h : ℕ) (k : List ℕ) → holders exec_region s.executions h k + (holders asking_region s.asking h k + holders asking_region rest h k) ≤ led n setup.shards h k
  runs : AllRun setup.hashes past s.versions s.executions

module _ (setup : SetupState) (past : List Entry) (n : ℕ) (one : (h : ℕ) (k : List ℕ) → led n setup.shards h k ≤ 1) where
  one_starting : (me : NodeId) (cs : List Contract) (a : Asking) (rest : List Asking) (initial : Option ℕ) (s : Starting) → IsStarting setup past n (a ∷ rest) s
      → IsStarting setup past n rest (start_one me cs a initial s)
  one_starting me cs a rest None s f =
      record {
        filled = f.filled;
        leads = λ h k.
            let all = f.leads h k in
            let first = holders-append asking_region (a ∷ []) rest h k in
            let last = holders-append asking_region s.asking (a ∷ []) h k in
            omega (arith, all, first, last);
        runs = f.runs;
      }
  one_starting me cs a rest (Some initial) s f =
      let x : Execution = started a me initial in
      let versions : Pieced Version = started_versions a initial s.versions in
      let count : ℕ → List ℕ → ℕ = λ h k. cond (in_region a.contract.region h k) 1 0 in
      record {
        filled = started_filled setup.hashes a initial s.versions f.filled;
        leads = λ h k.
            let all = f.leads h k in
            let first = holders-append asking_region (a ∷ []) rest h k in
            let more = holders-placed cs x s.executions h k in
            omega (arith, all, first, more);
        runs =
            placed_all (Runs setup.hashes past versions) cs x s.executions
            (record { stands = λ h k l i. started_inside setup.hashes a initial s.versions h k f.filled l i; waiting = (record { waits = tt }, tt) })
            (all_stand setup.hashes past count s.versions versions s.executions
            (λ h k.
            let all = f.leads h k in
            let first = holders-append asking_region (a ∷ []) rest h k in
            let few = one h k in
            omega (arith, all, first, few))
            (λ h k l none. started_outside setup.hashes a initial s.versions h k f.filled.hashes_are l (outside (in_region a.contract.region h k) none)) f.runs);
      }
    where
      outside : (b : Bool) → ◌≡◌ {A = ℕ} (cond b 1 0) 0 → b ≡ false
      outside true e = absurd (omega arith)
      outside false e = refl

  all_starting : (me : NodeId) (t : Table) (rest : List Asking) (s : Starting) → IsStarting setup past n rest s → IsStarting setup past n [] (start_each me t rest s)
  all_starting me t [] s f = f
  all_starting me t (a ∷ rest) s f = all_starting me t rest (start_one me t.contracts a (due t a) s) (one_starting me t.contracts a rest (due t a) s f)

  pub act_facts : (step : Stepped) (v : Option Viewed) → KeyedNode setup past n (holding step.node) → KeyedNode setup past n (holding (act_on step v).node)
  act_facts step None f = f
  act_facts step (Some v) f =
      let s : NodeState = step.node in
      let r = all_starting s.me (table_of (caught_up s.log)) s.asking (record { asking = []; executions = s.executions; versions = s.versions })
      (record { filled = f.filled; leads = λ h k. let all = f.leads h k in omega (arith, all); runs = f.runs }) in
      record {
        begun = f.begun;
        me_is = f.me_is;
        filled = r.filled;
        leads = λ h k. let all = r.leads h k in omega (arith, all);
        follows = f.follows;
        store = f.store;
        runs = r.runs;
      }
