-- In every run the timestamps of points are below the greatest that a word holds.
use Rattle.std.proofs.Common.{◌≡◌, ℕ, ◌+◌, ◌≤◌, ◌^◌, Bool, false, cond, not, true, ◌&&◌, nat_lt, nat_le, List, [], ◌∷◌, Option, sym, subst, arith}
use Rattle.std.proofs.lemmas.Bool.{and_parts, or_parts, not-true, leb-false}
use Rattle.std.specs.List.{AllByRecursion}
use Rattle.id_runs.specs.runs.branch_history.declared.version.Version.{Version}
use Rattle.id_runs.specs.runs.region_map.Maps.{Pieced}
use Rattle.id_runs.specs.runs.register_laws.declared.operation.OpId.{OpId}
use Rattle.id_runs.specs.runs.register_laws.declared.operation.Op.{Op}
use Rattle.id_runs.specs.runs.contract_types.Setup.{SetupState}
use Rattle.id_runs.specs.runs.table_log.Logs.{viewed}
use Rattle.id_runs.specs.runs.exec_types.declared.input.Input.{Input}
use Rattle.id_runs.specs.runs.exec_types.declared.input.Input.TheVariants.{Request, GiveUp, See, Tick, Deliver, Crash, Restart}
use Rattle.id_runs.specs.runs.exec_types.declared.output.Output.{Output}
use Rattle.id_runs.specs.runs.store_api.Rows.{Rows}
use Rattle.id_runs.specs.runs.primary_exec.Execution.{Execution, PrimaryStep, parts_end_numbers, dispatch_row, dispatch_ends_numbers}
use Rattle.id_runs.specs.runs.node_core.declared.node.Brought.{Brought}
use Rattle.id_runs.specs.runs.node_core.declared.journal.Entry.{Entry}
use Rattle.id_runs.specs.runs.node_core.Parts.{Requested, is_for, dispatched, passed_on, request_all, requests_end_numbers}
use Rattle.id_runs.specs.runs.node_core.Step.{NodeState, Stepped, row_ends_numbers, act_ends_numbers, input_row, ends_numbers}
use Rattle.id_runs.specs.runs.Run.{names_node, arrives, suits, is_fresh, brought, state, IsStep, IsRun}
use Rattle.id_runs.specs.runs.Story.{Point, points_in, points_of, points}
use Rattle.id_runs.proofs.step_runs.EndPoints.{end_points_of}
use Rattle.id_runs.proofs.step_runs.PointBranches.{all_append}
use Rattle.key_runs.proofs.Requesting.{dispatch_points}

-- ---- timestamps

-- below the greatest that a word holds
abbrev pub IsShort : Point → Type 0
IsShort p = p.timestamp ≤ 18446744073709551615

dispatch_short : (x : Execution) → dispatch_ends_numbers x ≡ false → x.last + 1 ≤ 18446744073709551615
dispatch_short x e =
    let low = leb-false (2 ^ 62) (x.last + 1) (or_parts (nat_le (2 ^ 62) (x.last + 1)) (parts_end_numbers x.sessions) e).0 in
    omega (arith, low)

request_short : (hashes : ℕ) (xs : List Execution) (rows : Rows) (versions : Pieced Version) (op : OpId) (key : List ℕ) (what : Op) → requests_end_numbers hashes xs key ≡ false
    → AllByRecursion IsShort (points_in what (request_all hashes xs rows versions op key what).outs)
request_short hashes [] rows versions op key what e = tt
request_short hashes (x ∷ xs) rows versions op key what e =
    let rest : Requested = request_all hashes xs rows versions op key what in
    let row : PrimaryStep = dispatch_row x rows versions op key what in
    elim (is_for hashes key x) as (λ c. cond c (dispatch_ends_numbers x) (requests_end_numbers hashes xs key) ≡ false → AllByRecursion IsShort (points_in what (cond c (dispatched row xs) (passed_on x rest)).outs)) [
      | true ↦ λ here. subst (AllByRecursion IsShort) (sym (dispatch_points x rows versions op key what)) (dispatch_short x here, tt)
      | false ↦ λ there. request_short hashes xs rows versions op key what there
    ] e

row_short : (s : NodeState) (input : Input) (b : Option Brought) → row_ends_numbers s input b ≡ false → AllByRecursion IsShort (points_of input (input_row s input b).outs)
row_short s (Request op key what) b e = request_short s.setup.hashes s.executions s.rows s.versions op key what e
row_short s (GiveUp op) b e = tt
row_short s (See other up) b e = tt
row_short s Tick b e = tt
row_short s (Deliver number) b e = tt
row_short s Crash b e = tt
row_short s Restart b e = tt

row_goes_on : (setup : SetupState) (past : List Entry) (e : Entry) → IsStep setup past e → row_ends_numbers (state setup e.node.0 past) e.input (brought past e.input) ≡ false
row_goes_on setup past e h =
    let s : NodeState = state setup e.node.0 past in
    let b : Option Brought = brought past e.input in
    let fits : Bool = nat_lt e.node.0 setup.nodes && names_node setup e.input && arrives past e.node e.input && suits s.up e.input && is_fresh past e.input in
    let goes = not-true (ends_numbers s e.input b) (and_parts fits (not (ends_numbers s e.input b)) h.allowed).1 in
    (or_parts (row_ends_numbers s e.input b) (act_ends_numbers (input_row s e.input b).node (viewed (input_row s e.input b).node.log)) goes).0

pub points_short : (setup : SetupState) (past : List Entry) → IsRun setup past → AllByRecursion IsShort (points past)
points_short setup [] h = tt
points_short setup (e ∷ past) h =
    let row : Stepped = input_row (state setup e.node.0 past) e.input (brought past e.input) in
    all_append IsShort (points past) (points_of e.input e.outputs) (points_short setup past h.1)
    (subst (λ (outs : List Output). AllByRecursion IsShort (points_of e.input outs)) (sym h.0.outputs)
    (subst (AllByRecursion IsShort) (sym (end_points_of e.input row))
    (row_short (state setup e.node.0 past) e.input (brought past e.input) (row_goes_on setup past e h.0))))
