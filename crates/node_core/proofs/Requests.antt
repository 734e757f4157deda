-- The execution that takes a request, by its place.
use Rattle.std.proofs.Common.{◌≡◌, ℕ, suc, ◌+◌, ◌<◌, ◌≤◌, true, false, cond, not, nat_lt, List, [], ◌∷◌, length, get_or, set, position, Some, None, refl, sym, ap, ◌∙◌, subst, arith}
use Rattle.std.specs.List.{position_or_len}
use Rattle.std.proofs.lemmas.Bool.{ltb-true, ltb-false}
use Rattle.region_map.specs.Maps.{Pieced}
use Rattle.branch_history.specs.declared.version.Version.{Version}
use Rattle.register_laws.specs.declared.operation.OpId.{OpId}
use Rattle.register_laws.specs.declared.operation.Op.{Op}
use Rattle.exec_types.specs.declared.outcome.Outcome.TheVariants.{NotServing}
use Rattle.exec_types.specs.declared.output.Output.TheVariants.{Answer}
use Rattle.store_api.specs.Rows.{Rows}
use Rattle.primary_exec.specs.Execution.{Execution, PrimaryStep, dispatch_row, dispatch_ends_numbers}
use Rattle.node_core.specs.Parts.{Requested, is_for, dispatched, passed_on, request_all, requests_end_numbers}

-- the executions with the one of a place after its row
abbrev pub with_step : List Execution → ℕ → PrimaryStep → Requested
with_step xs i step = record { executions = set xs i step.execution; rows = step.rows; versions = step.versions; outs = step.outs }

place : ℕ → List ℕ → List Execution → ℕ
place hashes key xs = position_or_len (is_for hashes key) xs

-- ---- the first of the key's region takes the request

request_first : (hashes : ℕ) (xs : List Execution) (rows : Rows) (versions : Pieced Version) (op : OpId) (key : List ℕ) (what : Op) (x : Execution)
    → place hashes key xs < length xs
    → request_all hashes xs rows versions op key what ≡ with_step xs (place hashes key xs) (dispatch_row (get_or xs (place hashes key xs) x) rows versions op key what)
unfolding place
request_first hashes [] rows versions op key what x l = absurd (omega arith)
request_first hashes (y ∷ ys) rows versions op key what x l =
    let next : 1 + place hashes key ys ≡ suc (place hashes key ys) = omega arith in
    elim (is_for hashes key y) as (λ c. cond (not c) (1 + place hashes key ys) 0 < suc (length ys)
    → cond c (dispatched (dispatch_row y rows versions op key what) ys) (passed_on y (request_all hashes ys rows versions op key what))
    ≡ with_step (y ∷ ys) (cond (not c) (1 + place hashes key ys) 0) (dispatch_row (get_or (y ∷ ys) (cond (not c) (1 + place hashes key ys) 0) x) rows versions op key what)) [
      | true ↦ λ l. refl
      | false ↦ λ l. ap (passed_on y) (request_first hashes ys rows versions op key what x (omega arith))
          ∙ ap (λ n. with_step (y ∷ ys) n (dispatch_row (get_or (y ∷ ys) n x) rows versions op key what)) (sym next)
    ] l

request_ends : (hashes : ℕ) (xs : List Execution) (key : List ℕ) (x : Execution)
    → place hashes key xs < length xs → requests_end_numbers hashes xs key ≡ dispatch_ends_numbers (get_or xs (place hashes key xs) x)
unfolding place
request_ends hashes [] key x l = absurd (omega arith)
request_ends hashes (y ∷ ys) key x l =
    let next : 1 + place hashes key ys ≡ suc (place hashes key ys) = omega arith in
    elim (is_for hashes key y) as (λ c. cond (not c) (1 + place hashes key ys) 0 < suc (length ys)
    → cond c (dispatch_ends_numbers y) (requests_end_numbers hashes ys key) ≡ dispatch_ends_numbers (get_or (y ∷ ys) (cond (not c) (1 + place hashes key ys) 0) x)) [
      | true ↦ λ l. refl
      | false ↦ λ l. request_ends hashes ys key x (omega arith) ∙ ap (λ n. dispatch_ends_numbers (get_or (y ∷ ys) n x)) (sym next)
    ] l

-- an execution takes a request at its place
pub record IsServed (hashes : ℕ) (xs : List Execution) (rows : Rows) (versions : Pieced Version) (op : OpId) (key : List ℕ) (what : Op) (i : ℕ) (x : Execution) : Type 0 where
  pub row : request_all hashes xs rows versions op key what ≡ with_step xs i (dispatch_row x rows versions op key what)
  pub ends : requests_end_numbers hashes xs key ≡ dispatch_ends_numbers x

pub served : (hashes : ℕ) (xs : List Execution) (rows : Rows) (versions : Pieced Version) (op : OpId) (key : List ℕ) (what : Op) (i : ℕ) (x : Execution)
    → position (is_for hashes key) xs ≡ Some i → IsServed hashes xs rows versions op key what i (get_or xs i x)
unfolding place
served hashes xs rows versions op key what i x e =
    elim (nat_lt (place hashes key xs) (length xs)) as (λ c. nat_lt (place hashes key xs) (length xs) ≡ c → cond c (Some (place hashes key xs)) None ≡ Some i → IsServed hashes xs rows versions op key what i (get_or xs i x)) [
      | true ↦ λ l s. let same : place hashes key xs ≡ i = cc in
          subst (λ n. IsServed hashes xs rows versions op key what n (get_or xs n x)) same (record {
            row = request_first hashes xs rows versions op key what x (ltb-true _ _ l);
            ends = request_ends hashes xs key x (ltb-true _ _ l);
          })
      | false ↦ λ l s. absurd (cc)
    ] refl e

-- ---- no execution is of the key's region

-- none takes a request
pub record IsUnserved (hashes : ℕ) (xs : List Execution) (rows : Rows) (versions : Pieced Version) (op : OpId) (key : List ℕ) (what : Op) : Type 0 where
  pub row : request_all hashes xs rows versions op key what ≡ record { executions = xs; rows = rows; versions = versions; outs = Answer op NotServing ∷ [] }
  pub ends : requests_end_numbers hashes xs key ≡ false

request_nowhere : (hashes : ℕ) (xs : List Execution) (rows : Rows) (versions : Pieced Version) (op : OpId) (key : List ℕ) (what : Op)
    → length xs ≤ place hashes key xs → request_all hashes xs rows versions op key what ≡ record { executions = xs; rows = rows; versions = versions; outs = Answer op NotServing ∷ [] }
unfolding place
request_nowhere hashes [] rows versions op key what l = refl
request_nowhere hashes (y ∷ ys) rows versions op key what l =
    elim (is_for hashes key y) as (λ c. suc (length ys) ≤ cond (not c) (1 + place hashes key ys) 0
    → cond c (dispatched (dispatch_row y rows versions op key what) ys) (passed_on y (request_all hashes ys rows versions op key what)) ≡ record { executions = y ∷ ys; rows = rows; versions = versions; outs = Answer op NotServing ∷ [] }) [
      | true ↦ λ l. absurd (omega arith)
      | false ↦ λ l. ap (passed_on y) (request_nowhere hashes ys rows versions op key what (omega arith))
    ] l

ends_nowhere : (hashes : ℕ) (xs : List Execution) (key : List ℕ) → length xs ≤ place hashes key xs → requests_end_numbers hashes xs key ≡ false
unfolding place
ends_nowhere hashes [] key l = refl
ends_nowhere hashes (y ∷ ys) key l =
    elim (is_for hashes key y) as (λ c. suc (length ys) ≤ cond (not c) (1 + place hashes key ys) 0 → cond c (dispatch_ends_numbers y) (requests_end_numbers hashes ys key) ≡ false) [
      | true ↦ λ l. absurd (omega arith)
      | false ↦ λ l. ends_nowhere hashes ys key (omega arith)
    ] l

pub unserved : (hashes : ℕ) (xs : List Execution) (rows : Rows) (versions : Pieced Version) (op : OpId) (key : List ℕ) (what : Op)
    → position (is_for hashes key) xs ≡ None → IsUnserved hashes xs rows versions op key what
unfolding place
unserved hashes xs rows versions op key what e =
    elim (nat_lt (place hashes key xs) (length xs)) as (λ c. nat_lt (place hashes key xs) (length xs) ≡ c → cond c (Some (place hashes key xs)) None ≡ None → IsUnserved hashes xs rows versions op key what) [
      | true ↦ λ l s. absurd (cc)
      | false ↦ λ l s. record {
        row = request_nowhere hashes xs rows versions op key what (ltb-false _ _ l);
        ends = ends_nowhere hashes xs key (ltb-false _ _ l);
      }
    ] refl e
