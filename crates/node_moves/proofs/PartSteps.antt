-- What a whole step does to the parts of a node.
use Rattle.std.proofs.Common.{◌≡◌, ◌==◌, ◌+◌, nat_lt, List, [], ◌∷◌, ◌++◌, Option, Some, None, refl, sym, ap, ◌∙◌, subst, append-nil, append_assoc}
use Rattle.std.proofs.lemmas.Bool.{cond_both}
use Rattle.std.specs.List.{AllByRecursion}
use Rattle.node_moves.specs.region_map.declared.id.NodeId.{NodeId}
use Rattle.node_moves.specs.contract_types.declared.contract.Contract.{Contract}
use Rattle.node_moves.specs.contract_types.declared.results.Viewed.{Viewed}
use Rattle.node_moves.specs.contract_types.Tables.{Table}
use Rattle.node_moves.specs.table_log.Logs.{LogState, caught_up, results, table_of}
use Rattle.node_moves.specs.exec_types.declared.input.Input.{Input}
use Rattle.node_moves.specs.primary_exec.declared.asking.Asking.{Asking}
use Rattle.node_moves.specs.primary_exec.Execution.{Execution, started}
use Rattle.node_moves.specs.node_core.declared.node.Brought.{Brought}
use Rattle.node_moves.specs.node_core.Starting.{Starting, due, place_of, placed, start_each, start_one}
use Rattle.node_moves.specs.node_core.Step.{NodeState, Stepped, act, act_on, decide_step, input_row, node_step}
use Rattle.node_moves.specs.Parts.{Held, held, Begins, Begin, Ends, PartsAct, More, Same, StepParts, next_after, up_after}
use Rattle.node_moves.proofs.PartRows.{PartsRow, row_parts}
use Rattle.node_moves.proofs.RowMoves.{row_moves}
use Rattle.list_laws.proofs.All.{all_push}

-- where an execution is put among others
record Split (x : Execution) (ys zs : List Execution) : Type 0 where
  before : List Execution
  after : List Execution
  others : ys ≡ before ++ after
  all : zs ≡ before ++ x ∷ after

placed_splits : (cs : List Contract) (x : Execution) (ys : List Execution) → Split x ys (placed cs x ys)
placed_splits cs x [] = record { before = []; after = []; others = refl; all = refl }
placed_splits cs x (y ∷ ys) =
    let rest = placed_splits cs x ys in
    cond_both (nat_lt (place_of cs x.contract.id) (place_of cs y.contract.id)) (x ∷ y ∷ ys) (y ∷ placed cs x ys) (Split x (y ∷ ys))
    (λ _. record { before = []; after = y ∷ ys; others = refl; all = refl })
    (λ _. record { before = y ∷ rest.before; after = rest.after; others = ap (λ (l : List Execution). y ∷ l) rest.others; all = ap (λ (l : List Execution). y ∷ l) rest.all })

-- what still asks is not due
left_not_due : (me : NodeId) (t : Table) (rest : List Asking) (r : Starting) → AllByRecursion (λ (x : Asking). due t x ≡ None) r.asking
    → AllByRecursion (λ (x : Asking). due t x ≡ None) (start_each me t rest r).asking
left_not_due me t [] r h = h
left_not_due me t (a ∷ rest) r h =
    let P : Asking → Type 0 = λ x. due t x ≡ None in
    elim (due t a) as (λ o. due t a ≡ o → AllByRecursion P (start_each me t rest (start_one me t.contracts a o r)).asking) [
      | None ↦ λ e. left_not_due me t rest (record r { asking = r.asking ++ a ∷ [] }) (all_push P r.asking a h e)
      | Some initial ↦ λ e. left_not_due me t rest (start_one me t.contracts a (Some initial) r) h
    ] refl

module _ (me : NodeId) (t : Table) (a : Held) where
  -- the parts while some of what asks is still to be looked at
  abbrev looking : Starting → List Asking → Held
  looking r rest = record a { asking = r.asking ++ rest; executions = r.executions; versions = r.versions }

  abbrev looked : Starting → Held
  looked r = record a { asking = r.asking; executions = r.executions; versions = r.versions }

  each_begins : (rest : List Asking) (r : Starting) → Begins me t (looking r rest) (looked (start_each me t rest r))
  each_begins [] r =
      subst (λ (l : List Asking). Begins me t (record a { asking = l; executions = r.executions; versions = r.versions }) (looked r)) (sym (append-nil r.asking)) (Ends (looked r))
  each_begins (x ∷ rest) r =
      elim (due t x) as (λ o. due t x ≡ o → Begins me t (looking r (x ∷ rest)) (looked (start_each me t rest (start_one me t.contracts x o r)))) [
        | None ↦ λ _.
            let next : Starting = record r { asking = r.asking ++ x ∷ [] } in
            subst (λ (l : List Asking). Begins me t (record a { asking = l; executions = r.executions; versions = r.versions }) (looked (start_each me t rest next)))
            (append_assoc r.asking (x ∷ []) rest) (each_begins rest next)
        | Some initial ↦ λ is_due.
            let next : Starting = start_one me t.contracts x (Some initial) r in
            let s = placed_splits t.contracts (started x me initial) r.executions in
            Begin (looking r (x ∷ rest)) (looked (start_each me t rest next)) x initial r.asking rest s.before s.after refl is_due s.others
            (subst (λ (l : List Execution). Begins me t (record a { asking = r.asking ++ rest; executions = l; versions = next.versions }) (looked (start_each me t rest next))) s.all (each_begins rest next))
      ] refl

module _ (s : NodeState) (input : Input) (brought : Option Brought) where
  abbrev row : Stepped
  row = input_row s input brought

  parts : PartsRow s input brought row
  parts = row_parts s input brought

  same_view : row.node.log.acted ≡ s.log.acted
  same_view = (row_moves s input brought).acted

  -- what acting leaves of the node
  record Acted (a : Stepped) : Type 0 where
    me_is : a.node.me ≡ s.me
    setup_is : a.node.setup ≡ s.setup
    up_is : a.node.up ≡ up_after s.up input
    next_is : a.node.next ≡ next_after s input
    acts : PartsAct s (decide_step a).node (held row.node) (held a.node)

  acted_is : Acted (act row)
  acted_is =
      let log : LogState = row.node.log in
      let v : Viewed = record { first = log.acted + 1; results = results log } in
      let t : Table = table_of (caught_up log) in
      let begun : Starting = record { asking = []; executions = row.node.executions; versions = row.node.versions } in
      let one : Held = record (held row.node) { acted = log.raft.view } in
      let two : Held = held (act_on row (Some v)).node in
      cond_both (log.acted == log.raft.view) None (Some v) (λ (o : Option Viewed). Acted (act_on row o))
      (λ _. record { me_is = parts.me_is; setup_is = parts.setup_is; up_is = parts.up_is; next_is = parts.next_is; acts = Same same_view refl })
      (λ e. record {
        me_is = parts.me_is;
        setup_is = parts.setup_is;
        up_is = parts.up_is;
        next_is = parts.next_is;
        acts = More (ap (λ n. n == log.raft.view) (sym same_view) ∙ e)
            (subst (λ me. Begins me t one two) parts.me_is (each_begins row.node.me t one row.node.asking begun))
            (left_not_due row.node.me t row.node.asking begun tt);
      })

  pub step_parts : StepParts s input brought (node_step s input brought).node (act row).node.executions
  step_parts =
      let a = acted_is in
      record {
        me_is = a.me_is;
        setup_is = a.setup_is;
        up_is = a.up_is;
        next_is = a.next_is;
        row = held row.node;
        moves = parts.move;
        acted = held (act row).node;
        acts = a.acts;
        executions = refl;
        decides = refl;
      }
