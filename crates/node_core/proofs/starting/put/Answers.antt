use Rattle.std.proofs.Common.{◌≡◌, nat_lt, List, position, Some, None, ap₂, sym, ◌∙◌}
use Rattle.contract_types.specs.declared.contract.Contract.{Contract}
use Rattle.primary_exec.specs.Execution.{Execution}
use Rattle.node_core.specs.Starting.{place_of}
use Rattle.node_core.proofs.StartingOrder.{behind, placed_before, placed_behind}
use Rattle.node_core.proofs.starting.put.Goals as goal

pub returns-in_ok-insert-in-Some : goal.returns-in_ok-insert-in-Some
returns-in_ok-insert-in-Some c =
    let at : position (behind c.args.contracts.now c.args.execution) c.args.executions.now.items ≡ Some c.in-Some.place =
    ap₂ (λ (k : Contract) (xs : List Execution). position (λ y. nat_lt (place_of c.args.contracts.now k.id) (place_of c.args.contracts.now y.contract.id)) xs) (sym c.contract.ensures) (sym c.deref.ensures.value)
    ∙ sym c.place_among.ensures ∙ c.in-Some.is in
    c.in_ok-insert-in-Some.ensures.items ∙ sym (placed_before c.args.contracts.now c.args.execution c.args.executions.now.items c.in-Some.place at)

pub returns-in_ok-push-in-None : goal.returns-in_ok-push-in-None
returns-in_ok-push-in-None c =
    let at : position (behind c.args.contracts.now c.args.execution) c.args.executions.now.items ≡ None =
    ap₂ (λ (k : Contract) (xs : List Execution). position (λ y. nat_lt (place_of c.args.contracts.now k.id) (place_of c.args.contracts.now y.contract.id)) xs) (sym c.contract.ensures) (sym c.deref.ensures.value)
    ∙ sym c.place_among.ensures ∙ c.in-None.is in
    c.in_ok-push-in-None.ensures.items ∙ sym (placed_behind c.args.contracts.now c.args.execution c.args.executions.now.items at)
