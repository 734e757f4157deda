use Rattle.std.proofs.Common.{◌≡◌, []}
use Rattle.node_core.specs.Starting.{start_each, starts_end_numbers}
use Rattle.node_core.proofs.starting.start_each.Given as goal

abbrev pub invariant-loop-asks : goal.invariant-loop-asks
invariant-loop-asks l = record {
  started : start_each l.me l.table l.asks-iterator.rest.items (record { asking = l.left.items; executions = l.executions.items; versions = l.store.versions })
      ≡ start_each l.me l.table l.fn.asking.items (record { asking = []; executions = l.initial.executions.items; versions = l.initial.store.versions });
  rows : l.store.rows ≡ l.initial.store.rows;
  goes : starts_end_numbers l.table l.asks-iterator.rest.items ≡ starts_end_numbers l.table l.fn.asking.items;
}
