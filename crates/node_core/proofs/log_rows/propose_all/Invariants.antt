use Rattle.std.proofs.Common.{◌≡◌, IsTrue}
use Rattle.node_core.specs.Step.{leads, propose_all}
use Rattle.node_core.proofs.log_rows.propose_all.Given as goal

abbrev pub invariant-loop-change : goal.invariant-loop-change
invariant-loop-change l = record {
  leads : IsTrue (leads l.log);
  proposed : propose_all l.log l.change-iterator.rest.items ≡ propose_all l.initial.log l.initial.change-iterator.rest.items;
}
