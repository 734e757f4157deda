use Rattle.std.proofs.Common.{◌≡◌, false, subst}
use Rattle.table_log.specs.Logs.{table_of}
use Rattle.node_core.specs.Starting.{starts_end_numbers}
use Rattle.node_core.specs.Step.{NodeState}
use Rattle.node_core.proofs.node.Node.start.Goals as goal

pub returns-clause-goes : goal.returns-clause-goes
returns-clause-goes c =
    subst (λ (s : NodeState). starts_end_numbers (table_of s.log) s.asking ≡ false) c.self.view_is c.in_ok-start_in.ensures.goes
