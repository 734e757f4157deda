use Rattle.std.proofs.Common.{◌∙◌, ap, set, arith}
use Rattle.std.proofs.lemmas.List.{get_or_default}
use Rattle.std.proofs.lemmas.List.Edits.{map_over_more}
use Rattle.primary_exec.specs.Execution.{Execution, got_row}
use Rattle.node_core.proofs.rows.take_got.Goals as goal

pub loop-execution-preserved : goal.loop-execution-preserved
loop-execution-preserved c =
    ap (λ (x : Execution). set c.loop-execution.executions c.loop-execution.execution-index x) c.got.ensures
    ∙ map_over_more (λ x. got_row x c.args.from c.args.got.now) c.args.executions.now c.loop-execution.executions c.loop-execution.execution-index _ c.loop-execution-test.true c.loop-execution.invariant (get_or_default c.loop-execution.executions c.loop-execution.execution-index _ _ (omega arith))
