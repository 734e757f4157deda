use Rattle.std.proofs.Common.{◌∙◌, ap, set, arith}
use Rattle.std.proofs.lemmas.List.{get_or_default}
use Rattle.std.proofs.lemmas.List.Edits.{map_over_more}
use Rattle.primary_exec.specs.Execution.{Execution, decided, decide_outs}
use Rattle.node_core.proofs.Outs.{outs_over_more}
use Rattle.node_core.proofs.rows.decide.Goals as goal

pub loop-execution-preserved : goal.loop-execution-preserved
loop-execution-preserved c = record {
  executions =
      ap (λ (x : Execution). set c.loop-execution.executions c.loop-execution.execution-index x) c.in_ok-decide.ensures.execution
      ∙ map_over_more decided c.args.executions.now c.loop-execution.executions c.loop-execution.execution-index _ c.loop-execution-test.true c.loop-execution.invariant.executions (get_or_default c.loop-execution.executions c.loop-execution.execution-index _ _ (omega arith));
  outs = c.in_ok-decide.ensures.out
      ∙ outs_over_more decided decide_outs c.args.executions.now c.loop-execution.executions c.args.out.now c.loop-execution.out c.loop-execution.execution-index _ c.loop-execution-test.true c.loop-execution.invariant.executions c.loop-execution.invariant.outs;
}
