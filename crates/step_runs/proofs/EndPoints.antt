-- The points of a step are those of its row: acting and deciding take none.
use Rattle.std.proofs.Common.{◌≡◌, List, [], ◌∷◌, ◌++◌, Option, Some, None, refl, ap, ◌∙◌, append-nil}
use Rattle.runs.specs.register_laws.declared.operation.Op.{Op}
use Rattle.runs.specs.contract_types.declared.results.Viewed.{Viewed}
use Rattle.runs.specs.table_log.Logs.{viewed}
use Rattle.runs.specs.exec_types.declared.input.Input.{Input}
use Rattle.runs.specs.exec_types.declared.input.Input.TheVariants.{Request, GiveUp, See, Tick, Deliver, Crash, Restart}
use Rattle.runs.specs.exec_types.declared.output.Output.TheVariants as output
use Rattle.runs.specs.primary_exec.Execution.{Execution, decide_outs}
use Rattle.runs.specs.node_core.Parts.{decide_all_outs}
use Rattle.runs.specs.node_core.Step.{Stepped, act_on, act, end_step}
use Rattle.runs.specs.Story.{Point, points_in, points_of}
use Rattle.step_runs.proofs.Outs.{points_in-append, points_in-decided}

decide_points : (what : Op) (xs : List Execution) → points_in what (decide_all_outs xs) ≡ []
decide_points what [] = refl
decide_points what (x ∷ xs) =
    points_in-append what (decide_outs x) (decide_all_outs xs) ∙ ap (λ (l : List Point). l ++ points_in what (decide_all_outs xs)) (points_in-decided what x x.dispatch.waiting)
    ∙ decide_points what xs

act_points : (what : Op) (step : Stepped) (v : Option Viewed) → points_in what (act_on step v).outs ≡ points_in what step.outs
act_points what step None = refl
act_points what step (Some v) = points_in-append what step.outs (output.Viewed v.first v.results ∷ []) ∙ append-nil (points_in what step.outs)

pub end_points : (what : Op) (step : Stepped) → points_in what (end_step step).outs ≡ points_in what step.outs
end_points what step =
    points_in-append what (act step).outs (decide_all_outs (act step).node.executions)
    ∙ ap (λ (l : List Point). points_in what (act step).outs ++ l) (decide_points what (act step).node.executions) ∙ append-nil (points_in what (act step).outs)
    ∙ act_points what step (viewed step.node.log)

-- the same of the points of an input
pub end_points_of : (input : Input) (step : Stepped) → points_of input (end_step step).outs ≡ points_of input step.outs
end_points_of (Request op key what) step = end_points what step
end_points_of (GiveUp op) step = refl
end_points_of (See other up) step = refl
end_points_of Tick step = refl
end_points_of (Deliver number) step = refl
end_points_of Crash step = refl
end_points_of Restart step = refl
