-- The laws of a step in the form that proofs above take.
use Rattle.std.proofs.Common.{◌≡◌, ◌⊎◌, ℕ, List, [], ◌∷◌, Option, inl, inr, refl}
use Rattle.node_moves.specs.register_laws.declared.operation.OpId.{OpId}
use Rattle.node_moves.specs.register_laws.declared.operation.Op.{Op}
use Rattle.node_moves.specs.exec_types.declared.input.Input.TheVariants.{Request, GiveUp, See, Tick, Deliver, Crash, Restart}
use Rattle.node_moves.specs.exec_types.declared.outcome.Outcome.TheVariants.{NotServing}
use Rattle.node_moves.specs.list_laws.Members.{IsIn}
use Rattle.node_moves.specs.region_map.declared.id.NodeId.{NodeId}
use Rattle.node_moves.specs.exec_types.declared.input.Input.{Input}
use Rattle.node_moves.specs.exec_types.declared.message.Message.{Message}
use Rattle.node_moves.specs.exec_types.declared.output.Output.{Output}
use Rattle.node_moves.specs.exec_types.declared.output.Output.TheVariants as output
use Rattle.node_moves.specs.primary_exec.Execution.{Execution}
use Rattle.node_moves.specs.node_core.declared.node.Brought.{Brought}
use Rattle.node_moves.specs.node_core.Step.{NodeState, act, input_row, node_step}
use Rattle.node_moves.specs.Move.{HasHashes, StepMoves}
use Rattle.node_moves.specs.Parts.{LeavesParts, StepParts}
use Rattle.node_moves.specs.Says.{RowSays, Dispatches, Refuses, Says, StepSays}
use Rattle.node_moves.specs.Sends.{Sends, StepLogs}
use Rattle.node_moves.proofs.Executions.{none_serves}
use Rattle.node_moves.proofs.KeySteps.{step_at_key}
use Rattle.node_moves.proofs.PartSteps.{step_parts}
use Rattle.node_moves.proofs.StepMoves.{each_says, each_sends, step_logs, step_says}

module _ (s : NodeState) (input : Input) (brought : Option Brought) where
  abbrev end : NodeState
  end = (node_step s input brought).node

  -- before what is decided is answered
  abbrev before : List Execution
  before = (act (input_row s input brought)).node.executions

  pub says_whole : (xs : List Execution) × StepSays s input end (node_step s input brought).outs xs
  says_whole = (before, step_says s input brought)

  pub says_each : (out : Output) → IsIn (node_step s input brought).outs out → Says s input end out
  says_each out i = each_says s input end (node_step s input brought).outs before (step_says s input brought) out i

  pub sends_each : (to : NodeId) (m : Message) → IsIn (node_step s input brought).outs (output.Message to m) → Sends s input brought end to m
  sends_each = each_sends s input brought

  pub sends_logs : StepLogs s input brought end (node_step s input brought).outs
  sends_logs = step_logs s input brought

  pub moves_parts : (xs : List Execution) × StepSays s input end (node_step s input brought).outs xs × StepParts s input brought end xs
  moves_parts = (before, step_says s input brought, step_parts s input brought)

  pub moves_each : (key : List ℕ) → HasHashes s → StepMoves s input brought key end
  moves_each key h = step_at_key s input brought end before key h (step_parts s input brought)

-- a row that leaves all parts says nothing, or that the node does not serve a key
pub rest_says : (s : NodeState) (input : Input) (first : List Output) → LeavesParts s input → RowSays s input first
    → (first ≡ []) ⊎ ((op : OpId) × (key : List ℕ) × (what : Op) × (input ≡ Request op key what) × (first ≡ output.Answer op NotServing ∷ []))
rest_says s (Request op key what) first none (Dispatches x serving is) = absurd (none_serves s.setup.hashes key s.executions x none serving)
rest_says s (Request op key what) first none (Refuses same is) = inr (op, key, what, refl, is)
rest_says s (GiveUp op) first none says = absurd none
rest_says s (See other up) first none says = inl says
rest_says s Tick first none says = inl says
rest_says s (Deliver number) first none says = inl says
rest_says s Crash first none says = absurd none
rest_says s Restart first none says = absurd none
