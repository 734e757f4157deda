-- What a step dispatches, refuses and asks for, by its outputs.
use Rattle.std.specs.Prelude.{◌≡◌, ℕ, List, [], ◌∷◌}
use Rattle.list_laws.specs.Members.{IsIn}
use Rattle.runs.specs.region_map.declared.id.Id.{Id}
use Rattle.runs.specs.region_map.declared.id.NodeId.{NodeId}
use Rattle.runs.specs.region_map.Maps.{Pieced}
use Rattle.runs.specs.branch_history.declared.version.Version.{Version}
use Rattle.runs.specs.register_laws.declared.operation.OpId.{OpId}
use Rattle.runs.specs.contract_types.declared.ack.Ack.TheVariants.{NeedBranch}
use Rattle.runs.specs.exec_types.declared.input.Input.{Input}
use Rattle.runs.specs.exec_types.declared.input.Input.TheVariants.{Request, GiveUp, See, Tick, Deliver, Crash, Restart}
use Rattle.runs.specs.exec_types.declared.message.Message.TheVariants.{Say}
use Rattle.runs.specs.exec_types.declared.outcome.Outcome.{Outcome}
use Rattle.runs.specs.exec_types.declared.outcome.Outcome.TheVariants.{Done, NotServing, NoMajority}
use Rattle.runs.specs.exec_types.declared.output.Output.{Output}
use Rattle.runs.specs.exec_types.declared.output.Output.TheVariants.{Message, Dispatched, Viewed, Answer}

-- the operations that are dispatched, each with its key
abbrev pub dispatched_in : List Output → List (OpId × List ℕ)
dispatched_in [] = []
dispatched_in (Message to message ∷ outs) = dispatched_in outs
dispatched_in (Dispatched op key branch timestamp ∷ outs) = (op, key) ∷ dispatched_in outs
dispatched_in (Viewed first results ∷ outs) = dispatched_in outs
dispatched_in (Answer op outcome ∷ outs) = dispatched_in outs

-- an operation before others, where its outcome is that the node does not serve its key
abbrev pub refused_before : OpId → Outcome → List OpId → List OpId
refused_before op (Done reply branch timestamp) rest = rest
refused_before op NotServing rest = op ∷ rest
refused_before op (NoMajority counts) rest = rest

-- the operations that are answered "not serving"
abbrev pub refused_in : List Output → List OpId
refused_in [] = []
refused_in (Message to message ∷ outs) = refused_in outs
refused_in (Dispatched op key branch timestamp ∷ outs) = refused_in outs
refused_in (Viewed first results ∷ outs) = refused_in outs
refused_in (Answer op outcome ∷ outs) = refused_before op outcome (refused_in outs)

-- the leader is asked to register a branch under a contract's id
abbrev pub AsksFor : List Output → NodeId → Id → Id → Type 0
AsksFor outs leader contract branch =
    (based_on : Pieced Id) × (origin : Pieced Version) × (IsIn outs (Message leader (Say contract (NeedBranch branch based_on origin))))

-- an input after which what is pending of an operation goes on to wait: the node stays up, and the client waits for it
abbrev pub GoesOn : Input → OpId → Type 0
GoesOn (Request q key what) op = Unit {0}
GoesOn (GiveUp q) op = q.0 ≡ op.0 → ⊥
GoesOn (See other up) op = Unit {0}
GoesOn Tick op = Unit {0}
GoesOn (Deliver number) op = Unit {0}
GoesOn Crash op = ⊥
GoesOn Restart op = ⊥
