-- Operations that their node refused: no execution of its had the key as it took the request.
use Rattle.std.proofs.Common.{◌≡◌, ◌⊎◌, false, List, [], ◌∷◌}
use Rattle.change_runs.specs.runs.register_laws.declared.operation.OpId.{OpId}
use Rattle.change_runs.specs.runs.contract_types.Setup.{SetupState}
use Rattle.change_runs.specs.runs.exec_types.declared.input.Input.{Input}
use Rattle.change_runs.specs.runs.exec_types.declared.input.Input.TheVariants.{Request, GiveUp, See, Tick, Deliver, Crash, Restart}
use Rattle.change_runs.specs.runs.node_core.declared.journal.Entry.{Entry}
use Rattle.change_runs.specs.runs.node_core.Step.{NodeState, serves}
use Rattle.change_runs.specs.runs.Run.{state}

-- the input requests the operation, and a node in this state has no execution of the key
abbrev pub IsRefusedBy : NodeState → Input → OpId → Type 0
IsRefusedBy s (Request q key what) op = (q ≡ op) × (serves s key ≡ false)
IsRefusedBy s (GiveUp q) op = ⊥
IsRefusedBy s (See other up) op = ⊥
IsRefusedBy s Tick op = ⊥
IsRefusedBy s (Deliver number) op = ⊥
IsRefusedBy s Crash op = ⊥
IsRefusedBy s Restart op = ⊥

-- an entry requests the operation of a node that has no execution of the key as it takes the request
abbrev pub IsRefused : SetupState → List Entry → OpId → Type 0
IsRefused setup [] op = ⊥
IsRefused setup (e ∷ past) op = IsRefusedBy (state setup e.node.0 past) e.input op ⊎ IsRefused setup past op
