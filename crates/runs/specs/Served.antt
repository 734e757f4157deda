-- Operations whose node did not serve the key as it took the request.
use Rattle.std.specs.Prelude.{◌≡◌, ◌⊎◌, false, List, [], ◌∷◌}
use Rattle.register_laws.specs.declared.operation.OpId.{OpId}
use Rattle.contract_types.specs.Setup.{SetupState}
use Rattle.exec_types.specs.declared.input.Input.{Input}
use Rattle.exec_types.specs.declared.input.Input.TheVariants.{Request, GiveUp, See, Tick, Deliver, Crash, Restart}
use Rattle.node_core.specs.declared.journal.Entry.{Entry}
use Rattle.node_core.specs.Step.{NodeState}
use Rattle.runs.specs.Run.{state}
use Rattle.runs.specs.Serving.{is_served_by}

-- the input requests the operation, and a node in this state is not to serve the key: it is down, or no contract of its
-- table has the key and names it primary, with a current branch that it made in this life and in the contract's tenure
abbrev pub IsNotServedBy : NodeState → Input → OpId → Type 0
IsNotServedBy s (Request q key what) op = (q ≡ op) × (is_served_by s key ≡ false)
IsNotServedBy s (GiveUp q) op = ⊥
IsNotServedBy s (See other up) op = ⊥
IsNotServedBy s Tick op = ⊥
IsNotServedBy s (Deliver number) op = ⊥
IsNotServedBy s Crash op = ⊥
IsNotServedBy s Restart op = ⊥

-- an entry requests the operation of a node that does not serve the key as it takes the request
abbrev pub IsNotServed : SetupState → List Entry → OpId → Type 0
IsNotServed setup [] op = ⊥
IsNotServed setup (e ∷ past) op = IsNotServedBy (state setup e.node.0 past) e.input op ⊎ IsNotServed setup past op
