-- Operations that were given up, with the counts that they then had.
use Rattle.std.specs.Prelude.{◌≡◌, ◌⊎◌, List, [], ◌∷◌, Option, Some, None}
use Rattle.register_laws.specs.declared.operation.OpId.{OpId}
use Rattle.contract_types.specs.Setup.{SetupState}
use Rattle.contract_types.specs.declared.counts.Counts.{Counts}
use Rattle.exec_types.specs.declared.input.Input.{Input}
use Rattle.exec_types.specs.declared.input.Input.TheVariants.{Request, GiveUp, See, Tick, Deliver, Crash, Restart}
use Rattle.write_dispatch.specs.declared.decided.Decided.{Decided}
use Rattle.write_dispatch.specs.Dispatch.{counts_of, pending_of}
use Rattle.primary_exec.specs.Execution.{Execution}
use Rattle.node_core.specs.declared.journal.Entry.{Entry}
use Rattle.node_core.specs.Step.{NodeState}
use Rattle.runs.specs.Run.{state}

-- the counts of what is pending at its timestamp, under the contract in force
abbrev pub counts_pending : Execution → Option Decided → Option Counts
counts_pending x None = None
counts_pending x (Some d) = Some (counts_of x.dispatch.acks x.contract x.me.0 d.at)

abbrev pub or_counts : Option Counts → Option Counts → Option Counts
or_counts None later = later
or_counts (Some counts) later = Some counts

-- the counts of an operation, where it is pending at one of these executions
abbrev pub pending_counts : List Execution → OpId → Option Counts
pending_counts [] op = None
pending_counts (x ∷ xs) op = or_counts (counts_pending x (pending_of x.dispatch.waiting op)) (pending_counts xs op)

-- the input gives the operation up, and at a node in this state it is pending with these counts
abbrev pub IsGivenUpBy : NodeState → Input → OpId → Counts → Type 0
IsGivenUpBy s (Request q key what) op counts = ⊥
IsGivenUpBy s (GiveUp q) op counts = (q ≡ op) × (pending_counts s.executions op ≡ Some counts)
IsGivenUpBy s (See other up) op counts = ⊥
IsGivenUpBy s Tick op counts = ⊥
IsGivenUpBy s (Deliver number) op counts = ⊥
IsGivenUpBy s Crash op counts = ⊥
IsGivenUpBy s Restart op counts = ⊥

-- an entry gives the operation up at a node where it is pending with these counts
abbrev pub IsGivenUp : SetupState → List Entry → OpId → Counts → Type 0
IsGivenUp setup [] op counts = ⊥
IsGivenUp setup (e ∷ past) op counts = IsGivenUpBy (state setup e.node.0 past) e.input op counts ⊎ IsGivenUp setup past op counts
