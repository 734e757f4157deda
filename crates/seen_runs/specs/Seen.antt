-- What a node that has seen only a beginning of the journal knows of its own entries. The list of a book has the oldest
-- entry first, and the journal of a run the newest.
use Rattle.std.specs.Prelude.{◌≡◌, ℕ, ◌==◌, Bool, true, not, ◌&&◌, ◌⊎◌, nat_lt, List, [], ◌∷◌, reverse}
use Rattle.runs.specs.region_map.declared.id.NodeId.{NodeId}
use Rattle.runs.specs.contract_types.Setup.{SetupState}
use Rattle.runs.specs.exec_types.declared.input.Input.{Input}
use Rattle.runs.specs.exec_types.declared.input.Input.TheVariants.{Request, GiveUp, See, Tick, Deliver, Crash, Restart}
use Rattle.runs.specs.node_core.declared.journal.Entry.{Entry}
use Rattle.runs.specs.node_core.Step.{ends_numbers}
use Rattle.runs.specs.Run.{brought, state, is_fresh, arrives, names_node, suits, outs_of}
use Rattle.journal_seat.specs.declared.view.EndedSeat.{EndedSeat}
use Rattle.journal_seat.specs.Book.{made_by}

-- the number of the seat that an entry names
abbrev pub node_of : Entry → ℕ
node_of e = e.node.0

-- whether a node may be given an input, as far as what it has seen tells, and has a step for it. That the operation is new
-- is not for one node to tell
abbrev pub may_step_alone : SetupState → List Entry → NodeId → Input → Bool
may_step_alone setup seen node input =
    nat_lt node.0 setup.nodes && names_node setup input && arrives seen node input && suits (state setup node.0 seen).up input
    && not (ends_numbers (state setup node.0 seen) input (brought seen input))

-- an operation is asked for at its own node alone; `home` tells which that is
abbrev pub is_at_home : (ℕ → ℕ) → ℕ → Input → Bool
is_at_home home n (Request op key what) = home op.0 == n
is_at_home home n (GiveUp op) = true
is_at_home home n (See other up) = true
is_at_home home n Tick = true
is_at_home home n (Deliver number) = true
is_at_home home n Crash = true
is_at_home home n Restart = true

-- an entry is a step of its node over what the node has seen
pub record IsOwnStep (setup : SetupState) (home : ℕ → ℕ) (seen : List Entry) (e : Entry) : Type 0 where
  -- a message that it delivers was sent in what the node has seen
  pub allowed : may_step_alone setup seen e.node e.input ≡ true
  pub outputs : e.outputs ≡ outs_of setup seen e.node e.input
  -- the node did not ask for the operation before, and no other node asks for it
  pub fresh : is_fresh (made_by node_of e.node.0 seen) e.input ≡ true
  pub at_home : is_at_home home e.node.0 e.input ≡ true

-- each entry of a node is a step of it over all that lies before
abbrev pub OwnSteps : SetupState → (ℕ → ℕ) → ℕ → List Entry → Type 0
OwnSteps setup home n [] = Unit {0}
OwnSteps setup home n (e ∷ past) = (e.node.0 ≡ n → IsOwnStep setup home past e) × OwnSteps setup home n past

-- what a node knows that has seen a list and made entries: those are all that the list has of it, and they are its steps
pub record IsOwnRun (setup : SetupState) (home : ℕ → ℕ) (number : ℕ) (seen made : List Entry) : Type 0 where
  pub own : made_by node_of number seen ≡ made
  pub steps : OwnSteps setup home number (reverse seen)

-- the same of a seat that was taken in, unless it made nothing
abbrev pub IsSeatRun : SetupState → (ℕ → ℕ) → EndedSeat Entry → Type 0
IsSeatRun setup home p = (p.made ≡ []) ⊎ IsOwnRun setup home p.number p.seen p.made
