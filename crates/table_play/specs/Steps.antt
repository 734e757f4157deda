-- What was played, from its parts.
use Rattle.std.specs.Prelude.{◌≡◌, ℕ, List, [], ◌∷◌, ◌++◌, Option, Some, None}
use Rattle.register_laws.specs.declared.operation.OpId.{OpId}
use Rattle.contract_types.specs.declared.limits.Which.{Which}
use Rattle.node_core.specs.declared.journal.Entry.{Entry}
use Rattle.exec_types.specs.declared.input.Input.{Input}
use Rattle.exec_types.specs.declared.input.Input.TheVariants.{Request, GiveUp, See, Tick, Deliver, Crash, Restart}
use Rattle.report_text.specs.declared.ending.EventRefused.TheVariants.{Down}
use Rattle.report_text.specs.declared.ending.Refusal.{Refusal}
use Rattle.world_steps.specs.World.{WorldState}
use Rattle.table_play.specs.Play.{Played, with_refusal}

abbrev pub played_by : List Entry → List ℕ → List OpId → List Refusal → Option Which → Played
played_by past lost down refused met = record { past = past; lost = lost; down = down; refused = refused; met = met }

-- what was played in a world, with the events that were refused
abbrev pub played_at : WorldState → List OpId → List Refusal → Option Which → Played
played_at w down refused met = played_by w.past w.lost down refused met

-- the world has what is played here, or a part of it: its first entries
abbrev pub HasPartOf : WorldState → Played → Type 0
HasPartOf w p = (later : List Entry) × (p.past ≡ later ++ w.past)

-- the operation that an input asks for
abbrev pub asked_in : Input → Option OpId
asked_in (Request op key what) = Some op
asked_in (GiveUp op) = None
asked_in (See other up) = None
asked_in Tick = None
asked_in (Deliver number) = None
asked_in Crash = None
asked_in Restart = None

-- an event came to a node that was down, by the operation that it asked for
abbrev pub down_as : Played → ℕ → Option OpId → Played
down_as p line None = with_refusal p line Down
down_as p line (Some op) = record p { down = p.down ++ op ∷ [] }
