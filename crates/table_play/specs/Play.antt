-- The play journal: what the lines of a script make of a journal, event by event.
use Rattle.std.specs.Prelude.{ℕ, zero, suc, ◌-◌, ◌^◌, Bool, true, false, List, [], ◌∷◌, ◌++◌, Option, Some, None, if◌then◌else◌}
use Rattle.region_map.specs.declared.id.NodeId.{NodeId}
use Rattle.region_map.specs.Nodes.{node_id}
use Rattle.register_laws.specs.declared.operation.OpId.{OpId}
use Rattle.contract_types.specs.Setup.{SetupState, nodes_below}
use Rattle.contract_types.specs.declared.limits.Which.{Which}
use Rattle.contract_types.specs.declared.limits.Which.TheVariants.{ScriptBytes, LineBytes, JournalEntries, JournalWeight, Numbers}
use Rattle.exec_types.specs.declared.input.Input.{Input}
use Rattle.exec_types.specs.declared.input.Input.TheVariants as input
use Rattle.node_core.specs.declared.journal.Entry.{Entry}
use Rattle.world_core.specs.runs.declared.envelope.Envelope.{Envelope}
use Rattle.world_steps.specs.declared.push_refused.PushRefused.{PushRefused}
use Rattle.world_steps.specs.declared.push_refused.PushRefused.TheVariants as refused
use Rattle.world_core.specs.runs.Run.{message_at, entry_of, state}
use Rattle.world_steps.specs.Waiting.{waiting, waiting_between}
use Rattle.world_steps.specs.World.{event_refusal, most_entries, most_weight}
use Rattle.script_text.specs.declared.script.ScriptWord.{ScriptWord}
use Rattle.script_text.specs.declared.script.ScriptWord.TheVariants.{Request, GiveUp, See, Crash, Restart, Tick, Deliver, Lose, LoseBetween, Flush, Settle}
use Rattle.script_text.specs.declared.script.ScriptItem.{ScriptItem}
use Rattle.report_text.specs.declared.ending.EventRefused.{EventRefused}
use Rattle.report_text.specs.declared.ending.EventRefused.TheVariants.{Down, Up, NoSuchMessage, NotYours}
use Rattle.report_text.specs.declared.ending.Refusal.{Refusal}
use Rattle.report_text.specs.declared.ending.Ending.{Ending}
use Rattle.report_text.specs.declared.ending.Ending.TheVariants.{End, Limit}

-- the entries so far, the newest first, the messages that were marked lost, the operations that were asked of nodes that
-- were down, the other events that were refused, and the limit that was met
pub record Played : Type 0 where
  pub past : List Entry
  pub lost : List ℕ
  pub down : List OpId
  pub refused : List Refusal
  pub met : Option Which

abbrev pub is_over : Option Which → Bool
is_over None = false
is_over (Some which) = true

-- an event of a line did nothing
abbrev pub with_refusal : Played → ℕ → EventRefused → Played
with_refusal p line reason = record p { refused = p.refused ++ record { line = line; reason = reason } ∷ [] }

-- an event of a line came to a node that was down
abbrev pub with_down : Played → ℕ → Input → Played
with_down p line (input.Request op key what) = record p { down = p.down ++ op ∷ [] }
with_down p line (input.GiveUp op) = with_refusal p line Down
with_down p line (input.See other up) = with_refusal p line Down
with_down p line input.Tick = with_refusal p line Down
with_down p line (input.Deliver number) = with_refusal p line Down
with_down p line input.Crash = with_refusal p line Down
with_down p line input.Restart = with_refusal p line Down

-- what an event makes, by the first refusal that holds: none adds its entry, a limit ends the play. An accepted script names no
-- node that is not there, and no operation twice
abbrev pub refused_as : SetupState → Played → ℕ → NodeId → Input → Option PushRefused → Played
refused_as setup p line node i None = record p { past = entry_of setup p.past node i ∷ p.past }
refused_as setup p line node i (Some refused.NoSuchNode) = p
refused_as setup p line node i (Some refused.NoSuchMessage) = with_refusal p line NoSuchMessage
refused_as setup p line node i (Some refused.NotYours) = with_refusal p line NotYours
refused_as setup p line node i (Some refused.Down) = with_down p line i
refused_as setup p line node i (Some refused.Up) = with_refusal p line Up
refused_as setup p line node i (Some refused.OpKnown) = p
refused_as setup p line node i (Some (refused.JournalFull which)) = record p { met = Some which }
refused_as setup p line node i (Some refused.OutOfMemory) = p

abbrev pub play_event : SetupState → Played → ℕ → NodeId → Input → Played
play_event setup p line node i = refused_as setup p line node i (event_refusal setup p.past node i)

-- ---- messages

-- a delivery goes to the node that its message is for; one of a message that was not sent is refused
abbrev pub play_arrival : SetupState → Played → ℕ → ℕ → Option Envelope → Played
play_arrival setup p line number None = with_refusal p line NoSuchMessage
play_arrival setup p line number (Some e) = play_event setup p line e.to (input.Deliver number)

-- or to the node that the line names
abbrev pub play_delivery : SetupState → Played → ℕ → ℕ → Option NodeId → Played
play_delivery setup p line number None = play_arrival setup p line number (message_at p.past number)
play_delivery setup p line number (Some node) = play_event setup p line node (input.Deliver number)

-- a message is marked lost; one that was not sent is refused
abbrev pub play_loss : Played → ℕ → ℕ → Option Envelope → Played
play_loss p line number None = with_refusal p line NoSuchMessage
play_loss p line number (Some e) = record p { lost = p.lost ++ number ∷ [] }

-- so is each message from one node to another that waits
abbrev pub play_losses : Played → NodeId → NodeId → Played
play_losses p from to = record p { lost = p.lost ++ waiting_between p.past p.lost from to }

-- the nodes that a word speaks of
abbrev pub only_of : SetupState → Option (List ℕ) → List ℕ
only_of setup None = nodes_below setup.nodes
only_of setup (Some only) = only

-- the least waiting message, where one waits, and what comes after its delivery, unless a limit was met
abbrev pub flush_next : SetupState → Played → ℕ → Option ℕ → (Played → Played) → Played
flush_next setup p line None later = p
flush_next setup p line (Some number) later =
    if is_over (play_arrival setup p line number (message_at p.past number)).met then play_arrival setup p line number (message_at p.past number)
    else later (play_arrival setup p line number (message_at p.past number))

-- the least message that waits among some nodes is delivered, so many times at most, until none waits
abbrev pub flush_by : ℕ → SetupState → List ℕ → Played → ℕ → Played
flush_by zero setup only p line = p
flush_by (suc count) setup only p line =
    flush_next setup p line (waiting setup p.past p.lost only) (λ q. flush_by count setup only q line)

-- how often a flush delivers at most: more often than a journal has room
unfoldable pub most_deliveries : ℕ
most_deliveries = 18446744073709551615

-- while a message waits, the least one is delivered
abbrev pub play_flush : SetupState → List ℕ → Played → ℕ → Played
play_flush setup only p line = flush_by most_deliveries setup only p line

-- ---- ticks

-- a node ticks if it is up
abbrev pub play_tick : SetupState → Played → ℕ → ℕ → Played
play_tick setup p line n = if (state setup n p.past).up then play_event setup p line (node_id n) input.Tick else p

-- so does each of these, unless a limit is met
abbrev pub play_ticks : SetupState → Played → ℕ → List ℕ → Played
play_ticks setup p line [] = p
play_ticks setup p line (n ∷ ns) = if is_over (play_tick setup p line n).met then play_tick setup p line n else play_ticks setup (play_tick setup p line n) line ns

-- some nodes tick, and then what waits among them is delivered
abbrev pub play_round : SetupState → List ℕ → Played → ℕ → Played
play_round setup only p line =
    if is_over (play_ticks setup p line only).met then play_ticks setup p line only else play_flush setup only (play_ticks setup p line only) line

abbrev pub play_rounds : ℕ → SetupState → List ℕ → Played → ℕ → Played
play_rounds zero setup only p line = p
play_rounds (suc count) setup only p line =
    if is_over (play_round setup only p line).met then play_round setup only p line else play_rounds count setup only (play_round setup only p line) line

-- ---- words

-- what the word of a line makes
abbrev pub play_word : SetupState → Played → ℕ → ScriptWord → Played
play_word setup p line (Request op node key what) = play_event setup p line node (input.Request op key what)
play_word setup p line (GiveUp node op) = play_event setup p line node (input.GiveUp op)
play_word setup p line (See node other up) = play_event setup p line node (input.See other up)
play_word setup p line (Crash node) = play_event setup p line node input.Crash
play_word setup p line (Restart node) = play_event setup p line node input.Restart
play_word setup p line (Tick node) = play_event setup p line node input.Tick
play_word setup p line (Deliver number node) = play_delivery setup p line number node
play_word setup p line (Lose number) = play_loss p line number (message_at p.past number)
play_word setup p line (LoseBetween from to) = play_losses p from to
play_word setup p line (Flush only) = play_flush setup (only_of setup only) p line
play_word setup p line (Settle rounds only) = play_rounds rounds setup (only_of setup only) p line

-- what is left of a script after a word, unless a limit was met
abbrev pub play_items : SetupState → Played → List ScriptItem → Played
play_items setup p [] = p
play_items setup p (item ∷ items) =
    if is_over (play_word setup p item.line item.word).met then play_word setup p item.line item.word else play_items setup (play_word setup p item.line item.word) items

abbrev pub unplayed : Played
unplayed = record { past = []; lost = []; down = []; refused = []; met = None }

-- what a script makes
abbrev pub play_journal : SetupState → List ScriptItem → Played
play_journal setup items = play_items setup unplayed items

-- ---- limits

-- the greatest number that there is
abbrev pub greatest_number : ℕ
greatest_number = 2 ^ 62 - 1

-- the number of a limit that an event may meet: of the entries of a journal, of its weight, and of the numbers
abbrev pub number_of : Which → ℕ
number_of ScriptBytes = 0
number_of LineBytes = 0
number_of JournalEntries = most_entries
number_of JournalWeight = most_weight
number_of Numbers = greatest_number

abbrev pub ending_of : Option Which → Ending
ending_of None = End
ending_of (Some which) = Limit which (number_of which)
