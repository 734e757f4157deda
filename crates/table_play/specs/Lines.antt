-- What each line of a script does, where nothing but a limit, a node that is down or up, or a message that was not sent or is for
-- another node stands against it.
use Rattle.std.specs.Prelude.{◌≡◌, ◌⊎◌, ◌<◌, ◌≤◌, ℕ, zero, suc, ◌==◌, nat_lt, true, false, length, List, [], ◌∷◌, Option, Some, None, if◌then◌else◌}
use Rattle.region_map.specs.declared.id.NodeId.{NodeId}
use Rattle.region_map.specs.Nodes.{node_id}
use Rattle.contract_types.specs.Setup.{SetupState}
use Rattle.contract_types.specs.declared.limits.Which.TheVariants.{JournalEntries, JournalWeight, Numbers}
use Rattle.exec_types.specs.declared.input.Input.{Input}
use Rattle.exec_types.specs.declared.input.Input.TheVariants as input
use Rattle.world_core.specs.runs.declared.envelope.Envelope.{Envelope}
use Rattle.node_core.specs.Step.{ends_numbers}
use Rattle.world_core.specs.runs.Run.{brought, state, message_at, entry_of, suits}
use Rattle.world_steps.specs.Waiting.{waiting}
use Rattle.world_steps.specs.World.{most_entries, most_weight, total_weight}
use Rattle.script_text.specs.declared.script.ScriptWord.{ScriptWord}
use Rattle.script_text.specs.declared.script.ScriptWord.TheVariants.{Request, GiveUp, See, Crash, Restart, Tick, Deliver, Lose, LoseBetween, Flush, Settle}
use Rattle.script_text.specs.declared.script.ScriptItem.{ScriptItem}
use Rattle.report_text.specs.declared.ending.EventRefused.TheVariants.{Up, NoSuchMessage, NotYours}
use Rattle.table_play.specs.Play.{Played, is_over, with_refusal, with_down, play_loss, play_losses, only_of, most_deliveries, play_word}

-- a limit stands against an event: the journal has no more room, a number of the step would pass its limit, or the journal would
-- be too heavy with the entry
abbrev pub MeetsLimit : SetupState → Played → NodeId → Input → Played → Type 0
MeetsLimit setup p node i q =
    ((most_entries ≤ length p.past) × (q ≡ record p { met = Some JournalEntries }))
    ⊎ (((ends_numbers (state setup node.0 p.past) i (brought p.past i) ≡ true) × (q ≡ record p { met = Some Numbers }))
    ⊎ ((most_weight < total_weight (entry_of setup p.past node i ∷ p.past)) × (q ≡ record p { met = Some JournalWeight })))

-- an event came to a node that is down, or asked a node to come up that is up
abbrev pub IsUnsuited : SetupState → Played → ℕ → NodeId → Input → Played → Type 0
IsUnsuited setup p line node i q =
    (suits (state setup node.0 p.past).up i ≡ false) × (q ≡ (if (state setup node.0 p.past).up then with_refusal p line Up else with_down p line i))

-- an event adds the entry of its node's step, or a limit is met, or it does not suit the node
abbrev pub AddsEntry : SetupState → Played → ℕ → NodeId → Input → Played → Type 0
AddsEntry setup p line node i q =
    (q ≡ record p { past = entry_of setup p.past node i ∷ p.past }) ⊎ (MeetsLimit setup p node i q ⊎ IsUnsuited setup p line node i q)

-- a delivery brings a message to its node, or tells that the message was not sent; where the message is for a number that is no
-- node of the table, nothing happens
abbrev pub Arrives : SetupState → Played → ℕ → ℕ → Option Envelope → Played → Type 0
Arrives setup p line number None q = q ≡ with_refusal p line NoSuchMessage
Arrives setup p line number (Some e) q =
    AddsEntry setup p line e.to (input.Deliver number) q ⊎ ((nat_lt e.to.0 setup.nodes ≡ false) × (q ≡ p))

-- so does one to a node that the line names, where the message is for that node
abbrev pub ArrivesAt : SetupState → Played → ℕ → ℕ → NodeId → Option Envelope → Played → Type 0
ArrivesAt setup p line number node None q = q ≡ with_refusal p line NoSuchMessage
ArrivesAt setup p line number node (Some e) q =
    ((e.to.0 == node.0 ≡ true) × AddsEntry setup p line node (input.Deliver number) q)
    ⊎ ((e.to.0 == node.0 ≡ false) × (q ≡ with_refusal p line NotYours))

abbrev pub Delivers : SetupState → Played → ℕ → ℕ → Option NodeId → Played → Type 0
Delivers setup p line number None q = Arrives setup p line number (message_at p.past number) q
Delivers setup p line number (Some node) q = ArrivesAt setup p line number node (message_at p.past number) q

-- one thing happens, and unless a limit is met what comes later follows
abbrev pub Then : (Played → Type 0) → (Played → Played → Type 0) → Played → Type 0
Then First Later q = (first : Played) × First first × (((is_over first.met ≡ true) × (q ≡ first)) ⊎ ((is_over first.met ≡ false) × Later first q))

-- a flush ends where nothing waits, and else delivers the least message that does, which was sent
abbrev pub FlushesNext : SetupState → Played → ℕ → Option ℕ → (Played → Played → Type 0) → Played → Type 0
FlushesNext setup p line None Later q = q ≡ p
FlushesNext setup p line (Some number) Later q =
    (e : Envelope) × (message_at p.past number ≡ Some e) × Then (AddsEntry setup p line e.to (input.Deliver number)) Later q

-- so many deliveries at most
abbrev pub Flushes : ℕ → SetupState → List ℕ → ℕ → Played → Played → Type 0
Flushes zero setup only line p q = q ≡ p
Flushes (suc count) setup only line p q = FlushesNext setup p line (waiting setup p.past p.lost only) (Flushes count setup only line) q

-- a node ticks if it is up
abbrev pub Ticks : SetupState → ℕ → ℕ → Played → Played → Type 0
Ticks setup line n p q =
    (((state setup n p.past).up ≡ true) × AddsEntry setup p line (node_id n) input.Tick q) ⊎ (((state setup n p.past).up ≡ false) × (q ≡ p))

abbrev pub TicksEach : SetupState → ℕ → List ℕ → Played → Played → Type 0
TicksEach setup line [] p q = q ≡ p
TicksEach setup line (n ∷ ns) p q = Then (Ticks setup line n p) (TicksEach setup line ns) q

abbrev pub Settles : ℕ → SetupState → List ℕ → ℕ → Played → Played → Type 0
Settles zero setup only line p q = q ≡ p
Settles (suc count) setup only line p q =
    Then (Then (TicksEach setup line only p) (Flushes most_deliveries setup only line)) (Settles count setup only line) q

-- what the word of a line does
abbrev pub Does : SetupState → Played → ℕ → ScriptWord → Played → Type 0
Does setup p line (Request op node key what) q = AddsEntry setup p line node (input.Request op key what) q
Does setup p line (GiveUp node op) q = AddsEntry setup p line node (input.GiveUp op) q
Does setup p line (See node other up) q = AddsEntry setup p line node (input.See other up) q
Does setup p line (Crash node) q = AddsEntry setup p line node input.Crash q
Does setup p line (Restart node) q = AddsEntry setup p line node input.Restart q
Does setup p line (Tick node) q = AddsEntry setup p line node input.Tick q
Does setup p line (Deliver number node) q = Delivers setup p line number node q
Does setup p line (Lose number) q = q ≡ play_loss p line number (message_at p.past number)
Does setup p line (LoseBetween from to) q = q ≡ play_losses p from to
Does setup p line (Flush only) q = Flushes most_deliveries setup (only_of setup only) line p q
Does setup p line (Settle rounds only) q = Settles rounds setup (only_of setup only) line p q

-- each line that is reached before a limit does what its word says: none is passed over
abbrev pub AllDo : SetupState → Played → List ScriptItem → Type 0
AllDo setup p [] = Unit {0}
AllDo setup p (item ∷ items) =
    Does setup p item.line item.word (play_word setup p item.line item.word)
    × (is_over (play_word setup p item.line item.word).met ≡ false → AllDo setup (play_word setup p item.line item.word) items)
