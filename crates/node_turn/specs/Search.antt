-- The next copy that is due to a node among messages, in rising numbers.
use Rattle.std.specs.Prelude.{◌≡◌, ℕ, ◌+◌, ◌==◌, ◌≤◌, Bool, ◌&&◌, nat_lt, nat_le, List, [], ◌∷◌, length, reverse, take, Option, Some, None, if◌then◌else◌}
use Rattle.node_turn.specs.runs.region_map.declared.id.NodeId.{NodeId}
use Rattle.node_turn.specs.runs.node_core.declared.journal.Entry.{Entry}
use Rattle.node_turn.specs.runs.declared.envelope.Envelope.{Envelope}
use Rattle.node_turn.specs.runs.Run.{sent}
use Rattle.node_turn.specs.declared.chance.Chance.{Chance}
use Rattle.node_turn.specs.declared.position.MessageCopy.{MessageCopy}
use Rattle.node_turn.specs.declared.search.Found.{Found}
use Rattle.node_turn.specs.declared.search.Found.TheVariants.{Due, Passed}
use Rattle.node_turn.specs.Chances.{copies_due}

-- how many copies of a message were taken, of those that were not passed by
abbrev pub copies_taken : MessageCopy → ℕ → ℕ
copies_taken taken number = if number == taken.message then taken.copy else 0

-- a message to the node is due while the copies that come were not all taken, and no later message was
abbrev pub is_due : Chance → NodeId → MessageCopy → NodeId → ℕ → Bool
is_due chance node taken to number =
    (to.0 == node.0) && nat_le taken.message number && nat_lt (copies_taken taken number) (copies_due chance number)

abbrev pub next_copy : MessageCopy → ℕ → MessageCopy
next_copy taken number = record { message = number; copy = copies_taken taken number + 1 }

-- among messages that are numbered from some number on: the first copy that is due, or else the number behind the last
abbrev pub search : Chance → NodeId → MessageCopy → List Envelope → ℕ → Found
search chance node taken [] number = Passed number
search chance node taken (m ∷ messages) number =
    if is_due chance node taken m.to number then Due (next_copy taken number) else search chance node taken messages (number + 1)

abbrev pub due_of : Found → Option MessageCopy
due_of (Due copy) = Some copy
due_of (Passed number) = None

-- the next copy due in what is seen
abbrev pub due : Chance → NodeId → MessageCopy → List Entry → Option MessageCopy
due chance node taken past = due_of (search chance node taken (sent past) 1)

-- ---- how far a search has come

-- a search that goes on behind what was passed
abbrev pub goes_on : Found → (ℕ → Found) → Found
goes_on (Due copy) rest = Due copy
goes_on (Passed number) rest = rest number

-- the oldest so many entries have no copy that is due, and the next message has that number
pub record IsPlaced (chance : Chance) (node : NodeId) (taken : MessageCopy) (seen : List Entry) (entries number : ℕ) : Type 0 where
  pub within : entries ≤ length seen
  pub passed : search chance node taken (sent (reverse (take entries seen))) 1 ≡ Passed number
