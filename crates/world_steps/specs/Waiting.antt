-- Messages that wait: those that were sent, and were neither delivered nor lost.
use Rattle.std.specs.Prelude.{ℕ, zero, suc, ◌+◌, ◌==◌, Bool, false, not, ◌&&◌, ◌||◌, List, [], ◌∷◌, length, Option, Some, None, is_some, nat_lt, nat_le, if◌then◌else◌}
use Rattle.exec_types.specs.declared.input.Input.{Input}
use Rattle.exec_types.specs.declared.input.Input.TheVariants.{Request, GiveUp, See, Tick, Deliver, Crash, Restart}
use Rattle.node_core.specs.declared.journal.Entry.{Entry}
use Rattle.region_map.specs.declared.id.NodeId.{NodeId}
use Rattle.region_map.specs.Nodes.{has}
use Rattle.contract_types.specs.Setup.{SetupState}
use Rattle.runs.specs.declared.envelope.Envelope.{Envelope}
use Rattle.runs.specs.Run.{sent, message_at, state}

-- a message of this number was sent
abbrev pub is_sent : List Entry → ℕ → Bool
is_sent past n = is_some (message_at past n)

abbrev pub delivers : Input → ℕ → Bool
delivers (Request op key what) n = false
delivers (GiveUp op) n = false
delivers (See other up) n = false
delivers Tick n = false
delivers (Deliver number) n = number == n
delivers Crash n = false
delivers Restart n = false

-- some entry delivers the message of this number
abbrev pub is_delivered : List Entry → ℕ → Bool
is_delivered [] n = false
is_delivered (e ∷ past) n = delivers e.input n || is_delivered past n

-- the message of this number is among those that were marked lost
abbrev pub is_lost : List ℕ → ℕ → Bool
is_lost [] n = false
is_lost (m ∷ lost) n = (m == n) || is_lost lost n

abbrev pub is_waiting : List Entry → List ℕ → ℕ → Bool
is_waiting past lost n = is_sent past n && (not (is_delivered past n) && not (is_lost lost n))

-- the message of this number came when there were more than so many, up to so many
abbrev pub is_new : ℕ → ℕ → ℕ → Bool
is_new before after n = nat_lt before n && nat_le n after

-- the first that passes of so many numbers from n on
abbrev pub first_from : (ℕ → Bool) → ℕ → ℕ → Option ℕ
first_from p zero n = None
first_from p (suc count) n = if p n then Some n else first_from p count (n + 1)

-- its sender and its receiver are among some nodes, and the receiver is up
abbrev pub may_flow : SetupState → List Entry → List ℕ → Option Envelope → Bool
may_flow setup past only None = false
may_flow setup past only (Some e) = has only e.from.0 && has only e.to.0 && (state setup e.to.0 past).up

-- a message waits and may flow among some nodes
abbrev pub is_flowing : SetupState → List Entry → List ℕ → List ℕ → ℕ → Bool
is_flowing setup past lost only n = is_waiting past lost n && may_flow setup past only (message_at past n)

-- the least message that does
abbrev pub waiting : SetupState → List Entry → List ℕ → List ℕ → Option ℕ
waiting setup past lost only = first_from (is_flowing setup past lost only) (length (sent past)) 1

-- a message goes from one node to another
abbrev pub is_between : NodeId → NodeId → Option Envelope → Bool
is_between from to None = false
is_between from to (Some e) = (e.from.0 == from.0) && (e.to.0 == to.0)

-- so many numbers from n on that pass
abbrev pub all_from : (ℕ → Bool) → ℕ → ℕ → List ℕ
all_from p zero n = []
all_from p (suc count) n = if p n then n ∷ all_from p count (n + 1) else all_from p count (n + 1)

-- the messages from one node to another that wait, in rising numbers
abbrev pub waiting_between : List Entry → List ℕ → NodeId → NodeId → List ℕ
waiting_between past lost from to = all_from (λ n. is_waiting past lost n && is_between from to (message_at past n)) (length (sent past)) 1
