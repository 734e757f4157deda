-- Where the entries of logs come from.
use Rattle.std.specs.Prelude.{◌≡◌, ◌<◌, ◌⊎◌, ℕ, suc, List, [], ◌∷◌, length, slice_get, IsTrue, Some}
use Rattle.std.specs.List.{AllByRecursion}
use Rattle.region_map.specs.declared.id.NodeId.{NodeId}
use Rattle.raft_vote.specs.declared.log.LogEntry.{LogEntry}
use Rattle.raft_vote.specs.declared.message.RaftMessage.{RaftMessage}
use Rattle.raft_vote.specs.declared.message.RaftMessage.TheVariants.{VoteAsk, VoteSay, Append, AppendSay}
use Rattle.raft_laws.specs.declared.event.RaftEvent.{RaftEvent}
use Rattle.raft_laws.specs.declared.event.RaftEvent.TheVariants.{Propose}
use Rattle.raft_laws.specs.World.{Sent, World, moment, leads, term_of_node, log_of}

-- entries that stand behind an index, each with its index as the relation wants it
abbrev pub EachFrom : {E : Type 0} → (ℕ → LogEntry E → Type 0) → ℕ → List (LogEntry E) → Type 0
EachFrom from index [] = Unit {0}
EachFrom from index (e ∷ es) = from (suc index) e × EachFrom from (suc index) es

-- so the entries that a message carries
abbrev pub CarriesFrom : {E : Type 0} → (ℕ → LogEntry E → Type 0) → RaftMessage E → Type 0
CarriesFrom from (VoteAsk term last_term last_index) = Unit {0}
CarriesFrom from (VoteSay term granted) = Unit {0}
CarriesFrom from (Append term prev prev_term entries commit) = EachFrom from prev entries
CarriesFrom from (AppendSay term ok upto) = Unit {0}

-- so every log of a world, and every message that was ever sent there
pub record HasSources {E : Type 0} (from : ℕ → LogEntry E → Type 0) (w : World E) : Type 0 where
  pub logs : (n : ℕ) → EachFrom from 0 (log_of w n)
  pub sent : AllByRecursion (λ (m : Sent E). CarriesFrom from m.message) w.sent

-- before a moment of a run, the change of an entry was put to the leader of the entry's term, whose log then went up to
-- the entry's place
pub record WasPut {E : Type 0} (nodes : ℕ) (noop : E) (events : List (NodeId × RaftEvent E)) (before index : ℕ) (e : LogEntry E) : Type 0 where
  pub at : ℕ
  pub earlier : at < before
  pub leader : NodeId
  pub event : slice_get events at ≡ Some (leader, Propose e.change)
  pub leads : IsTrue (leads (moment nodes noop events at) leader.0)
  pub term : term_of_node (moment nodes noop events at) leader.0 ≡ e.term
  pub place : index ≡ suc (length (log_of (moment nodes noop events at) leader.0))

-- an entry holds the change that does nothing, or one that was put to the leader of its term
abbrev pub IsPut : {E : Type 0} → ℕ → E → List (NodeId × RaftEvent E) → ℕ → ℕ → LogEntry E → Type 0
IsPut nodes noop events before index e = (e.change ≡ noop) ⊎ WasPut nodes noop events before index e

-- so each entry of every log and of every message, at each moment of every run
abbrev pub EntriesArePut : {E : Type 0} → ℕ → E → Type 0
EntriesArePut {E} nodes noop = (events : List (NodeId × RaftEvent E)) (i : ℕ) → HasSources (IsPut nodes noop events i) (moment nodes noop events i)
