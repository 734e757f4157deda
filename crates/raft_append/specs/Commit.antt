-- What a majority has of a leader's log.
use Rattle.std.specs.Prelude.{ℕ, zero, suc, ◌*◌, ◌==◌, count_by, nat_lt, nat_le, Bool, ◌&&◌, if◌then◌else◌, List, length, map}
use Rattle.region_map.specs.declared.id.NodeId.{NodeId}
use Rattle.region_map.specs.Nodes.{node_id}
use Rattle.raft_vote.specs.declared.log.LogEntry.{LogEntry}
use Rattle.raft_vote.specs.Log.{term_at}
use Rattle.raft_vote.specs.State.{VoteState}
use Rattle.raft_append.specs.declared.peers.Progress.{Progress}
use Rattle.raft_append.specs.Peers.{progress_at}

-- how far a node's log is known to agree, the leader's own with all of it
abbrev pub matched_by : VoteState → ℕ → List Progress → NodeId → ℕ
matched_by s last peers n = if n.0 == s.me.0 then last else (progress_at peers n.0).matched

-- a majority of all nodes has matched an index
abbrev pub is_matched : VoteState → ℕ → List Progress → ℕ → Bool
is_matched s last peers index = nat_lt (length s.nodes) (2 * count_by (λ n. nat_le index (matched_by s last peers n)) (map node_id s.nodes))

-- the greatest number up to n that passes, and 0 where none does
abbrev pub greatest : (ℕ → Bool) → ℕ → ℕ
greatest p zero = 0
greatest p (suc n) = if p (suc n) then suc n else greatest p n

-- an entry of the leader's own term that a majority has matched
abbrev pub is_decided : {E : Type 0} → VoteState → List (LogEntry E) → List Progress → ℕ → Bool
is_decided s log peers index = (term_at log index == s.term) && is_matched s (length log) peers index

-- the greatest index that is decided, and 0 where there is none
abbrev pub decided : {E : Type 0} → VoteState → List (LogEntry E) → List Progress → ℕ
decided s log peers = greatest (is_decided s log peers) (length log)
