-- What a leader knows of the other nodes, by their numbers.
use Rattle.std.specs.Prelude.{ℕ, ◌+◌, ◌^◌, min, max, nat_le, Bool, ◌&&◌, if◌then◌else◌, List, length, replicate, slice_get, unwrap_or}
use Rattle.raft_append.specs.declared.peers.Progress.{Progress}

abbrev pub fresh : ℕ → Progress
fresh next = record { matched = 0; next = next }

abbrev pub progress_at : List Progress → ℕ → Progress
progress_at peers n = unwrap_or (slice_get peers n) (fresh 1)

-- nothing is known, and each node is sent this index next
abbrev pub reset_to : ℕ → List Progress → List Progress
reset_to next peers = replicate (length peers) (fresh next)

-- a leader's knowledge of a node after its answer. `last` is its own last index
abbrev pub progressed : Progress → ℕ → Bool → ℕ → Progress
progressed p last ok upto =
    if ok
    then (if nat_le upto last then record { matched = max p.matched upto; next = max p.next (max p.matched upto + 1) } else p)
    else record { matched = p.matched; next = min p.next (upto + 1) }

-- the next index would be no number
abbrev pub ends_progress : Progress → ℕ → Bool → ℕ → Bool
ends_progress p last ok upto = ok && nat_le upto last && nat_le (2 ^ 62) (max p.matched upto + 1)
