-- Waiting reads, in the order of their syncs.
use Rattle.std.specs.Prelude.{ℕ, ◌==◌, Bool, true, false, ◌&&◌, ◌||◌, nat_lt, nat_le, List, [], ◌∷◌, Option, Some, None, if◌then◌else◌}
use Rattle.register_laws.specs.declared.operation.OpId.{OpId}
use Rattle.majority_read.specs.declared.waiting_read.WaitingRead.{WaitingRead}

-- the sync of every waiting read is below this timestamp
abbrev pub all_below : ℕ → List WaitingRead → Bool
all_below at [] = true
all_below at (r ∷ rs) = nat_lt r.at at && all_below at rs

-- the sync of every waiting read is above this timestamp
abbrev pub all_above : ℕ → List WaitingRead → Bool
all_above at [] = true
all_above at (r ∷ rs) = nat_lt at r.at && all_above at rs

-- the sync of every waiting read is at or above this timestamp
abbrev pub all_from : ℕ → List WaitingRead → Bool
all_from at [] = true
all_from at (r ∷ rs) = nat_le at r.at && all_from at rs

-- the timestamps rise
abbrev pub is_rising : List WaitingRead → Bool
is_rising [] = true
is_rising (r ∷ rs) = all_above r.at rs && is_rising rs

-- the first one, where its sync is at or below this timestamp
abbrev pub first_upto : ℕ → List WaitingRead → Option WaitingRead
first_upto at [] = None
first_upto at (r ∷ rs) = if nat_le r.at at then Some r else None

-- what waits once it is taken
abbrev pub behind_upto : ℕ → List WaitingRead → List WaitingRead
behind_upto at [] = []
behind_upto at (r ∷ rs) = if nat_le r.at at then rs else r ∷ rs

abbrev pub is_read_of : OpId → WaitingRead → Bool
is_read_of op r = r.op.0 == op.0

-- some read of the operation waits
abbrev pub has_read_of : OpId → List WaitingRead → Bool
has_read_of op [] = false
has_read_of op (r ∷ rs) = is_read_of op r || has_read_of op rs

-- the timestamp of the sync of the first read of the operation
abbrev pub sync_of : OpId → List WaitingRead → Option ℕ
sync_of op [] = None
sync_of op (r ∷ rs) = if is_read_of op r then Some r.at else sync_of op rs

-- what waits without the first read of the operation
abbrev pub without_read_of : OpId → List WaitingRead → List WaitingRead
without_read_of op [] = []
without_read_of op (r ∷ rs) = if is_read_of op r then rs else r ∷ without_read_of op rs
