-- Words on logs. Index 1 is that of the first entry.
use Rattle.std.specs.Prelude.{ℕ, zero, suc, List, length, slice_get, Option, Some, None}
use Rattle.raft_vote.specs.declared.log.LogEntry.{LogEntry}

abbrev pub term_of : {E : Type 0} → Option (LogEntry E) → ℕ
term_of None = 0
term_of (Some e) = e.term

-- the term at an index, and 0 at index 0 and past the end
abbrev pub term_at : {E : Type 0} → List (LogEntry E) → ℕ → ℕ
term_at log zero = 0
term_at log (suc i) = term_of (slice_get log i)

-- the term of the last entry, and 0 where there is none
abbrev pub last_term : {E : Type 0} → List (LogEntry E) → ℕ
last_term log = term_at log (length log)
