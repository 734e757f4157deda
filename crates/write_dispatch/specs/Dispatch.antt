-- Pending operations, kept acks, and when an operation is decided.
use Rattle.std.specs.Prelude.{ℕ, ◌==◌, ◌*◌, Bool, true, false, ◌&&◌, ◌||◌, nat_lt, nat_le, List, [], ◌∷◌, ◌++◌, length, count_by, Option, Some, None, option_map, Result, Ok, Err, slice_set, slice_index_or, if◌then◌else◌}
use lib.ListN.{replicate}
use Rattle.register_laws.specs.declared.operation.OpId.{OpId}
use Rattle.register_laws.specs.declared.operation.Reply.{Reply}
use Rattle.contract_types.specs.declared.contract.Contract.{Contract}
use Rattle.contract_types.specs.declared.counts.Counts.{Counts}
use Rattle.write_dispatch.specs.declared.decided.Decided.{Decided}
use Rattle.write_dispatch.specs.declared.decided.KeptAck.{KeptAck}
use Rattle.write_dispatch.specs.declared.refused.GiveUpRefused.{GiveUpRefused}
use Rattle.write_dispatch.specs.declared.refused.GiveUpRefused.TheVariants.{NotPending, StillDecided}

-- the kept ack of each server, by its number
abbrev pub Acks : Type 0
Acks = List (Option KeptAck)

-- what waits, in rising timestamps, and what was acknowledged
pub record DispatchState : Type 0 where
  pub waiting : List Decided
  pub acks : Acks

-- one more pending operation, or a sync
abbrev pub with_pending : DispatchState → Option OpId → ℕ → Reply → DispatchState
with_pending s op at reply = record s { waiting = s.waiting ++ record { op = op; at = at; reply = reply } ∷ [] }

-- no server acknowledged anything
unfoldable pub no_acks : Acks
no_acks = replicate 64 None

abbrev pub ack_of : Acks → ℕ → Option KeptAck
ack_of acks server = slice_index_or acks server None

-- whether a pair is above the kept one, by view first
abbrev pub exceeds : ℕ → ℕ → Option KeptAck → Bool
exceeds view at None = true
exceeds view at (Some kept) = nat_lt kept.view view || ((kept.view == view) && nat_lt kept.at at)

-- the acks after a server gave this pair
abbrev pub with_ack : Acks → ℕ → ℕ → ℕ → Acks
with_ack acks server view at =
    if exceeds view at (ack_of acks server) then slice_set acks server (Some (record { view = view; at = at })) else acks

-- whether a kept ack counts from this log index on, and reaches this timestamp
abbrev pub reaches : Option KeptAck → ℕ → ℕ → Bool
reaches None since at = false
reaches (Some kept) since at = nat_le since kept.view && nat_le at kept.at

-- whether a server is counted at a timestamp: it is the primary itself, or its kept ack reaches
abbrev pub is_counted : Acks → ℕ → ℕ → ℕ → ℕ → Bool
is_counted acks since me at server = (server == me) || reaches (ack_of acks server) since at

abbrev pub counted_of : Acks → ℕ → ℕ → ℕ → List ℕ → ℕ
counted_of acks since me at set = count_by (is_counted acks since me at) set

-- the counted voters of all voters at a timestamp, and the same of the temporary voters
abbrev pub counts_of : Acks → Contract → ℕ → ℕ → Counts
counts_of acks contract me at =
    record {
      voters = counted_of acks contract.since me at contract.voters;
      of = length contract.voters;
      temp = option_map (λ set. (counted_of acks contract.since me at set, length set)) contract.temp_voters;
    }

abbrev pub is_temp_majority : Option (ℕ × ℕ) → Bool
is_temp_majority None = true
is_temp_majority (Some c) = nat_lt c.1 (2 * c.0)

-- twice each counted number exceeds its total
abbrev pub are_majorities : Counts → Bool
are_majorities counts = nat_lt counts.of (2 * counts.voters) && is_temp_majority counts.temp

-- whether the counts at a timestamp are majorities
abbrev pub is_decided : Acks → Contract → ℕ → ℕ → Bool
is_decided acks contract me at = are_majorities (counts_of acks contract me at)

-- the least pending one, where it is decided
abbrev pub decided_first : Acks → Contract → ℕ → List Decided → Option Decided
decided_first acks contract me [] = None
decided_first acks contract me (d ∷ ds) = if is_decided acks contract me d.at then Some d else None

-- what waits once it is taken
abbrev pub behind_first : Acks → Contract → ℕ → List Decided → List Decided
behind_first acks contract me [] = []
behind_first acks contract me (d ∷ ds) = if is_decided acks contract me d.at then ds else d ∷ ds

abbrev pub is_of : OpId → Option OpId → Bool
is_of op None = false
is_of op (Some q) = q.0 == op.0

-- the least pending one of an operation
abbrev pub pending_of : List Decided → OpId → Option Decided
pending_of [] op = None
pending_of (d ∷ ds) op = if is_of op d.op then Some d else pending_of ds op

-- what waits without it
abbrev pub without_op : List Decided → OpId → List Decided
without_op [] op = []
without_op (d ∷ ds) op = if is_of op d.op then ds else d ∷ without_op ds op

-- what giving up an operation answers: the counts, where it is pending and not decided
abbrev pub give_up_answer : Acks → Contract → ℕ → Option Decided → Result Counts GiveUpRefused
give_up_answer acks contract me None = Err NotPending
give_up_answer acks contract me (Some d) =
    if is_decided acks contract me d.at then Err (StillDecided (counts_of acks contract me d.at)) else Ok (counts_of acks contract me d.at)

-- every pending one has a timestamp below this one
abbrev pub all_below : ℕ → List Decided → Bool
all_below at [] = true
all_below at (d ∷ ds) = nat_lt d.at at && all_below at ds

-- every pending one has a timestamp above this one
abbrev pub all_above : ℕ → List Decided → Bool
all_above at [] = true
all_above at (d ∷ ds) = nat_lt at d.at && all_above at ds

-- the timestamps rise
abbrev pub is_rising : List Decided → Bool
is_rising [] = true
is_rising (d ∷ ds) = all_above d.at ds && is_rising ds
