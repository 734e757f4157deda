-- What waits at an execution, and which timestamps have a majority there, by its kept acks.
use Rattle.std.specs.Prelude.{◌≡◌, ℕ, ◌+◌, ◌==◌, Bool, true, false, ◌&&◌, ◌||◌, nat_lt, nat_le, List, filter, length, Option, Some, None}
use Rattle.std.specs.List.{AllByRecursion, slice_index_or}
use Rattle.list_laws.specs.Members.{IsIn}
use Rattle.runs.specs.region_map.declared.id.Id.{Id}
use Rattle.runs.specs.write_dispatch.declared.decided.Decided.{Decided}
use Rattle.runs.specs.write_dispatch.declared.decided.KeptAck.{KeptAck}
use Rattle.runs.specs.write_dispatch.Dispatch.{all_below, is_rising}
use Rattle.runs.specs.primary_exec.Execution.{Execution}

-- an ack that was sent with a view from this log index on tells of this timestamp, or a later one
abbrev pub tells_of : Option KeptAck → ℕ → ℕ → Bool
tells_of None since at = false
tells_of (Some kept) since at = nat_le since kept.view && nat_le at kept.at

-- a server stands at a timestamp, as the primary knows: it is the primary itself, or its ack tells of it
abbrev pub stands_at : Execution → ℕ → ℕ → Bool
stands_at x at server = (server == x.me.0) || tells_of (slice_index_or x.dispatch.acks server None) x.contract.since at

-- more than half of a set pass a test
abbrev pub more_than_half : (ℕ → Bool) → List ℕ → Bool
more_than_half passes set = nat_lt (length set) (length (filter passes set) + length (filter passes set))

abbrev pub more_than_half_of : (ℕ → Bool) → Option (List ℕ) → Bool
more_than_half_of passes None = true
more_than_half_of passes (Some set) = more_than_half passes set

-- more than half of the voters of the contract in force stand at a timestamp, and of the voters to come, where there are such
abbrev pub has_majorities : Execution → ℕ → Bool
has_majorities x at = more_than_half (stands_at x at) x.contract.voters && more_than_half_of (stands_at x at) x.contract.temp_voters

-- what waits took its timestamp, and the timestamps rise
pub record WaitsInOrder (x : Execution) : Type 0 where
  pub taken : all_below (x.last + 1) x.dispatch.waiting ≡ true
  pub rising : is_rising x.dispatch.waiting ≡ true

abbrev pub AllWaitInOrder : List Execution → Type 0
AllWaitInOrder xs = AllByRecursion WaitsInOrder xs

-- something waits at an execution of this branch
pub record StillWaits (xs : List Execution) (branch : Id) (d : Decided) : Type 0 where
  pub execution : Execution
  pub there : IsIn xs execution
  pub writes : execution.branch ≡ branch
  pub waits : IsIn execution.dispatch.waiting d

-- what an execution is after a step knows that a server stands at a timestamp
pub record CountsIt (xs : List Execution) (x : Execution) (server at : ℕ) : Type 0 where
  pub execution : Execution
  pub there : IsIn xs execution
  pub writes : execution.branch ≡ x.branch
  pub under : execution.contract ≡ x.contract
  pub counted : stands_at execution at server ≡ true
