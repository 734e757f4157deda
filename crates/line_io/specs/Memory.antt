-- A source and a sink in memory, whose calls of given numbers fail.
use Rattle.std.specs.Prelude.{ℕ, Bool, ◌-◌, ◌==◌, ◌||◌, nat_lt, min, List, ◌++◌, length, drop, if◌then◌else◌}
use Rattle.std.specs.List.{list_any}
use Rattle.line_io.specs.Counts.{counted_up}

-- a source: what is left, the number of the last call, the numbers of the calls that fail, the faults
pub record Giving : Type 0 where
  pub left : List ℕ
  pub call : ℕ
  pub failing : List ℕ
  pub faults : ℕ

-- a sink: what it holds, for how many more bytes there is room, and the rest as for a source
pub record Holding : Type 0 where
  pub held : List ℕ
  pub room : ℕ
  pub call : ℕ
  pub failing : List ℕ
  pub faults : ℕ

-- a call of this number fails
abbrev pub fails : List ℕ → ℕ → Bool
fails failing call = list_any (λ k. k == call) failing

-- the next read fails
abbrev pub read_fails : Giving → Bool
read_fails s = fails s.failing (counted_up s.call)

-- how many bytes the next read gives into so much room, unless it fails
abbrev pub read_count : Giving → ℕ → ℕ
read_count s room = min (length s.left) room

-- the source after a read into so much room
abbrev pub after_read : Giving → ℕ → Giving
after_read s room =
    if read_fails s then record s { call = counted_up s.call; faults = counted_up s.faults } else record s { call = counted_up s.call; left = drop (read_count s room) s.left }

-- the next write of this piece fails: by its number, or for want of room
abbrev pub write_fails : Holding → List ℕ → Bool
write_fails s piece = fails s.failing (counted_up s.call) || nat_lt s.room (length piece)

-- the sink after a write of this piece
abbrev pub after_write : Holding → List ℕ → Holding
after_write s piece =
    if write_fails s piece then record s { call = counted_up s.call; faults = counted_up s.faults } else record s { call = counted_up s.call; held = s.held ++ piece; room = s.room - length piece }
