-- When a later ack takes nothing back.
use Rattle.std.specs.Prelude.{ℕ, Bool, true, ◌||◌, nat_le, Option, Some, None}
use Rattle.write_dispatch.specs.declared.decided.KeptAck.{KeptAck}

-- a pair of a greater view has no smaller timestamp than the kept one
abbrev pub keeps_pace : ℕ → ℕ → Option KeptAck → Bool
keeps_pace view at None = true
keeps_pace view at (Some kept) = nat_le view kept.view || nat_le kept.at at
