-- How many copies of a message come, by a number that is drawn from the seed and the message's own number.
use Rattle.std.specs.Prelude.{ℕ, ◌+◌, ◌%◌, ◌^◌, nat_lt, if◌then◌else◌}
use Rattle.rand_xoshiro.specs.SplitMix64.{mix_u64}
use Rattle.node_turn.specs.declared.chance.Chance.{Chance}

-- from 0 to 99: the first word of SplitMix64, seeded with the sum, which wraps
unfoldable pub drawn : ℕ → ℕ → ℕ
drawn seed message = (mix_u64 ((seed + message) % 2 ^ 64)).0 % 100

-- a message is lost, comes twice, or comes once
abbrev pub copies_due : Chance → ℕ → ℕ
copies_due chance message =
    if nat_lt (drawn chance.seed message) chance.loss then 0
    else if nat_lt (drawn chance.seed message) (chance.loss + chance.twice) then 2 else 1
