-- Counts that are no majority.
use Rattle.std.specs.Prelude.{ℕ, ◌*◌, ◌≤◌, ◌⊎◌, Option, Some, None}
use Rattle.row_runs.specs.runs.contract_types.declared.counts.Counts.{Counts}

-- where temporary voters are set, twice the counted ones are at most all of them
abbrev pub LacksTemporary : Option (ℕ × ℕ) → Type 0
LacksTemporary None = ⊥
LacksTemporary (Some c) = 2 * c.0 ≤ c.1

-- twice the counted voters are at most all voters, or so it is with the temporary voters
abbrev pub LacksMajority : Counts → Type 0
LacksMajority counts = (2 * counts.voters ≤ counts.of) ⊎ LacksTemporary counts.temp
