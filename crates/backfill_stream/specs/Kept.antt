-- How parts are kept, those in front of a place being acknowledged.
use Rattle.std.specs.Prelude.{ℕ, ◌≤◌, List, length, drop}
use Rattle.backfill_stream.specs.Parts.{AreNumbered}

pub record IsKept {P : Type 0} (next front : ℕ) (parts : List (ℕ × P)) : Type 0 where
  pub within : front ≤ length parts
  pub numbers : AreNumbered next (drop front parts)
  pub few : length (drop front parts) ≤ 1024
