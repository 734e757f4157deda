-- A small exchange that has the facts. Keys a and b were deleted on a first branch. The receiver deleted a there once more;
-- that was lost, and the sender deleted a on a second branch, which goes on from before.
use Rattle.std.specs.Prelude.{ℕ, List, [], ◌∷◌, Some, None}
use Rattle.region_map.specs.declared.id.Id.{Id}
use Rattle.region_map.specs.declared.region.Region.{Region}
use Rattle.branch_history.specs.declared.version.Version.{Version}
use Rattle.branch_history.specs.declared.history.BranchBirth.{BranchBirth}
use Rattle.branch_history.specs.Paths.{Branches}
use Rattle.store_api.specs.declared.Row.{Row}
use Rattle.store_api.specs.Rows.{is_same_key}
use Rattle.store_api.specs.Versions.{point}
use Rattle.chunk_laws.specs.Written.{Writes}
use Rattle.chunk_laws.specs.Chunks.{Exchange}

abbrev pub key_a : List ℕ
key_a = 97 ∷ []

abbrev pub key_b : List ℕ
key_b = 98 ∷ []

abbrev pub everything : Region
everything = record { hash_from = 0; hash_to = 1; from = None; to = None }

abbrev pub first : Id
first = record { node = record { 0 = 0 }; life = 1; counter = 1 }

abbrev pub second : Id
second = record { node = record { 0 = 1 }; life = 1; counter = 1 }

abbrev pub first_birth : BranchBirth
first_birth = record { region = everything; initial = 0; origin = record { hashes = 1; pieces = [] }; tenure = 0 }

abbrev pub second_birth : BranchBirth
second_birth = record { region = everything; initial = 1; origin = record { hashes = 1; pieces = (everything, point first 1) ∷ [] }; tenure = 1 }

abbrev pub branches : Branches
branches = (second, second_birth) ∷ (first, first_birth) ∷ []

abbrev pub deleted : ℕ → Row
deleted at = record { value = None; recency = at }

-- deletions, each of a key at a point
abbrev pub deletions : Writes (List ℕ × Version)
deletions = record {
  taken = (key_b, point first 1) ∷ (key_a, point first 1) ∷ (key_a, point first 2) ∷ (key_a, point second 3) ∷ [];
  is_of = λ key p. is_same_key p.0 key;
  place = λ p. p.1;
  step = λ before p. Some (deleted p.1.timestamp);
}

abbrev pub example : Exchange
example = record {
  part = everything;
  above = record { hashes = 1; pieces = (everything, 1) ∷ [] };
  receiver = (key_a, deleted 2) ∷ (key_b, deleted 1) ∷ [];
  sender = (key_a, deleted 3) ∷ (key_b, deleted 1) ∷ [];
  most_named = 64;
  most = 64;
}
