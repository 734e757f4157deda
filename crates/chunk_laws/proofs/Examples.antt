-- The facts of the example.
use Rattle.std.proofs.Common.{◌≡◌, ℕ, ◌<◌, inr, true, refl, arith}
use Rattle.region_map.specs.Regions.{before}
use Rattle.branch_history.specs.Histories.{IsHistory}
use Rattle.store_api.specs.Versions.{point}
use Rattle.store_api.specs.Rows.{has_key}
use Rattle.chunk_laws.specs.Written.{IsWritten, IsTaken}
use Rattle.chunk_laws.specs.Chunks.{MeetsAt, range}
use Rattle.chunk_laws.specs.Example.{key_a, key_b, first, second, first_birth, second_birth, branches, deletions, deleted, example}

on_first : (at : ℕ) → 0 < at → IsTaken branches (point first at)
on_first at later = record { branch = first; birth = first_birth; branch_is = refl; known = refl; later = later }

on_second : IsTaken branches (point second 3)
on_second = record { branch = second; birth = second_birth; branch_is = refl; known = refl; later = omega arith }

is_history : IsHistory branches
is_history = (refl, refl, (refl, tt), (refl, refl, tt, tt))

written_a : IsWritten deletions branches 1 key_a
unfolding before
written_a = record {
  history = is_history;
  in_time = (λ e. record { on = refl; before = omega arith }, (λ e. record { on = refl; before = omega arith }, tt));
  leaves = λ before p. inr (record { the_row = deleted p.1.timestamp; row_is = refl; recency_is = refl });
  taken = (λ e. on_first 1 (omega arith), (λ e. on_first 1 (omega arith), (λ e. on_first 2 (omega arith), (λ e. on_second, tt))));
  in_order = (λ e. absurd (cc), (λ e. (λ f. refl, (λ f. refl, tt)), (λ e. (λ f. refl, tt), (λ e. tt, tt))));
}

written_b : IsWritten deletions branches 1 key_b
unfolding before
written_b = record {
  history = is_history;
  in_time = (λ e. record { on = refl; before = omega arith }, (λ e. record { on = refl; before = omega arith }, tt));
  leaves = λ before p. inr (record { the_row = deleted p.1.timestamp; row_is = refl; recency_is = refl });
  taken = (λ e. on_first 1 (omega arith), (λ e. on_first 1 (omega arith), (λ e. on_first 2 (omega arith), (λ e. on_second, tt))));
  in_order = (λ e. (λ f. absurd (cc), (λ f. absurd (cc), (λ f. absurd (cc), tt))), (λ e. absurd (cc), (λ e. absurd (cc), (λ e. tt, tt))));
}

pub meets_at_a : MeetsAt deletions branches example second 3 key_a
unfolding before
meets_at_a = record { written = written_a; version = point first 2; receiver_row = refl; sender_row = refl; ancestor = point first 1; bound = refl; receiver_has = refl; sender_has = refl }

pub meets_at_b : MeetsAt deletions branches example second 3 key_b
unfolding before
meets_at_b = record { written = written_b; version = point first 2; receiver_row = refl; sender_row = refl; ancestor = point first 1; bound = refl; receiver_has = refl; sender_has = refl }

pub a_in_range : has_key (range example) 1 key_a ≡ true
unfolding before
a_in_range = refl

pub b_in_range : has_key (range example) 1 key_b ≡ true
unfolding before
b_in_range = refl
