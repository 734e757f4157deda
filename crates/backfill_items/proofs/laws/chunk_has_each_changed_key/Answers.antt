use Rattle.std.proofs.Common.{◌≡◌, true}
use Rattle.store_api.specs.Rows.{has_key}
use Rattle.backfill_items.specs.Changed.{chunk_keys}
use Rattle.backfill_items.proofs.KeySets.{chunk_found, sorted_chunk, sorted_taken, all_taken, chunk_inside, chunk_within}
use Rattle.backfill_items.proofs.laws.chunk_has_each_changed_key.Goals as goal

pub returns : goal.returns
returns c = record {
  found = chunk_found;
  ordered = λ part above rows pre limit o. sorted_taken limit (chunk_keys part above rows pre) (sorted_chunk part above rows pre o);
  inside = λ part above rows pre limit all. all_taken (λ key. has_key part above.hashes key ≡ true) limit (chunk_keys part above rows pre) (chunk_inside part above rows pre all);
  within = chunk_within;
}
