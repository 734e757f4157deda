use Rattle.store_api.specs.Rows.{newer_keys}
use Rattle.backfill_items.proofs.KeySets.{pre_found, sorted_newer, sorted_taken, pre_within}
use Rattle.backfill_items.proofs.laws.pre_has_each_newer_key.Goals as goal

pub returns : goal.returns
returns c = record {
  found = pre_found;
  ordered = λ part above rows limit o. sorted_taken limit (newer_keys part above rows) (sorted_newer part above rows o);
  within = pre_within;
}
