use Rattle.store_api.specs.Rows.{is_newer}
use Rattle.store_api.proofs.Scans.{newer_keys-has, ordered-filter}
use Rattle.store_api.proofs.laws.scans_find_what_is_newer.Goals as goal

pub returns : goal.returns
returns c = record { found = newer_keys-has; ordered = λ part above rows o. ordered-filter (is_newer part above) rows o }
