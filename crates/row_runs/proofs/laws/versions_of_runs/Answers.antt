use Rattle.row_runs.proofs.StoredLaws.{stored_version}
use Rattle.row_runs.proofs.laws.versions_of_runs.Goals as goal

pub returns : goal.returns
returns c = stored_version
