use Rattle.table_apply.proofs.Meaning.{based_means}
use Rattle.table_apply.proofs.laws.branches_are_compared_at_every_pair.Goals as goal

pub returns : goal.returns
returns c = based_means
