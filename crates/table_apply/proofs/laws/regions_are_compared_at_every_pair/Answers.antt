use Rattle.table_apply.proofs.Meaning.{tile_means}
use Rattle.table_apply.proofs.laws.regions_are_compared_at_every_pair.Goals as goal

pub returns : goal.returns
returns c = tile_means
