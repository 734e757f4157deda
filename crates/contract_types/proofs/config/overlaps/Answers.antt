use Rattle.contract_types.proofs.Everywhere.{apart_decides}
use Rattle.contract_types.proofs.config.overlaps.Goals as goal

pub returns : goal.returns
returns c = apart_decides c.args.shards.now c.args.shards.now c.allows_everywhere.result c.allows_everywhere.ensures
