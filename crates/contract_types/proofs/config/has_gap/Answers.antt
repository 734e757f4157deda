use Rattle.contract_types.proofs.Everywhere.{whole_decides}
use Rattle.contract_types.proofs.config.has_gap.Goals as goal

pub returns : goal.returns
returns c = whole_decides c.args.hashes c.args.shards.now c.args.shards.now c.allows_everywhere.result c.allows_everywhere.ensures
