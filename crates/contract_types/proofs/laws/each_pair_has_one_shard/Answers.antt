use Rattle.contract_types.proofs.Shards.{one_shard}
use Rattle.contract_types.proofs.laws.each_pair_has_one_shard.Goals as goal

pub returns : goal.returns
returns c = one_shard
