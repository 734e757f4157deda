use Rattle.contract_types.proofs.Shards.{one_shard_place}
use Rattle.contract_types.proofs.laws.no_two_shards_have_a_pair.Goals as goal

pub returns : goal.returns
returns c = one_shard_place
