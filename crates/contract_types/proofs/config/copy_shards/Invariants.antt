use Rattle.std.proofs.Common.{◌≡◌, take}
use Rattle.contract_types.proofs.config.copy_shards.Given as goal

abbrev pub invariant-loop-shard : goal.invariant-loop-shard
invariant-loop-shard l = l.copy.items ≡ take l.shard-index l.shards
