use Rattle.contract_types.proofs.Shards.{config_decides}
use Rattle.contract_types.proofs.laws.a_test_finds_configurations.Goals as goal

pub returns : goal.returns
returns c = config_decides
