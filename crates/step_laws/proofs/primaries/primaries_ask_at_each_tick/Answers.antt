use Rattle.step_laws.proofs.Asks.{asks_at_each_tick}
use Rattle.step_laws.proofs.primaries.primaries_ask_at_each_tick.Goals as goal

pub returns : goal.returns
returns c = asks_at_each_tick
