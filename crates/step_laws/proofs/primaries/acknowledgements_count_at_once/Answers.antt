use Rattle.step_laws.proofs.Acknowledged.{counted_at_once}
use Rattle.step_laws.proofs.primaries.acknowledgements_count_at_once.Goals as goal

pub returns : goal.returns
returns c = counted_at_once
