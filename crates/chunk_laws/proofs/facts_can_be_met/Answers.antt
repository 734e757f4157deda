use Rattle.chunk_laws.proofs.Examples.{a_in_range, b_in_range, meets_at_a, meets_at_b}
use Rattle.chunk_laws.proofs.facts_can_be_met.Goals as goal

pub returns : goal.returns
returns c = record { range = (a_in_range, b_in_range); changed = meets_at_a; kept = meets_at_b }
