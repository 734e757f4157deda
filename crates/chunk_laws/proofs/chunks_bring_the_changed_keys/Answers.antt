use Rattle.chunk_laws.proofs.Brought.{brought_inside, brought_outside}
use Rattle.chunk_laws.proofs.chunks_bring_the_changed_keys.Goals as goal

pub returns : goal.returns
returns c = record { inside = brought_inside; outside = brought_outside }
