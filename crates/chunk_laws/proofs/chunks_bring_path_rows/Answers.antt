use Rattle.chunk_laws.proofs.Brought.{brought_path, brought_everywhere}
use Rattle.chunk_laws.proofs.chunks_bring_path_rows.Goals as goal

pub returns : goal.returns
returns g c = record { at = brought_path; everywhere = brought_everywhere }
